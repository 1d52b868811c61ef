-- Operations that do nothing to caches, and change neither the memory nor a satp.
use Rattle.std.specs.Prelude.{Bool, true, false}
use Rattle.board_terms.specs.declared.op.Op.{Op}
use Rattle.board_terms.specs.declared.op.Op.TheVariants.{Load, Fetch, WriteSie, WriteSstatusSie, ReadSip, ClearSsip, Wfi, Poll, Tick}

-- Whether an operation is such, whatever its reply.
abbrev pub is_quiet : Op → Bool
is_quiet (Load va) = true
is_quiet (Fetch va) = true
is_quiet (WriteSie value) = true
is_quiet (WriteSstatusSie value) = true
is_quiet ReadSip = true
is_quiet ClearSsip = true
is_quiet Wfi = true
is_quiet Poll = true
is_quiet (Tick n) = true
is_quiet op = false
