-- The entry points of suspended harts (SBI 9.4).
use Rattle.std.specs.Prelude.{ℕ, List, [], ◌∷◌, Option, None}
use Rattle.sbi_abi.specs.declared.call.Call.{Call}
use Rattle.sbi_abi.specs.declared.call.Call.TheVariants.{Hsm}
use Rattle.sbi_abi.specs.Calls.{call_of}
use Rattle.hsm.specs.declared.hart.EntryPoint.{EntryPoint}
use Rattle.hsm.specs.Transitions.{hart_at}
use Rattle.board_rules.specs.History.{Event}
use Rattle.board_rules.specs.Opening.{Opening}
use Rattle.board_terms.specs.declared.op.Op.{Op}
use Rattle.board_terms.specs.declared.op.Op.TheVariants.{Ecall}
use Rattle.board_terms.specs.declared.reply.Reply.{Reply}
use Rattle.board_rules.specs.Calls.Hsm.{resume_by_hsm}
use Rattle.board_rules.specs.Course.{is_hart}
use Rattle.board_rules.specs.Writes.{Write, latest}

-- the entry point that a call writes
abbrev pub resume_by_call : Call → Reply → Option (Write (Option EntryPoint))
resume_by_call (Hsm call) reply = resume_by_hsm call reply
resume_by_call call reply = None

abbrev pub resume_by : Op → Reply → Option (Write (Option EntryPoint))
resume_by (Ecall regs) reply = resume_by_call (call_of regs) reply
resume_by op reply = None

-- The entry point of a hart's last suspend, if it has one; if there was no suspend, the opening's.
abbrev pub resume_point : Opening → List Event → ℕ → Option EntryPoint
resume_point o [] h = (hart_at o.harts h).kept
resume_point o (event ∷ past) h = latest (resume_by event.op event.reply) (is_hart h event.actor)
    (resume_point o past h)
