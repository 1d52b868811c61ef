-- Splits of records: why they fail (profile).
use Rattle.std.specs.Prelude.{nat_lt, if◌then◌else◌}
use Rattle.board_terms.specs.declared.config.BuildFault.{BuildFault}
use Rattle.board_terms.specs.declared.config.BuildFault.TheVariants.{CutFull, NoMemory}
use Rattle.board_core.specs.Course.{Course}
use Rattle.board_core.specs.Cuts.{last_cut}
use Rattle.board_core.specs.Opening.{place_after}

-- CutFull: after too many events, places have no room for a full history more. Otherwise out of memory.
abbrev pub split_fault : Course → BuildFault
split_fault b = if nat_lt last_cut (place_after b.opening b.past) then CutFull else NoMemory
