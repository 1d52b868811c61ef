-- How runs end, by the names that conditions use (profile).
use Rattle.std.specs.Prelude.{Option, Some, None}
use Rattle.condition_script.specs.declared.rules.Ending.{Ending}
use Rattle.condition_script.specs.declared.rules.Ending.TheVariants as endings
use Rattle.guest_programs.specs.declared.ends.End.{End}
use Rattle.guest_programs.specs.declared.ends.End.TheVariants as ends

-- The name of an end; none for a gate's, for which conditions have no name.
abbrev pub ending : End → Option Ending
ending ends.GateLimit = None
ending ends.Off = Some endings.Off
ending ends.HistoryFull = Some endings.HistoryFull
ending ends.Quiet = Some endings.Quiet
ending ends.Stuck = Some endings.Stuck
