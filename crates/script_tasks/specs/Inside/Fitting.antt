-- Schedules whose replay is a trace: each of their numbers, and of the answers', has a place in a trace's line (profile).
use Rattle.std.specs.Prelude.{List, [], ◌∷◌}
use Rattle.std.specs.List.{AllByRecursion}
use Rattle.board_terms.specs.declared.config.Config.{Config}
use Rattle.board_core.specs.Course.{Course}
use Rattle.board_terms.specs.Limits.{IsGood}
use Rattle.script_lines.specs.declared.script.Line.{Line}
use Rattle.script_tasks.specs.PrintedScripts.{ActorFits, FitsAnswer, FitsConfig, OpFits}
use Rattle.script_tasks.specs.Running.{after_line, answer_of}

-- each actor may be written
abbrev pub ActorsFit : List Line → Type 0
ActorsFit lines = AllByRecursion (λ line. ActorFits line.doing) lines

-- a board that can be made, and lines, as they are read of a script
pub record AreRead (c : Config) (lines : List Line) : Type 0 where
  pub good : IsGood c
  pub config : FitsConfig c
  pub actors : ActorsFit lines

-- the numbers of each operation and of each answer fit registers
abbrev pub AllFit : Course → List Line → Type 0
AllFit b [] = Unit {0}
AllFit b (line ∷ lines) = OpFits line.doing × FitsAnswer (answer_of b line) × AllFit (after_line b line) lines
