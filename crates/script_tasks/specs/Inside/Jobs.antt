-- What is done with a script, by its name (profile).
use Rattle.std.specs.Prelude.{ℕ, List, Option}
use Rattle.board_terms.specs.declared.config.Config.{Config}
use Rattle.script_lines.specs.declared.script.Line.{Line}
use Rattle.guest_script.specs.Grammar.{Content}
use Rattle.script_tasks.specs.declared.outcome.Outcome.{Outcome}
use Rattle.script_tasks.specs.declared.running.Job.{Job}
use Rattle.script_tasks.specs.declared.running.Job.TheVariants.{Replay, Check}
use Rattle.script_tasks.specs.Check.{Checks, traced}
use Rattle.script_tasks.specs.Replay.{Replays, scheduled}

-- the lines that it takes of a script, if that is of its kind
abbrev pub lines_for : Job → Content → Option (List Line)
lines_for Replay = scheduled
lines_for Check = traced

-- what it writes of lines with each outcome
abbrev pub Does : Job → Config → List Line → Outcome → List ℕ → Type 0
Does Replay = Replays
Does Check = Checks
