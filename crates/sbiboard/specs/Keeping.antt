-- What a run's keeper appends to a record, and the outcome of a run whose record was kept in part (profile).
use Rattle.std.specs.Prelude.{ℕ, List, [], ◌∷◌, ◌++◌, Option, Result, Ok, Err}
use Rattle.std.specs.Io.KnownBytes.{Appends}
use Rattle.printed_lines.specs.Words.{event_words, as_line}
use Rattle.sbiboard.specs.declared.keeping.KeepFault.{KeepFault}
use Rattle.sbiboard.specs.declared.keeping.KeepFault.TheVariants.{Failed, NoMemory as NoRoom}
use Rattle.sbiboard.specs.declared.keeping.Step.{Step}
use Rattle.script_tasks.specs.declared.outcome.Outcome.{Outcome}
use Rattle.script_tasks.specs.declared.outcome.Outcome.TheVariants.{Io, NoMemory}

-- the line of a step that was accepted
abbrev pub accepted_line : Step → List ℕ
accepted_line s = as_line (event_words s.actor s.op (Ok s.reply))

abbrev pub steps_text : List Step → List ℕ
steps_text [] = []
steps_text (s ∷ ss) = accepted_line s ++ steps_text ss

-- What was appended are the lines of some steps.
abbrev pub AppendsLines : (old new : Option (List ℕ)) → Type 0
AppendsLines old new = (steps : List Step) × Appends old new (steps_text steps)

-- The outcome of a run: the reason if its record was kept only in part, otherwise how the run ended.
abbrev pub reported_as : Outcome → Result (Unit {0}) KeepFault → Outcome
reported_as outcome (Ok done) = outcome
reported_as outcome (Err Failed) = Io
reported_as outcome (Err NoRoom) = NoMemory
