-- How a task over a script ends (profile).
use Rattle.std.specs.Prelude.{◌≡◌, ◌⊎◌, ℕ, ◌<◌, Bool, true, List, [], ◌∷◌, ◌++◌, Option, Some, None, is_some, Result, Ok}
use Rattle.std.specs.Io.KnownBytes.{Appends, IsAtEnd}
use Rattle.board_terms.specs.declared.config.Config.{Config}
use Rattle.board_terms.specs.declared.reply.Refusal.{Refusal}
use Rattle.board_terms.specs.declared.reply.Reply.{Reply}
use Rattle.board_terms.specs.declared.reply.Reply.TheVariants.{Done}
use Rattle.board_core.specs.Course.{Course}
use Rattle.board_core.specs.Cuts.{opening_of}
use Rattle.board_terms.specs.Limits.{IsGood}
use Rattle.board_core.specs.Opening.{opening_at}
use Rattle.board_core.specs.Replies.{answer, stepped}
use Rattle.guest_script.specs.declared.fault.FaultKind.{FaultKind}
use Rattle.guest_script.specs.declared.fault.FaultKind.TheVariants as faults
use Rattle.guest_script.specs.declared.fault.ScriptFault.{ScriptFault}
use Rattle.script_lines.specs.declared.script.Doing.{Doing}
use Rattle.script_lines.specs.declared.script.Doing.TheVariants.{Step, Cut}
use Rattle.script_lines.specs.declared.script.Line.{Line}
use Rattle.guest_script.specs.FirstFault.{fault_number, first_fault}
use Rattle.guest_script.specs.Grammar.{Content, Reads, Written}
use Rattle.script_tasks.specs.declared.device.pieces.ReadFault.{ReadFault}
use Rattle.script_tasks.specs.declared.device.pieces.ReadFault.TheVariants.{Failed, Script as NoScript}
use Rattle.script_tasks.specs.declared.outcome.Outcome.{Outcome}
use Rattle.script_tasks.specs.declared.outcome.Outcome.TheVariants.{Good, Script, BadBoard, WrongKind, HistoryFull, Stuck, Differs, NoMemory, Io}

-- ---- a board and its lines

-- a new board's
abbrev pub new_course : Config → Course
new_course c = record { opening = opening_at c; past = [] }

-- what is answered: to a step what the board answers, and a cut is done
abbrev pub answer_to : Course → Doing → Result Reply Refusal
answer_to b (Step actor op) = answer b.opening b.past actor op
answer_to b Cut = Ok Done

abbrev pub answer_of : Course → Line → Result Reply Refusal
answer_of b line = answer_to b line.doing

-- the course after a cut: the board goes on with what its history leaves, and nothing happened since
abbrev pub after_cut : Course → Course
after_cut b = record { opening = opening_of b.opening b.past; past = [] }

-- the course after a step, whatever it was answered, or after a cut
abbrev pub course_with : Course → Doing → Course
course_with b (Step actor op) = stepped b actor op
course_with b Cut = after_cut b

abbrev pub after_line : Course → Line → Course
after_line b line = course_with b line.doing

-- the course after a list of lines, whatever was refused
abbrev pub course_after : Course → List Line → Course
course_after b [] = b
course_after b (line ∷ lines) = course_after (after_line b line) lines

-- The lines before a cut. A task ends there if an allocation for the cut fails.
pub record StopsAtCut (lines before : List Line) : Type 0 where
  pub cut : Line
  pub after : List Line
  pub parts : lines ≡ before ++ cut ∷ after
  pub is_cut : cut.doing ≡ Cut

-- ---- the end of a task

-- The bytes are a script of the right kind, with these lines or blocks, and its board can be made.
pub record Runs {A : Type 0} (lines_of : Content → Option A) (bytes : List ℕ) (config : Config)
    (lines : A) : Type 0 where
  pub script : Written
  pub reads : Reads bytes script
  pub config_is : script.config ≡ config
  pub lines_are : lines_of script.content ≡ Some lines
  pub good : IsGood config

-- Why no line was run: the bytes have a fault, or are a script of another kind, or its board can't be made, or an allocation
-- failed.
abbrev pub Stops : {A : Type 0} (lines_of : Content → Option A) → List ℕ → Outcome → Type 0
Stops lines_of bytes (Script line number) = (f : ScriptFault) × (first_fault bytes ≡ Some f) × (f.line ≡ line)
    × (fault_number f.fault ≡ number)
Stops lines_of bytes WrongKind = (s : Written) × Reads bytes s × (lines_of s.content ≡ None)
Stops lines_of bytes BadBoard = (s : Written) × Reads bytes s × (is_some (lines_of s.content) ≡ true)
    × (¬ IsGood s.config)
Stops lines_of bytes NoMemory = Unit {0}
Stops lines_of bytes outcome = ⊥

-- What is written with each outcome, by the bytes that were read. If the lines were run, `Ends` says it of the board and its
-- lines; otherwise nothing is written.
abbrev pub EndsAs : {A : Type 0} (lines_of : Content → Option A) (Ends : Config → A → Outcome → List ℕ → Type 0)
    → List ℕ → Outcome → List ℕ → Type 0
EndsAs {A} lines_of Ends bytes outcome text =
    ((config : Config) × (lines : A) × Runs lines_of bytes config lines × Ends config lines outcome text)
    ⊎ (Stops lines_of bytes outcome × (text ≡ []))

-- what a sink was given with each outcome; after a failed call nothing is said of it
abbrev pub Writes : (Ends : Outcome → List ℕ → Type 0) → Outcome → Option (List ℕ) → Option (List ℕ) → Type 0
Writes Ends Io old new = Unit {0}
Writes Ends outcome old new = (text : List ℕ) × Ends outcome text × Appends old new text

-- with the outcomes Good, HistoryFull, Stuck and Differs, the source was read to its end
abbrev pub EndsRead : Outcome → Option (List ℕ) → Type 0
EndsRead Good left = IsAtEnd left
EndsRead HistoryFull left = IsAtEnd left
EndsRead Stuck left = IsAtEnd left
EndsRead Differs left = IsAtEnd left
EndsRead outcome left = Unit {0}

-- with the same outcomes, the writer holds none of the text back
abbrev pub EndsFlushed : Outcome → (is_flushed : Bool) → Type 0
EndsFlushed Good is_flushed = is_flushed ≡ true
EndsFlushed HistoryFull is_flushed = is_flushed ≡ true
EndsFlushed Stuck is_flushed = is_flushed ≡ true
EndsFlushed Differs is_flushed = is_flushed ≡ true
EndsFlushed outcome is_flushed = Unit {0}

-- the counts of failed calls of a reader and of a writer: one is higher if and only if the outcome is Io
abbrev pub CountsEnd : Outcome → (reader reader' writer writer' : ℕ) → Type 0
CountsEnd Io reader reader' writer writer' = (reader < reader') ⊎ (writer < writer')
CountsEnd outcome reader reader' writer writer' = (reader' ≡ reader) × (writer' ≡ writer)

-- the outcome with a fault of the script, or with refused memory
abbrev pub ended_as : ℕ → FaultKind → Outcome
ended_as line faults.NoMemory = NoMemory
ended_as line fault = Script line (fault_number fault)

-- The outcome without a script: a call failed, or the bytes are none.
abbrev pub unread_as : ReadFault → Outcome
unread_as Failed = Io
unread_as (NoScript fault) = ended_as fault.line fault.fault
