-- What is printed of a script is read back (profile).
use Rattle.std.specs.Prelude.{◌≡◌, ℕ, suc, ℤ, pos, negsuc, ◌+◌, ◌≤◌, true, List, [], ◌∷◌, ◌++◌, length, Some, IfSome, Result, Ok, decimal}
use Rattle.std.specs.Fmt.{signed_decimal}
use Rattle.std.specs.List.{AllByRecursion, flat_map, join_with_byte}
use Rattle.std.specs.Str.Lines.{lines}
use Rattle.amo.specs.Amos.{numbers}
use Rattle.board_terms.specs.declared.config.Config.{Config}
use Rattle.board_terms.specs.Limits.{numbers_of}
use Rattle.board_core.specs.Opening.{Opening}
use Rattle.board_terms.specs.declared.op.Actor.{Actor}
use Rattle.board_terms.specs.declared.op.Actor.TheVariants.{Hart, Clock}
use Rattle.board_terms.specs.declared.op.Op.{Op}
use Rattle.board_terms.specs.declared.op.Op.TheVariants.{Ecall, Load, Store, Fetch, Amo, WriteSatp, WriteSie, Sfence, Tick}
use Rattle.board_terms.specs.declared.reply.Refusal.{Refusal}
use Rattle.board_terms.specs.declared.reply.Reply.{Reply}
use Rattle.board_terms.specs.declared.reply.Reply.TheVariants.{Ret, Entry, Value}
use Rattle.board_core.specs.History.{Event}
use Rattle.script_lines.specs.declared.script.Doing.{Doing}
use Rattle.script_lines.specs.declared.script.Doing.TheVariants.{Step, Cut}
use Rattle.script_lines.specs.declared.script.Line.{Line}
use Rattle.script_lines.specs.Agreeing.{said_of}
use Rattle.guest_script.specs.Grammar.{Content, Empty, IsStepLine, most_bytes, Reads, Trace}
use Rattle.guest_script.specs.Words.{IsLine, IsNumber, IsSigned, last_above, last_below, last_hart, last_number}
use Rattle.monitor.specs.Table.{table}
use Rattle.printed_lines.specs.Words.{board_line_words, hex, as_line, line_words}

-- ---- numbers

-- a printed number spells that number
abbrev pub NumberReadsBack : Type 0
NumberReadsBack = (limit n : ℕ) → n ≤ limit → limit ≤ last_number
    → IsNumber limit (decimal n) n × IsNumber limit (hex n) n

-- a signed number of 64 bits
abbrev pub FitsError : ℤ → Type 0
FitsError (pos n) = n ≤ last_above
FitsError (negsuc n) = suc n ≤ last_below

-- a printed signed number spells that number
abbrev pub SignedReadsBack : Type 0
SignedReadsBack = (e : ℤ) → FitsError e → IsSigned (signed_decimal e) e

-- ---- a step and what it gave

-- the clock, or a hart with a number that may be written
abbrev pub FitsActor : Actor → Type 0
FitsActor (Hart h) = h ≤ last_hart
FitsActor Clock = Unit {0}

-- an operation whose numbers fit registers, with six arguments to a call
abbrev pub FitsOp : Op → Type 0
FitsOp (Ecall regs) = (regs.eid ≤ last_number) × (regs.fid ≤ last_number) × (length regs.a ≡ 6)
    × AllByRecursion (λ n. n ≤ last_number) regs.a
FitsOp (Load va) = va ≤ last_number
FitsOp (Store va value) = (va ≤ last_number) × (value ≤ last_number)
FitsOp (Fetch va) = va ≤ last_number
FitsOp (Amo at amo) = (at ≤ last_number) × AllByRecursion (λ n. n ≤ last_number) (numbers amo)
FitsOp (WriteSatp value) = value ≤ last_number
FitsOp (WriteSie value) = value ≤ last_number
FitsOp (Sfence va asid) = IfSome va (λ n. n ≤ last_number) × IfSome asid (λ n. n ≤ last_number)
FitsOp (Tick n) = n ≤ last_number
FitsOp op = Unit {0}

-- an answer whose numbers fit registers
abbrev pub FitsAnswer : Result Reply Refusal → Type 0
FitsAnswer (Ok (Ret answer)) = FitsError answer.error × (answer.value ≤ last_number)
FitsAnswer (Ok (Entry addr hart opaque)) = (addr ≤ last_number) × (hart ≤ last_number) × (opaque ≤ last_number)
FitsAnswer (Ok (Value value)) = value ≤ last_number
FitsAnswer answer = Unit {0}

-- the same of a step, and of a cut, which has neither
abbrev pub ActorFits : Doing → Type 0
ActorFits (Step actor op) = FitsActor actor
ActorFits Cut = Unit {0}

abbrev pub OpFits : Doing → Type 0
OpFits (Step actor op) = FitsOp op
OpFits Cut = Unit {0}

-- what was done, and what it gave
pub record Answered : Type 0 where
  pub doing : Doing
  pub answer : Result Reply Refusal

-- what can be written
pub record FitsAnswered (line : Answered) : Type 0 where
  pub actor : ActorFits line.doing
  pub op : OpFits line.doing
  pub answer : FitsAnswer line.answer

-- the words of a printed line
abbrev pub answered_words : Answered → List (List ℕ)
answered_words line = line_words line.doing line.answer

-- it as line n of a trace
abbrev pub trace_line : (n : ℕ) → Answered → Line
trace_line n line = record { number = n; doing = line.doing; said = Some (said_of line.answer) }

-- a printed line, with a blank between each two words, is a line of these words, which are that step or a cut, and what it gave
abbrev pub LineReadsBack : Type 0
LineReadsBack = (n : ℕ) (step : Answered) → FitsAnswered step
    → IsLine (join_with_byte 32 (answered_words step)) (answered_words step) × IsStepLine n true (answered_words step) (trace_line n step)

-- ---- a trace

-- no line has words: each is empty, blank or a comment
abbrev pub AreComments : List ℕ → Type 0
AreComments text = AllByRecursion (λ line. IsLine line []) (lines text)

-- each line of a board's table is a comment, or has no words
abbrev pub TableIsComments : Type 0
TableIsComments = (o : Opening) (past : List Event) → AreComments (table o past)

-- the steps as a trace's lines from line n on
abbrev pub trace_lines : (n : ℕ) → List Answered → List Line
trace_lines n [] = []
trace_lines n (step ∷ steps) = trace_line n step ∷ trace_lines (n + 1) steps

-- what lines of a trace are: an empty script, if there are none
abbrev pub trace_of : List Line → Content
trace_of [] = Empty
trace_of (line ∷ lines) = Trace (line ∷ lines)

-- the board line, the lines, and comments
abbrev pub printed : Config → List Answered → (comments : List ℕ) → List ℕ
printed c steps comments = as_line (board_line_words c) ++ (flat_map (λ step. as_line (answered_words step)) steps ++ comments)

-- a board of registers' numbers
abbrev pub FitsConfig : Config → Type 0
FitsConfig c = AllByRecursion (λ n. n ≤ last_number) (numbers_of c)

-- a printed trace that isn't too long is read as that trace, its lines numbered from 2
abbrev pub TraceReadsBack : Type 0
TraceReadsBack = (c : Config) (steps : List Answered) (comments : List ℕ) → FitsConfig c
    → AllByRecursion FitsAnswered steps → AreComments comments
    → length (printed c steps comments) ≤ most_bytes
    → Reads (printed c steps comments) (record { config = c; content = trace_of (trace_lines 2 steps) })
