-- What the check of a trace writes, and how it ends (profile).
use Rattle.std.specs.Prelude.{◌≡◌, ◌⊎◌, ℕ, List, [], ◌∷◌, ◌++◌, length, codes, decimal, Option, Some, None, Result}
use Rattle.std.specs.List.{join_with_byte}
use Rattle.board_terms.specs.declared.config.Config.{Config}
use Rattle.board_terms.specs.declared.reply.Refusal.{Refusal}
use Rattle.board_terms.specs.declared.reply.Reply.{Reply}
use Rattle.board_core.specs.Course.{Course}
use Rattle.script_lines.specs.declared.script.Line.{Line}
use Rattle.script_lines.specs.Agreeing.{said_of}
use Rattle.guest_script.specs.Grammar.{Content, Empty, Program, Schedule, Trace}
use Rattle.printed_lines.specs.Words.{reply_words}
use Rattle.script_tasks.specs.declared.outcome.Outcome.{Outcome}
use Rattle.script_tasks.specs.declared.outcome.Outcome.TheVariants.{Good, Differs, NoMemory}
use Rattle.script_tasks.specs.Running.{after_line, answer_of, EndsAs, new_course, StopsAtCut}

-- the lines of a trace; an empty script is one without lines
abbrev pub traced : Content → Option (List Line)
traced Empty = Some []
traced (Program blocks clock) = None
traced (Schedule lines) = None
traced (Trace lines) = Some lines

-- a line has the board's answer
abbrev pub Agrees : Course → Line → Type 0
Agrees b line = line.said ≡ Some (said_of (answer_of b line))

-- each line has the board's answer after the lines before it
abbrev pub AllAgree : Course → List Line → Type 0
AllAgree b [] = Unit {0}
AllAgree b (line ∷ lines) = Agrees b line × AllAgree (after_line b line) lines

-- The first line that differs has this number, and this is the board's own answer to it.
abbrev pub DiffersFirst : Course → List Line → (number : ℕ) → Result Reply Refusal → Type 0
DiffersFirst b [] number answer = ⊥
DiffersFirst b (line ∷ lines) number answer =
    ((¬ Agrees b line) × (number ≡ line.number) × (answer ≡ answer_of b line))
    ⊎ (Agrees b line × DiffersFirst (after_line b line) lines number answer)

-- the line `agrees K`
abbrev pub agrees_text : (count : ℕ) → List ℕ
agrees_text count = (codes "agrees " ++ decimal count) ++ 10 ∷ []

-- the line `differs at line L: REPLY`
abbrev pub differs_text : (number : ℕ) → Result Reply Refusal → List ℕ
differs_text number answer =
    (codes "differs at line " ++ decimal number) ++ (codes ": " ++ (join_with_byte 32 (reply_words answer) ++ 10 ∷ []))

-- What the check of these lines writes with each outcome. If an allocation for a cut failed, the lines before it agree.
abbrev pub Checks : Config → List Line → Outcome → List ℕ → Type 0
Checks c lines Good text = AllAgree (new_course c) lines × (text ≡ agrees_text (length lines))
Checks c lines Differs text =
    (number : ℕ) × (answer : Result Reply Refusal) × DiffersFirst (new_course c) lines number answer
    × (text ≡ differs_text number answer)
Checks c lines NoMemory text =
    (before : List Line) × StopsAtCut lines before × AllAgree (new_course c) before × (text ≡ [])
Checks c lines outcome text = ⊥

-- What the check of bytes writes with each outcome.
abbrev pub EndsCheck : List ℕ → Outcome → List ℕ → Type 0
EndsCheck bytes outcome text = EndsAs traced Checks bytes outcome text
