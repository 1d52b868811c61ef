-- What a replay does with one line.
use Rattle.std.specs.Prelude.{◌≡◌, ℕ, Bool, List, ◌++◌, Option}
use Rattle.std.specs.Io.KnownBytes.{Appends}
use Rattle.board_core.specs.Course.{Course}
use Rattle.script_lines.specs.declared.script.Doing.{Doing}
use Rattle.script_lines.specs.declared.script.Doing.TheVariants.{Cut}
use Rattle.printed_lines.specs.Words.{as_line, line_words}
use Rattle.script_tasks.specs.declared.replaying.Replayed.{Replayed}
use Rattle.script_tasks.specs.declared.replaying.Replayed.TheVariants.{ToTheEnd, UpToCut}
use Rattle.script_tasks.specs.PrintedScripts.{FitsAnswer, OpFits}
use Rattle.script_tasks.specs.Replay.{is_history_full}
use Rattle.script_tasks.specs.Running.{answer_to, course_with}

-- The step, or the cut, was done: the board is as it leaves it, and its line came behind what waits for the sink, which took a
-- beginning of both.
pub record IsDone (b next : Course) (doing : Doing) (full : Bool) (waiting later : List ℕ)
    (before after : Option (List ℕ)) (failed fails : ℕ) : Type 0 where
  pub course : next ≡ course_with b doing
  pub is_full : full ≡ is_history_full (answer_to b doing)
  pub step_fits : OpFits doing
  pub answer_fits : FitsAnswer (answer_to b doing)
  pub taken : List ℕ
  pub written : Appends before after taken
  pub passed : taken ++ later ≡ waiting ++ as_line (line_words doing (answer_to b doing))
  pub none_failed : fails ≡ failed

-- It was a cut, whose memory was refused: the page and the sink are as they were.
pub record IsLeft (doing : Doing) (waiting later : List ℕ) (before after : Option (List ℕ))
    (failed fails : ℕ) : Type 0 where
  pub cut : doing ≡ Cut
  pub page : later ≡ waiting
  pub sink : after ≡ before
  pub none_failed : fails ≡ failed

-- The one or the other of a line.
abbrev pub IsDoneOrLeft : (b next : Course) → Doing → Replayed → (waiting later : List ℕ)
    → (before after : Option (List ℕ)) → (failed fails : ℕ) → Type 0
IsDoneOrLeft b next doing (ToTheEnd met_full) waiting later before after failed fails =
    IsDone b next doing met_full waiting later before after failed fails
IsDoneOrLeft b next doing UpToCut waiting later before after failed fails =
    IsLeft doing waiting later before after failed fails

-- What holds where lines were replayed to their end.
abbrev pub IfToTheEnd : Replayed → Type 0 → Type 0
IfToTheEnd (ToTheEnd met_full) P = P
IfToTheEnd UpToCut P = Unit {0}
