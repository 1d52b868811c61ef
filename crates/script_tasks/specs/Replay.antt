-- What the replay of a schedule writes, and how it ends (profile).
use Rattle.std.specs.Prelude.{◌≡◌, ℕ, ◌≤◌, Bool, true, false, ◌||◌, List, [], ◌∷◌, ◌++◌, length, Option, Some, None, Result, Ok, Err}
use Rattle.board_terms.specs.declared.config.Config.{Config}
use Rattle.board_terms.specs.declared.reply.Refusal.{Refusal}
use Rattle.board_terms.specs.declared.reply.Refusal.TheVariants as refusals
use Rattle.board_terms.specs.declared.reply.Reply.{Reply}
use Rattle.board_core.specs.Course.{Course}
use Rattle.script_lines.specs.declared.script.Line.{Line}
use Rattle.guest_script.specs.Grammar.{Content, Empty, Program, most_bytes, Schedule, Trace}
use Rattle.monitor.specs.Table.{table}
use Rattle.printed_lines.specs.Words.{board_line_words, as_line, line_words}
use Rattle.script_tasks.specs.declared.outcome.Outcome.{Outcome}
use Rattle.script_tasks.specs.declared.outcome.Outcome.TheVariants.{Good, HistoryFull, NoMemory}
use Rattle.script_tasks.specs.declared.replaying.Replayed.{Replayed}
use Rattle.script_tasks.specs.declared.replaying.Replayed.TheVariants.{ToTheEnd, UpToCut}
use Rattle.script_tasks.specs.Check.{agrees_text, EndsCheck}
use Rattle.script_tasks.specs.Running.{after_line, answer_of, course_after, EndsAs, new_course, StopsAtCut}

-- the lines of a schedule; an empty script is one without lines
abbrev pub scheduled : Content → Option (List Line)
scheduled Empty = Some []
scheduled (Program blocks clock) = None
scheduled (Schedule lines) = Some lines
scheduled (Trace lines) = None

-- each line with its reply or refusal, by the accepted lines before it since the last cut, and what that cut left
abbrev pub lines_text : Course → List Line → List ℕ
lines_text b [] = []
lines_text b (line ∷ lines) =
    as_line (line_words line.doing (answer_of b line)) ++ lines_text (after_line b line) lines

abbrev pub is_history_full : Result Reply Refusal → Bool
is_history_full (Ok reply) = false
is_history_full (Err refusals.Off) = false
is_history_full (Err refusals.WrongPhase) = false
is_history_full (Err refusals.Nothing) = false
is_history_full (Err refusals.HistoryFull) = true
is_history_full (Err refusals.TimeFull) = false

-- some line was refused since the history was full
abbrev pub meets_full : Course → List Line → Bool
meets_full b [] = false
meets_full b (line ∷ lines) = is_history_full (answer_of b line) || meets_full (after_line b line) lines

abbrev pub board_table : Course → List ℕ
board_table b = table b.opening b.past

-- The board line, the lines with their replies, and the table of the board after them.
unfoldable pub text_of : Config → List Line → List ℕ
text_of c lines =
    as_line (board_line_words c) ++ (lines_text (new_course c) lines ++ board_table (course_after (new_course c) lines))

-- The text of these lines' replay. If it isn't too long, it is a trace, and its check says that as many lines agree.
pub record IsReplay (c : Config) (lines : List Line) (text : List ℕ) : Type 0 where
  pub is_text : text ≡ text_of c lines
  pub accepted : length text ≤ most_bytes → EndsCheck text Good (agrees_text (length lines))

-- What was written of lines, and whether one met a full history. If an allocation for a cut failed, those before it were
-- written.
abbrev pub AreDone : Course → List Line → Replayed → List ℕ → Type 0
AreDone b lines UpToCut text = (before : List Line) × StopsAtCut lines before × (text ≡ lines_text b before)
AreDone b lines (ToTheEnd met_full) text = (met_full ≡ meets_full b lines) × (text ≡ lines_text b lines)

-- the same of a schedule's replay as a whole
abbrev pub IsPrinted : Config → List Line → Replayed → List ℕ → Type 0
IsPrinted c lines UpToCut text =
    (before : List Line) × StopsAtCut lines before
    × (text ≡ as_line (board_line_words c) ++ lines_text (new_course c) before)
IsPrinted c lines (ToTheEnd met_full) text = (met_full ≡ meets_full (new_course c) lines) × (text ≡ text_of c lines)

-- What the replay of these lines writes with each outcome. If an allocation for a cut failed, it has written what comes before.
abbrev pub Replays : Config → List Line → Outcome → List ℕ → Type 0
Replays c lines Good text = (meets_full (new_course c) lines ≡ false) × IsReplay c lines text
Replays c lines HistoryFull text = (meets_full (new_course c) lines ≡ true) × IsReplay c lines text
Replays c lines NoMemory text = IsPrinted c lines UpToCut text
Replays c lines outcome text = ⊥

-- What the replay of bytes writes with each outcome.
abbrev pub EndsReplay : List ℕ → Outcome → List ℕ → Type 0
EndsReplay bytes outcome text = EndsAs scheduled Replays bytes outcome text
