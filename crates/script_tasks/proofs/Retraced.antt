-- What a replay writes is a trace with which the board agrees.
use Rattle.std.proofs.Common.{◌≡◌, ℕ, suc, ◌+◌, ◌≤◌, List, [], ◌∷◌, ◌++◌, length, true, false, Some, subst, refl, sym, ap, ◌∙◌, inl}
use Rattle.std.specs.List.{AllByRecursion, flat_map}
use Rattle.board_terms.specs.declared.config.Config.{Config}
use Rattle.board_core.specs.Course.{Course}
use Rattle.script_lines.specs.declared.script.Line.{Line}
use Rattle.guest_script.specs.Grammar.{most_bytes}
use Rattle.printed_lines.specs.Words.{board_line_words, as_line}
use Rattle.script_tasks.specs.declared.outcome.Outcome.TheVariants.{Good, HistoryFull}
use Rattle.script_tasks.specs.declared.replaying.Replayed.TheVariants.{ToTheEnd}
use Rattle.script_tasks.specs.Check.{AllAgree, agrees_text, EndsCheck, traced}
use Rattle.script_tasks.specs.Inside.Fitting.{ActorsFit, AllFit, AreRead}
use Rattle.script_tasks.specs.PrintedScripts.{Answered, FitsAnswered, printed, trace_lines, trace_of, answered_words}
use Rattle.script_tasks.specs.Replay.{IsPrinted, IsReplay, lines_text, Replays, board_table, text_of}
use Rattle.script_tasks.specs.Running.{after_line, answer_of, course_after, new_course}
use Rattle.script_tasks.proofs.Comments.{table_is_comments}
use Rattle.script_tasks.proofs.ReadBack.{trace_read_back}

-- the lines with what they are answered
abbrev answered : Course → List Line → List Answered
answered b [] = []
answered b (line ∷ lines) = record { doing = line.doing; answer = answer_of b line } ∷ answered (after_line b line) lines

lines_answered : (b : Course) (lines : List Line) → lines_text b lines ≡ flat_map (λ step. as_line (answered_words step)) (answered b lines)
lines_answered b [] = refl
lines_answered b (line ∷ lines) = ap (λ text. as_line (answered_words (record { doing = line.doing; answer = answer_of b line })) ++ text) (lines_answered (after_line b line) lines)

answered_fit : (b : Course) (lines : List Line) → ActorsFit lines → AllFit b lines → AllByRecursion FitsAnswered (answered b lines)
answered_fit b [] actors fits = tt
answered_fit b (line ∷ lines) actors fits =
    (record { actor = actors.0; op = fits.0; answer = fits.1 }, answered_fit (after_line b line) lines actors.1 fits.2)

all_agree : (n : ℕ) (b : Course) (lines : List Line) → AllAgree b (trace_lines n (answered b lines))
all_agree n b [] = tt
all_agree n b (line ∷ lines) = (refl, all_agree (n + 1) (after_line b line) lines)

as_many : (n : ℕ) (b : Course) (lines : List Line) → length (trace_lines n (answered b lines)) ≡ length lines
as_many n b [] = refl
as_many n b (line ∷ lines) = ap suc (as_many (n + 1) (after_line b line) lines)

pub traced_of : (lines : List Line) → traced (trace_of lines) ≡ Some lines
traced_of [] = refl
traced_of (line ∷ lines) = refl

accepted : (c : Config) (lines : List Line) → AreRead c lines → AllFit (new_course c) lines → (text : List ℕ) → text ≡ text_of c lines
    → length text ≤ most_bytes → EndsCheck text Good (agrees_text (length lines))
unfolding text_of
accepted c lines are fits text is short =
    let first = new_course c in
    let steps = answered first lines in
    let trace = trace_lines 2 steps in
    let comments = board_table (course_after first lines) in
    let same : text ≡ printed c steps comments = is ∙ ap (λ body. as_line (board_line_words c) ++ (body ++ comments)) (lines_answered first lines) in
    let fit = answered_fit first lines are.actors fits in
    let table = table_is_comments (course_after first lines).opening (course_after first lines).past in
    let reads = trace_read_back c steps comments are.config fit table (subst (λ t. length t ≤ most_bytes) same short) in
    subst (λ t. EndsCheck t Good (agrees_text (length lines))) (sym same)
    (inl (
      c,
      trace,
      record { script = record { config = c; content = trace_of trace }; reads = reads; config_is = refl; lines_are = traced_of trace; good = are.good },
      (all_agree 2 first lines, ap agrees_text (sym (as_many 2 first lines))),
    ))

-- the text of lines that were replayed
is_replay : (c : Config) (lines : List Line) → AreRead c lines → AllFit (new_course c) lines → IsReplay c lines (text_of c lines)
is_replay c lines are fits = record { is_text = refl; accepted = accepted c lines are fits (text_of c lines) refl }

module _ (c : Config) (lines : List Line) (are : AreRead c lines) (fits : AllFit (new_course c) lines) (text : List ℕ) where
  pub replays_well : IsPrinted c lines (ToTheEnd false) text → Replays c lines Good text
  replays_well (full, is) = (sym full, subst (IsReplay c lines) (sym is) (is_replay c lines are fits))

  pub replays_full : IsPrinted c lines (ToTheEnd true) text → Replays c lines HistoryFull text
  replays_full (full, is) = (sym full, subst (IsReplay c lines) (sym is) (is_replay c lines are fits))
