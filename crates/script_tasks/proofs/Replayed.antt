-- What a replay has done after some of the lines.
use Rattle.std.proofs.Common.{◌≡◌, ℕ, Bool, true, false, List, [], ◌∷◌, ◌++◌, ◌||◌, refl, sym, ap, ◌∙◌, subst, append_assoc, append-nil}
use Rattle.std.specs.Prelude.{Option, Result}
use Rattle.std.specs.Io.KnownBytes.{Appends, Keeps}
use Rattle.std.proofs.KnownBytes.{Appends-kept, Appends-nil, Appends-trans}
use Rattle.board_terms.specs.declared.config.Config.{Config}
use Rattle.board_terms.specs.declared.reply.Refusal.{Refusal}
use Rattle.board_terms.specs.declared.reply.Reply.{Reply}
use Rattle.board_core.specs.Course.{Course}
use Rattle.script_lines.specs.declared.script.Doing.{Doing}
use Rattle.script_lines.specs.declared.script.Doing.TheVariants.{Cut}
use Rattle.script_lines.specs.declared.script.Line.{Line}
use Rattle.printed_lines.specs.Words.{board_line_words, as_line, line_words}
use Rattle.script_tasks.specs.declared.replaying.Replayed.TheVariants.{UpToCut}
use Rattle.script_tasks.specs.Replay.{AreDone, is_history_full, lines_text, meets_full, board_table, text_of}
use Rattle.script_tasks.specs.Running.{after_line, answer_of, answer_to, course_after, course_with, new_course}

-- what was written is the text of the lines that were done: with that of the others it is the whole text
pub record HasWritten (before after : Option (List ℕ)) (rest whole : List ℕ) : Type 0 where
  pub done : List ℕ
  pub written : Appends before after done
  pub whole_is : done ++ rest ≡ whole

-- from the board b the other lines lead where all lines lead from the first board
pub record Replaying (first b : Course) (lines others : List Line) (met_full : Bool) : Type 0 where
  pub course : course_after b others ≡ course_after first lines
  pub full : (met_full || meets_full b others) ≡ meets_full first lines

or_assoc : (a b c : Bool) → ((a || b) || c) ≡ (a || (b || c))
or_assoc true b c = refl
or_assoc false b c = refl

pub has_written-more : (before middle after : Option (List ℕ)) (others piece rest whole : List ℕ) → others ≡ piece ++ rest
    → HasWritten before middle others whole → Appends middle after piece → HasWritten before after rest whole
has_written-more before middle after others piece rest whole are so_far more = record {
  done = so_far.done ++ piece;
  written = Appends-trans before middle after so_far.done piece so_far.written more;
  whole_is = append_assoc so_far.done piece rest ∙ ap (λ text. so_far.done ++ text) (sym are) ∙ so_far.whole_is;
}

-- what waits on a page behind what was written, and then the text of the other lines, are the whole text
pub has_written-passed : (before middle after : Option (List ℕ)) (taken waiting later line others rest whole : List ℕ) → others ≡ line ++ rest
    → taken ++ later ≡ waiting ++ line → HasWritten before middle (waiting ++ others) whole → Appends middle after taken → HasWritten before after (later ++ rest) whole
has_written-passed before middle after taken waiting later line others rest whole are passes so_far more =
    has_written-more before middle after (waiting ++ others) taken (later ++ rest) whole
    (ap (λ text. waiting ++ text) are ∙ sym (append_assoc waiting line rest) ∙ ap (λ text. text ++ rest) (sym passes) ∙ append_assoc taken later rest)
    so_far more

module _ (b next : Course) (others rest : List Line) (line : Line) (are : others ≡ line ∷ rest) (course_is : next ≡ course_with b line.doing) where
  pub replaying-more : (first : Course) (lines : List Line) (met full : Bool) → full ≡ is_history_full (answer_of b line)
      → Replaying first b lines others met → Replaying first next lines rest (met || full)
  replaying-more first lines met full is so_far = record {
    course = ap (λ c. course_after c rest) course_is ∙ ap (course_after b) (sym are) ∙ so_far.course;
    full = or_assoc met full (meets_full next rest)
        ∙ ap (λ f. met || (f || meets_full next rest)) is
        ∙ ap (λ c. met || (is_history_full (answer_of b line) || meets_full c rest)) course_is
        ∙ ap (λ ls. met || meets_full b ls) (sym are) ∙ so_far.full;
  }

-- ---- lines that were done

course_after-append : (b : Course) (lines more : List Line) → course_after b (lines ++ more) ≡ course_after (course_after b lines) more
course_after-append b [] more = refl
course_after-append b (line ∷ lines) more = course_after-append (after_line b line) lines more

lines_text-append : (b : Course) (lines more : List Line) → lines_text b (lines ++ more) ≡ lines_text b lines ++ lines_text (course_after b lines) more
lines_text-append b [] more = refl
lines_text-append b (line ∷ lines) more =
    let own = as_line (line_words line.doing (answer_of b line)) in
    ap (λ text. own ++ text) (lines_text-append (after_line b line) lines more)
    ∙ sym (append_assoc own (lines_text (after_line b line) lines) (lines_text (course_after (after_line b line) lines) more))

-- Of these lines the others are left: from the first board those before them led to the board b, and what the sink took and what
-- waits on a page are their text.
pub record HasDone (first b : Course) (lines others : List Line) (old new : Option (List ℕ)) (waiting : List ℕ) : Type 0 where
  pub done : List Line
  pub parts : lines ≡ done ++ others
  pub course : b ≡ course_after first done
  pub taken : List ℕ
  pub written : Appends old new taken
  pub text : taken ++ waiting ≡ lines_text first done

pub has_done-none : (b : Course) (lines others : List Line) (known : Option (List ℕ)) (waiting : List ℕ) → others ≡ lines → waiting ≡ [] → HasDone b b lines others known known waiting
has_done-none b lines others known waiting all none = record { done = []; parts = sym all; course = refl; taken = []; written = Appends-nil known; text = none }

pub replaying-none : (b : Course) (lines others : List Line) → others ≡ lines → Replaying b b lines others false
replaying-none b lines others all = record { course = ap (course_after b) all; full = ap (meets_full b) all }

module _ (first b next : Course) (lines others rest : List Line) (line : Line) (are : others ≡ line ∷ rest) (course_is : next ≡ course_with b line.doing)
    (doing : Doing) (doing_is : doing ≡ line.doing) (answer : Result Reply Refusal) (answer_is : answer ≡ answer_to b line.doing) where
  pub has_done-more : (old middle new : Option (List ℕ)) (waiting taken later : List ℕ) → Appends middle new taken
      → taken ++ later ≡ waiting ++ as_line (line_words doing answer) → HasDone first b lines others old middle waiting → HasDone first next lines rest old new later
  has_done-more old middle new waiting taken later more passes so_far =
      let own = as_line (line_words doing answer) in
      let own_is : own ≡ lines_text (course_after first so_far.done) (line ∷ []) =
      ap (λ a. as_line (line_words a answer)) doing_is ∙ ap (λ a. as_line (line_words line.doing a)) answer_is
      ∙ ap (λ c. as_line (line_words line.doing (answer_to c line.doing))) so_far.course
      ∙ sym (append-nil (as_line (line_words line.doing (answer_to (course_after first so_far.done) line.doing)))) in
      record {
        done = so_far.done ++ line ∷ [];
        parts = so_far.parts ∙ ap (λ ls. so_far.done ++ ls) are ∙ sym (append_assoc so_far.done (line ∷ []) rest);
        course = course_is ∙ ap (λ c. course_with c line.doing) so_far.course ∙ sym (course_after-append first so_far.done (line ∷ []));
        taken = so_far.taken ++ taken;
        written = Appends-trans old middle new so_far.taken taken so_far.written more;
        text = append_assoc so_far.taken taken later ∙ ap (λ t. so_far.taken ++ t) passes ∙ sym (append_assoc so_far.taken waiting own)
            ∙ ap (λ t. t ++ own) so_far.text ∙ ap (λ t. lines_text first so_far.done ++ t) own_is ∙ sym (lines_text-append first so_far.done (line ∷ []));
      }

-- Memory for a cut was refused: what waited is written.
module _ (first b : Course) (lines others : List Line) (old middle new : Option (List ℕ)) (waiting : List ℕ) (so_far : HasDone first b lines others old middle waiting)
    (put : Appends middle new waiting) where
  pub stopped_at_cut : (line : Line) (rest : List Line) → others ≡ line ∷ rest → line.doing ≡ Cut
      → (text : List ℕ) × AreDone first lines UpToCut text × Appends old new text
  stopped_at_cut line rest are is_cut = (
    so_far.taken ++ waiting,
    (so_far.done, record { cut = line; after = rest; parts = so_far.parts ∙ ap (λ ls. so_far.done ++ ls) are; is_cut = is_cut }, so_far.text),
    Appends-trans old middle new so_far.taken waiting so_far.written put,
  )

-- the board line, the lines and the table, one after the other, are the schedule's text
pub text_of-printed : (config : Config) (first last : Course) (lines : List Line) (body_text : List ℕ) → body_text ≡ lines_text first lines
    → first ≡ new_course config → last ≡ course_after first lines
    → (at_first at_lines at_table at_flush at_end : Option (List ℕ))
    → Appends at_first at_lines (as_line (board_line_words config)) → Appends at_lines at_table body_text
    → Appends at_table at_flush (board_table last) → Keeps at_flush at_end → Appends at_first at_end (text_of config lines)
unfolding text_of
text_of-printed config first last lines body_text body_is opening_is last_is a b c d e head body table kept =
    let whole = Appends-kept a d e _ (Appends-trans a b d _ _ head (Appends-trans b c d _ _ body table)) kept in
    let lines_text_is : body_text ≡ lines_text (new_course config) lines = body_is ∙ ap (λ b. lines_text b lines) opening_is in
    let table_is : board_table last ≡ board_table (course_after (new_course config) lines) =
    ap board_table (last_is ∙ ap (λ b. course_after b lines) opening_is) in
    subst (λ t. Appends a e (as_line (board_line_words config) ++ t)) (λ i. lines_text_is i ++ table_is i) whole
