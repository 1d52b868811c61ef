-- A line that is read as it is printed is what the reader of words reads.
use Rattle.std.proofs.Common.{◌≡◌, ℕ, ℤ, ◌+◌, Bool, true, false, not, ◌&&◌, List, [], ◌∷◌, ◌++◌, Option, Some, None, Ok, codes, refl, sym, ap, ◌∙◌, inl, inr}
use Rattle.std.specs.List.{AllByRecursion, join_with_byte, list_all}
use Rattle.std.specs.Str.Lines.{lines}
use Rattle.std.specs.Str.{bytes_eq}
use Rattle.std.specs.Str.Parse.{digits_value}
use Rattle.std.proofs.lemmas.Bool.{and_parts, cases_Bool, not-true, not_from_true}
use Rattle.std.proofs.lemmas.Slice.Eq.{bytes_eq-Decides}
use Rattle.std.proofs.lemmas.List.{append_assoc, append-nil}
use Rattle.board_terms.specs.declared.op.Actor.{Actor}
use Rattle.board_terms.specs.declared.op.Actor.TheVariants.{Hart, Clock}
use Rattle.board_terms.specs.Refusals.{first_that_holds}
use Rattle.guest_script.specs.declared.fault.FaultKind.{FaultKind}
use Rattle.guest_script.specs.declared.line_kind.LineKind.TheVariants.{Step}
use Rattle.script_lines.specs.declared.said.Said.{Said}
use Rattle.script_lines.specs.declared.script.Doing.{Doing}
use Rattle.script_lines.specs.declared.script.Doing.TheVariants as doings
use Rattle.script_lines.specs.declared.script.Line.{Line}
use Rattle.guest_script.specs.Inside.Drafts.{in_guest, steps_of}
use Rattle.guest_script.specs.Forms.{Form, form_of, guest_form_of, guest_forms, IsNamed, IsSaid, named, other_forms, said_form_of, said_forms}
use Rattle.board_terms.specs.declared.op.Op.{Op}
use Rattle.guest_script.specs.Words.{is_allowed, is_blank, is_hash, IsSigned}
use Rattle.guest_script.specs.Grammar.{Draft, Guest, OfGuest, Stepped, Traced, IsActor, IsDoing, IsStep, IsStepLine}
use Rattle.guest_script.specs.Values.{is_filled, next_in, with_step, words_in}
use Rattle.guest_script.specs.FirstFault.{byte_test, line_tests, may_follow}
use Rattle.guest_script.specs.Reading.{GoesOn, line_from, located, or_fault}
use Rattle.guest_script.specs.Inside.PlainLines.{behind, BeginsGuest, BeginsLine}
use Rattle.guest_script.proofs.LineWords.{next_passes, none_cons, NoneHolds, step_follows}
use Rattle.guest_script.proofs.LinesFrom.{goes_on}
use Rattle.guest_script.proofs.PlainWords.{append_all, arguments_plain, IsPlain, IsPlainByte, joined_line, lines_printed, spelled_plain}
use Rattle.line_words.proofs.Spacing.{line_allowed, line_words}

joined_behind : (first : List ℕ) (others : List (List ℕ)) → first ++ behind others ≡ join_with_byte 32 (first ∷ others)
joined_behind first [] = append-nil first
joined_behind first (word ∷ others) = ap (λ (b : List ℕ). first ++ 32 ∷ b) (joined_behind word others)

-- ---- names are plain

abbrev is_plain : List ℕ → Bool
is_plain word = is_filled word && list_all (λ b. is_allowed b && (not (is_blank b) && not (is_hash b))) word

bytes_plain : (word : List ℕ) → list_all (λ b. is_allowed b && (not (is_blank b) && not (is_hash b))) word ≡ true → AllByRecursion IsPlainByte word
bytes_plain [] all = tt
bytes_plain (b ∷ word) all =
    let first = and_parts (is_allowed b && (not (is_blank b) && not (is_hash b))) _ all in
    let parts = and_parts (is_allowed b) (not (is_blank b) && not (is_hash b)) first.0 in
    let others = and_parts (not (is_blank b)) (not (is_hash b)) parts.1 in
    (record { allowed = parts.0; solid = not-true _ others.0; no_hash = not-true _ others.1 }, bytes_plain word first.1)

word_plain : (word : List ℕ) → is_plain word ≡ true → IsPlain word
word_plain [] plain = absurd cc
word_plain (b ∷ word) plain = ((λ e. cc), bytes_plain (b ∷ word) plain)

named_plain : {A : Type 0} (table : List (List ℕ × Form A)) (name : List ℕ) (form : Form A) → list_all (λ row. is_plain row.0) table ≡ true → named table name ≡ Some form → IsPlain name
named_plain [] name form all has = absurd cc
named_plain (row ∷ table) name form all has =
    let parts = and_parts (is_plain row.0) (list_all (λ other. is_plain other.0) table) all in
    elim (cases_Bool (bytes_eq name row.0)) [
      | inl same ↦ word_plain name (ap is_plain ((bytes_eq-Decides name row.0).0 same) ∙ parts.0)
      | inr other ↦ named_plain table name form parts.1 (rw other at has)
    ]

op_name_plain : (name : List ℕ) (form : Form Op) → form_of name ≡ Some form → IsPlain name
unfolding form_of
op_name_plain name form has = named_plain (guest_forms ++ other_forms) name form refl has

-- ---- a step's words are plain

actor_plain : (word : List ℕ) (actor : Actor) → IsActor word actor → IsPlain word
actor_plain word (Hart h) is = spelled_plain word h is.1
actor_plain word Clock is = word_plain word (ap is_plain is)

step_plain : (words : List (List ℕ)) (actor : Actor) (op : Op) → IsStep words actor op → AllByRecursion IsPlain words
step_plain words actor op step =
    let named = step.is_op in
    rw (step.parts, named.parts) (
      actor_plain step.first actor step.is_actor,
      (op_name_plain named.name named.form named.has_form, arguments_plain named.form.may_be_absent named.form.limit named.others named.arguments named.are_arguments),
    )

doing_plain : (words : List (List ℕ)) (doing : Doing) → IsDoing words doing → AllByRecursion IsPlain words
doing_plain words doings.Cut is = rw is (word_plain (codes "cut") refl, tt)
doing_plain words (doings.Step actor op) is = step_plain words actor op is

said_name_plain : (name : List ℕ) (form : Form Said) → said_form_of name ≡ Some form → IsPlain name
unfolding said_form_of
said_name_plain name form has = named_plain said_forms name form refl has

signed_plain : (word : List ℕ) (e : ℤ) → IsSigned word e → IsPlain word
signed_plain word e (inl (numeral, small, made)) = spelled_plain word (digits_value 10 word) (inl (numeral, refl))
signed_plain word e (inr (digits, parts, numeral, small, made)) =
    let plain = spelled_plain digits (digits_value 10 digits) (inl (numeral, refl)) in
    rw parts ((λ none. cc), ((word_plain (codes "-") refl).1.0, plain.1))

said_plain : (words : List (List ℕ)) (said : Said) → IsSaid words said → AllByRecursion IsPlain words
said_plain words said (inl ret) =
    rw ret.parts (word_plain (codes "ret") refl, (signed_plain ret.error_word ret.error ret.is_error, (spelled_plain ret.value_word ret.value ret.is_value.1, tt)))
said_plain words said (inr named) =
    rw named.parts (said_name_plain named.name named.form named.has_form, arguments_plain named.form.may_be_absent named.form.limit named.others named.arguments named.are_arguments)

line_plain : (n : ℕ) (in_trace : Bool) (words : List (List ℕ)) (line : Line) → IsStepLine n in_trace words line → AllByRecursion IsPlain words
line_plain n false words line (number, said, is) = doing_plain words line.doing is
line_plain n true words line (before, after, said, number, has_said, parts, is, is_said) =
    rw parts (append_all IsPlain before (codes "->" ∷ after) (doing_plain before line.doing is) (word_plain (codes "->") refl, said_plain after said is_said))

-- ---- the line is read

located_none : (n : ℕ) (o : Option FaultKind) (x y : Draft) → o ≡ None → x ≡ y → located n (or_fault o x) ≡ Ok y
located_none n o x y none value = rw (none, value) refl

read_by : (n : ℕ) (draft : Draft) (text first : List ℕ) (others : List (List ℕ)) (next : Draft) → words_in text ≡ first ∷ others → list_all is_allowed text ≡ true
    → NoneHolds (line_tests draft (first ∷ others))
    → next_in n draft (first ∷ others) ≡ next → line_from n draft text ≡ Ok next
unfolding line_from
read_by n draft text first others next at allowed none value =
    let tests : NoneHolds (byte_test text ∷ line_tests draft (first ∷ others)) = none_cons (byte_test text) (line_tests draft (first ∷ others)) (not_from_true _ allowed) none in
    rw at (located_none n (first_that_holds (byte_test text ∷ line_tests draft (first ∷ others))) (next_in n draft (first ∷ others)) next tests value)

line_read : (n : ℕ) (in_trace : Bool) (draft : Draft) (words : List (List ℕ)) (line : Line) → AllByRecursion IsPlain words → IsStepLine n in_trace words line → may_follow draft (Step in_trace) ≡ true
    → line_from n draft (join_with_byte 32 words) ≡ Ok (with_step in_trace draft line)
line_read n in_trace draft words line plain is may =
    let joined = joined_line words plain in
    let follows = step_follows n in_trace draft words line (with_step in_trace draft line) may is refl in
    read_by n draft (join_with_byte 32 words) follows.first follows.others (with_step in_trace draft line) (line_words (join_with_byte 32 words) words joined ∙ follows.parts)
    (line_allowed (join_with_byte 32 words) words joined) follows.none follows.value

pub plain_read : (n : ℕ) (in_trace : Bool) (draft : Draft) (bytes : List ℕ) (line : Line) (after : List ℕ) → BeginsLine n in_trace bytes line after → may_follow draft (Step in_trace) ≡ true
    → GoesOn n draft bytes (n + 1) (with_step in_trace draft line) after
plain_read n in_trace draft bytes line after (first, others, parts, is) may =
    let words : List (List ℕ) = first ∷ others in
    let plain = line_plain n in_trace words line is in
    let whole : bytes ≡ (join_with_byte 32 words ++ 10 ∷ []) ++ after =
    parts ∙ sym (append_assoc first (behind others) (10 ∷ after)) ∙ ap (λ (b : List ℕ). b ++ 10 ∷ after) (joined_behind first others) ∙ sym (append_assoc (join_with_byte 32 words) (10 ∷ []) after) in
    goes_on n draft bytes (join_with_byte 32 words) after (ap lines whole ∙ lines_printed words after plain) (with_step in_trace draft line) (line_read n in_trace draft words line plain is may)

-- an operation more of a guest's block
guest_plain : (words : List (List ℕ)) (op : Op) → IsNamed guest_form_of words op → AllByRecursion IsPlain words
unfolding guest_form_of
guest_plain words op named = rw named.parts (
  named_plain guest_forms named.name named.form refl named.has_form,
  arguments_plain named.form.may_be_absent named.form.limit named.others named.arguments named.are_arguments,
)

pub guest_read : (n : ℕ) (before : List Guest) (clock : Option (List ℕ)) (addr : ℕ) (ops : List Op) (bytes : List ℕ) (op : Op) (after : List ℕ) → BeginsGuest bytes op after
    → GoesOn n (in_guest before clock addr ops) bytes (n + 1) (in_guest before clock addr (ops ++ op ∷ [])) after
guest_read n before clock addr ops bytes op after (first, others, parts, is) =
    let words : List (List ℕ) = first ∷ others in
    let draft = in_guest before clock addr ops in
    let next = in_guest before clock addr (ops ++ op ∷ []) in
    let plain = guest_plain words op is in
    let joined = joined_line words plain in
    let follows = next_passes n draft words next (inr (OfGuest (record { addr = addr; ops = ops ++ op ∷ [] }), (op, is, refl), refl)) in
    let read = read_by n draft (join_with_byte 32 words) follows.first follows.others next (line_words (join_with_byte 32 words) words joined ∙ follows.parts)
    (line_allowed (join_with_byte 32 words) words joined) follows.none follows.value in
    let whole : bytes ≡ (join_with_byte 32 words ++ 10 ∷ []) ++ after =
    parts ∙ sym (append_assoc first (behind others) (10 ∷ after)) ∙ ap (λ (b : List ℕ). b ++ 10 ∷ after) (joined_behind first others) ∙ sym (append_assoc (join_with_byte 32 words) (10 ∷ []) after) in
    goes_on n draft bytes (join_with_byte 32 words) after (ap lines whole ∙ lines_printed words after plain) next read

-- a step more of a schedule or a trace
pub step_read : (n : ℕ) (in_trace : Bool) (old new : List Line) (bytes after : List ℕ) → (line : Line) × BeginsLine n in_trace bytes line after × (new ≡ old ++ line ∷ [])
    → GoesOn n (steps_of in_trace old) bytes (n + 1) (steps_of in_trace new) after
step_read n false old new bytes after (line, begins, grown) = rw grown (plain_read n false (Stepped old) bytes line after begins refl)
step_read n true old new bytes after (line, begins, grown) = rw grown (plain_read n true (Traced old) bytes line after begins refl)
