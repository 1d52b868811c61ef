-- The words of a line say something exactly where none of the line's tests holds.
use Rattle.std.proofs.Common.{◌≡◌, ℕ, suc, ◌≤◌, Bool, true, false, not, cond, eqb, ltb, ◌||◌, List, [], ◌∷◌, ◌++◌, length, Option, Some, None, is_some, codes, pos, refl, sym, ap, ◌∙◌, inl, inr, arith}
use Rattle.std.specs.Char.{digit_value, is_digit}
use Rattle.std.specs.List.{slice_index}
use Rattle.std.specs.Option.{unwrap_or}
use Rattle.std.specs.Str.{bytes_eq}
use Rattle.std.proofs.lemmas.Bool.{cases_Bool, lt-ltb, le-ltb, ltb-false, eqb-true, or_parts, or_from, not-false, not_from_true, false_from_ne_true}
use Rattle.std.proofs.lemmas.Slice.Eq.{bytes_eq-Decides}
use Rattle.board_terms.specs.declared.op.Actor.{Actor}
use Rattle.board_terms.specs.declared.op.Actor.TheVariants.{Hart, Clock}
use Rattle.board_terms.specs.declared.op.Op.{Op}
use Rattle.board_terms.specs.declared.op.Op.TheVariants.{Advance}
use Rattle.board_terms.specs.Refusals.{first_that_holds}
use Rattle.guest_script.specs.declared.fault.FaultKind.{FaultKind}
use Rattle.guest_script.specs.declared.fault.FaultKind.TheVariants.{BadNumber, OtherKind, SecondBlock, UnknownWord, WordCount}
use Rattle.guest_script.specs.declared.line_kind.LineKind.{LineKind}
use Rattle.guest_script.specs.declared.line_kind.LineKind.TheVariants.{Head, Step, Operation}
use Rattle.script_lines.specs.declared.said.Said.{Said}
use Rattle.script_lines.specs.declared.said.Said.TheVariants.{Done}
use Rattle.script_lines.specs.declared.script.Doing.{Doing}
use Rattle.script_lines.specs.declared.script.Doing.TheVariants as doings
use Rattle.script_lines.specs.declared.script.Line.{Line}
use Rattle.guest_script.specs.Words.{AreNumbers, IsNumber, Spells, last_hart, last_number}
use Rattle.guest_script.specs.Forms.{AreArguments, Form, IsArgument, IsNamed, IsRet, IsSaid, form_of, guest_form_of, number_at, said_form_of}
use Rattle.guest_script.specs.Grammar.{Blocked, Blocks, Draft, Guest, IsActor, IsDoing, IsHead, IsInBlock, IsNext, IsStep, IsStepLine, Nothing, OfClock, OfGuest, Open, Stepped, Traced, clock_of, guests_of, has_block, opened, with_op, with_tick}
use Rattle.guest_script.specs.Values.{actor_in, after_arrow, arguments_in, before_arrow, begins_actor_line, first_number, has_arrow, in_block, is_arrow, is_at, is_clock, is_clock_head, is_cut, is_filled, is_number, is_ret, is_signed, kind_of, line_in, made_by, named_in, next_in, next_of, number_in, op_in, opened_by, ret_in, said_in, signed_in, doing_in, with_step}
use Rattle.guest_script.specs.FirstFault.{actor_test, argument_tests, arguments_tests, doing_tests, form_tests, head_tests, in_block_tests, kind_tests, line_tests, may_follow, named_tests, number_tests, ret_tests, said_tests, step_tests}
use Rattle.guest_script.proofs.ArgumentsIn.{first_argument_fault}
use Rattle.guest_script.proofs.Spelling.{arguments_as_numbers, arguments_spelled, spelled_arguments}
use Rattle.line_words.proofs.Spelling.{number_spelled, signed_spelled, spelled_number, spelled_signed}

-- ---- tests of which none holds

abbrev pub NoneHolds : {F : Type 0} → List (Bool × F) → Type 0
NoneHolds tests = first_that_holds tests ≡ None

pub none_first : {F : Type 0} (test : Bool × F) (tests : List (Bool × F)) → NoneHolds (test ∷ tests) → (test.0 ≡ false) × NoneHolds tests
none_first test tests none = elim (cases_Bool test.0) [
  | inl holds ↦ absurd (let e = rw holds at none in cc)
  | inr fails ↦ (fails, rw fails at none)
]

pub none_cons : {F : Type 0} (test : Bool × F) (tests : List (Bool × F)) → test.0 ≡ false → NoneHolds tests → NoneHolds (test ∷ tests)
none_cons test tests fails none = rw fails none

-- ---- numbers

pub record AreCounted (least most : ℕ) (dash : Bool) (limit : ℕ) (words : List (List ℕ)) (ns : List (Option ℕ)) : Type 0 where
  pub enough : least ≤ length words
  pub not_more : length words ≤ most
  pub are_arguments : AreArguments dash limit words ns

all_from_none : (b : Bool) (fault : FaultKind) → cond b None (Some fault) ≡ None → b ≡ true
all_from_none true fault none = refl
all_from_none false fault none = absurd cc

pub arguments_read : (dash : Bool) (limit : ℕ) (words : List (List ℕ)) → NoneHolds (argument_tests dash limit words)
    → AreArguments dash limit words (arguments_in limit words)
arguments_read dash limit words none = arguments_spelled dash limit words (all_from_none _ _ (sym (first_argument_fault dash limit words) ∙ none))

pub arguments_tested : (least most : ℕ) (dash : Bool) (limit : ℕ) (words : List (List ℕ)) → NoneHolds (arguments_tests least most dash limit words)
    → AreCounted least most dash limit words (arguments_in limit words)
arguments_tested least most dash limit words none =
    let rows = none_first _ (argument_tests dash limit words) none in
    let counts = or_parts (ltb (length words) least) (ltb most (length words)) rows.0 in
    record {
      enough = ltb-false _ _ counts.0;
      not_more = ltb-false _ _ counts.1;
      are_arguments = arguments_read dash limit words rows.1;
    }

pub arguments_pass : (least most : ℕ) (dash : Bool) (limit : ℕ) (words : List (List ℕ)) (ns : List (Option ℕ)) → AreCounted least most dash limit words ns
    → NoneHolds (arguments_tests least most dash limit words) × (arguments_in limit words ≡ ns)
arguments_pass least most dash limit words ns counted =
    let spelled = spelled_arguments dash limit words ns counted.are_arguments in
    let count = or_from (ltb (length words) least) (ltb most (length words)) (le-ltb _ _ counted.enough) (le-ltb _ _ counted.not_more) in
    (none_cons _ (argument_tests dash limit words) count (first_argument_fault dash limit words ∙ rw spelled.0 refl), spelled.1)

pub length_numbers : (limit : ℕ) (words : List (List ℕ)) (ns : List ℕ) → AreNumbers limit words ns → length words ≡ length ns
length_numbers limit [] [] numbers = refl
length_numbers limit [] (n ∷ ns) numbers = absurd numbers
length_numbers limit (word ∷ words) [] numbers = absurd numbers
length_numbers limit (word ∷ words) (n ∷ ns) numbers = ap suc (length_numbers limit words ns numbers.1)

pub none_parts : {F : Type 0} (tests more : List (Bool × F)) → NoneHolds (tests ++ more) → NoneHolds tests × NoneHolds more
none_parts [] more none = (refl, none)
none_parts (test ∷ tests) more none =
    let first = none_first test (tests ++ more) none in
    let others = none_parts tests more first.1 in
    (none_cons test tests first.0 others.0, others.1)

pub none_both : {F : Type 0} (tests more : List (Bool × F)) → NoneHolds tests → NoneHolds more → NoneHolds (tests ++ more)
none_both [] more none later = later
none_both (test ∷ tests) more none later =
    let first = none_first test tests none in
    none_cons test (tests ++ more) first.0 (none_both tests more first.1 later)

-- ---- names with arguments

module _ {A : Type 0} (form_of : List ℕ → Option (Form A)) (otherwise : A) where
  form_tested : (name : List ℕ) (words : List (List ℕ)) (form : Option (Form A)) → form_of name ≡ form → NoneHolds (form_tests form words)
      → IsNamed form_of (name ∷ words) (made_by otherwise form words)
  form_tested name words None at none = absurd cc
  form_tested name words (Some form) at none =
      let counted = arguments_tested form.least form.most form.may_be_absent form.limit words none in
      record {
        name = name;
        others = words;
        form = form;
        arguments = arguments_in form.limit words;
        parts = refl;
        has_form = at;
        enough = counted.enough;
        not_more = counted.not_more;
        are_arguments = counted.are_arguments;
        made = refl;
      }

  pub named_tested : (words : List (List ℕ)) → NoneHolds (named_tests form_of words) → IsNamed form_of words (named_in form_of otherwise words)
  named_tested [] none = absurd cc
  named_tested (name ∷ words) none = form_tested name words (form_of name) refl none

  pub named_passes : (words : List (List ℕ)) (value : A) → IsNamed form_of words value → NoneHolds (named_tests form_of words) × (named_in form_of otherwise words ≡ value)
  named_passes words value is_named =
      let form = is_named.form in
      let counted : AreCounted form.least form.most form.may_be_absent form.limit is_named.others is_named.arguments =
      record { enough = is_named.enough; not_more = is_named.not_more; are_arguments = is_named.are_arguments } in
      let pass = arguments_pass form.least form.most form.may_be_absent form.limit is_named.others is_named.arguments counted in
      rw (is_named.parts, is_named.has_form) (pass.0, ap form.makes pass.1 ∙ sym is_named.made)

-- a name without a form is none
no_name : {A : Type 0} (form_of : List ℕ → Option (Form A)) (name text : List ℕ) (form : Form A) → form_of name ≡ Some form → form_of text ≡ None → bytes_eq name text ≡ false
no_name form_of name text form has none = false_from_ne_true (bytes_eq name text) (λ same.
    let both = sym none ∙ sym (ap form_of ((bytes_eq-Decides name text).0 same)) ∙ has in cc)

-- ---- one number

record OneNumber (words : List (List ℕ)) : Type 0 where
  word : List ℕ
  parts : words ≡ word ∷ []
  is_one : IsNumber last_number word (first_number words)

one_tested : (words : List (List ℕ)) → NoneHolds (number_tests words) → OneNumber words
unfolding arguments_in
one_tested [] none = absurd (let counted = arguments_tested 1 1 false last_number [] none in omega (arith, counted.enough))
one_tested (word ∷ []) none =
    let counted = arguments_tested 1 1 false last_number (word ∷ []) none in
    let spelled = arguments_as_numbers last_number (word ∷ []) (arguments_in last_number (word ∷ [])) counted.are_arguments in
    record { word = word; parts = refl; is_one = spelled.0 }
one_tested (word ∷ next ∷ words) none = absurd (let counted = arguments_tested 1 1 false last_number (word ∷ next ∷ words) none in omega (arith, counted.not_more))

one_passes : (word : List ℕ) (n : ℕ) → IsNumber last_number word n → NoneHolds (number_tests (word ∷ [])) × (first_number (word ∷ []) ≡ n)
unfolding arguments_in
one_passes word n number =
    let pass = arguments_pass 1 1 false last_number (word ∷ []) (Some n ∷ []) (record { enough = omega arith; not_more = omega arith; are_arguments = (number, tt) }) in
    (pass.0, ap (λ (ns : List (Option ℕ)). number_at ns 0) pass.1)

-- ---- what is said

said_form_of-ret : said_form_of (codes "ret") ≡ None
unfolding said_form_of
said_form_of-ret = refl

ret_tested : (name : List ℕ) (words : List (List ℕ)) → name ≡ codes "ret" → NoneHolds (ret_tests words) → IsRet (name ∷ words) (ret_in words)
ret_tested name [] at none = absurd cc
ret_tested name (error ∷ []) at none = absurd cc
ret_tested name (error ∷ value ∷ []) at none =
    let first = none_first (not (is_signed error), BadNumber) ((not (is_number last_number value), BadNumber) ∷ []) none in
    let second = none_first (not (is_number last_number value), BadNumber) [] first.1 in
    record {
      error_word = error;
      value_word = value;
      error = unwrap_or (signed_in error) (pos 0);
      value = unwrap_or (number_in last_number value) 0;
      parts = ap (λ (w : List ℕ). w ∷ error ∷ value ∷ []) at;
      is_error = signed_spelled error (not-false _ first.0);
      is_value = number_spelled last_number value (not-false _ second.0);
      made = refl;
    }
ret_tested name (error ∷ value ∷ next ∷ words) at none = absurd cc

ret_passes : (words : List (List ℕ)) (said : Said) → IsRet words said → NoneHolds (said_tests words) × (said_in words ≡ said)
ret_passes words said ret =
    let error = spelled_signed ret.error_word ret.error ret.is_error in
    let value = spelled_number last_number ret.value_word ret.value ret.is_value in
    let tests : NoneHolds (ret_tests (ret.error_word ∷ ret.value_word ∷ [])) =
    none_cons (not (is_signed ret.error_word), BadNumber) ((not (is_number last_number ret.value_word), BadNumber) ∷ []) (not_from_true _ error.0)
    (none_cons (not (is_number last_number ret.value_word), BadNumber) [] (not_from_true _ value.0) refl) in
    rw ret.parts (tests, rw (error.1, value.1) (sym ret.made))

pub said_tested : (words : List (List ℕ)) → NoneHolds (said_tests words) → IsSaid words (said_in words)
said_tested [] none = absurd cc
said_tested (name ∷ words) none = elim (cases_Bool (is_ret name)) [
  | inl is ↦ rw is (inl (ret_tested name words ((bytes_eq-Decides name (codes "ret")).0 is) (rw is at none)))
  | inr other ↦ rw other (inr (form_tested said_form_of Done name words (said_form_of name) refl (rw other at none)))
]

pub said_passes : (words : List (List ℕ)) (said : Said) → IsSaid words said → NoneHolds (said_tests words) × (said_in words ≡ said)
said_passes words said (inl ret) = ret_passes words said ret
said_passes words said (inr is_named) =
    let other = no_name said_form_of is_named.name (codes "ret") is_named.form is_named.has_form said_form_of-ret in
    let pass = named_passes said_form_of Done words said is_named in
    let at = is_named.parts in
    rw (at, other) (rw at at pass)

-- ---- actors

-- a number begins with a digit
number_digit : (word : List ℕ) (n : ℕ) → Spells word n → is_digit (slice_index word 0) 10 ≡ true
number_digit [] n (inl decimal) = absurd (omega (arith, decimal.0.0))
number_digit (b ∷ word) n (inl decimal) = lt-ltb (digit_value b) 10 decimal.0.1.0
number_digit word n (inr hex) = rw hex.1 refl

-- so a text that begins with no digit is none
no_number : (limit : ℕ) (word text : List ℕ) (n : ℕ) → is_digit (slice_index text 0) 10 ≡ false → IsNumber limit word n → bytes_eq word text ≡ false
no_number limit word text n none number = false_from_ne_true (bytes_eq word text) (λ same.
    let begins : is_digit (slice_index text 0) 10 ≡ true = rw (← (bytes_eq-Decides word text).0 same) (number_digit word n number.1) in
    let both : true ≡ false = sym begins ∙ none in cc)

not_filled : {A : Type 0} (xs : List A) → is_filled xs ≡ false → xs ≡ []
not_filled [] none = refl
not_filled (x ∷ xs) none = absurd cc

actor_tested : (word : List ℕ) → (is_clock word || is_number last_hart word) ≡ true → IsActor word (actor_in word)
actor_tested word good = elim (cases_Bool (is_clock word)) [
  | inl clock ↦ rw clock ((bytes_eq-Decides word (codes "c")).0 clock)
  | inr other ↦ rw other (number_spelled last_hart word (rw other at good))
]

record ActorPasses (word : List ℕ) (actor : Actor) : Type 0 where
  no_head : (is_at word || is_clock_head word) ≡ false
  no_cut : is_cut word ≡ false
  begins : begins_actor_line word ≡ true
  good : (is_clock word || is_number last_hart word) ≡ true
  value : actor_in word ≡ actor

actor_passes : (word : List ℕ) (actor : Actor) → IsActor word actor → ActorPasses word actor
actor_passes word Clock is_actor = record { no_head = rw is_actor refl; no_cut = rw is_actor refl; begins = rw is_actor refl; good = rw is_actor refl; value = rw is_actor refl }
actor_passes word (Hart h) is_actor =
    let other = no_number last_hart word (codes "c") h refl is_actor in
    let cut = no_number last_hart word (codes "cut") h refl is_actor in
    let spelled = spelled_number last_hart word h is_actor in
    record {
      no_head = or_from _ _ (no_number last_hart word (codes "at") h refl is_actor) (no_number last_hart word (codes "clock") h refl is_actor);
      no_cut = cut;
      begins = rw (cut, other, number_digit word h is_actor.1) refl;
      good = rw (other, spelled.0) refl;
      value = rw other (ap (λ (n : ℕ). Hart n) spelled.1);
    }

-- ---- arrows

form_of-arrow : form_of (codes "->") ≡ None
unfolding form_of
form_of-arrow = refl

argument_no_arrow : (dash : Bool) (limit : ℕ) (word : List ℕ) (a : Option ℕ) → IsArgument dash limit word a → bytes_eq word (codes "->") ≡ false
argument_no_arrow dash limit word (Some n) number = no_number limit word (codes "->") n refl number
argument_no_arrow dash limit word None absent = rw absent.1 refl

arguments_no_arrow : (dash : Bool) (limit : ℕ) (words : List (List ℕ)) (ns : List (Option ℕ)) → AreArguments dash limit words ns → has_arrow words ≡ false
arguments_no_arrow dash limit [] ns arguments = refl
arguments_no_arrow dash limit (word ∷ words) [] arguments = absurd arguments
arguments_no_arrow dash limit (word ∷ words) (n ∷ ns) arguments =
    or_from (bytes_eq word (codes "->")) (has_arrow words) (argument_no_arrow dash limit word n arguments.0) (arguments_no_arrow dash limit words ns arguments.1)

op_no_arrow : (words : List (List ℕ)) (op : Op) → IsNamed form_of words op → has_arrow words ≡ false
op_no_arrow words op is_op =
    let named = no_name form_of is_op.name (codes "->") is_op.form is_op.has_form form_of-arrow in
    rw is_op.parts (or_from (bytes_eq is_op.name (codes "->")) (has_arrow is_op.others) named
    (arguments_no_arrow is_op.form.may_be_absent is_op.form.limit is_op.others is_op.arguments is_op.are_arguments))

-- the words round the first arrow
pub arrow_parts : (words : List (List ℕ)) → has_arrow words ≡ true → words ≡ before_arrow words ++ codes "->" ∷ after_arrow words
arrow_parts [] some = absurd cc
arrow_parts (word ∷ words) some = elim (cases_Bool (is_arrow word)) [
  | inl arrow ↦ rw arrow (ap (λ (w : List ℕ). w ∷ words) ((bytes_eq-Decides word (codes "->")).0 arrow))
  | inr other ↦ rw other (ap (λ (ws : List (List ℕ)). word ∷ ws) (arrow_parts words (rw other at some)))
]

record SplitsAt (words before after : List (List ℕ)) : Type 0 where
  some : has_arrow words ≡ true
  first : before_arrow words ≡ before
  rest : after_arrow words ≡ after

splits_at : (before after : List (List ℕ)) → has_arrow before ≡ false → SplitsAt (before ++ codes "->" ∷ after) before after
splits_at [] after none = record { some = refl; first = refl; rest = refl }
splits_at (word ∷ before) after none =
    let parts = or_parts (is_arrow word) (has_arrow before) none in
    let others = splits_at before after parts.1 in
    record {
      some = rw (parts.0, others.some) refl;
      first = rw (parts.0, others.first) refl;
      rest = rw (parts.0, others.rest) refl;
    }

-- ---- kinds

is_head : (first : List ℕ) (words : List (List ℕ)) → kind_of first words ≡ Head → (is_at first || is_clock_head first) ≡ true
is_head first words is = elim (cases_Bool (is_at first || is_clock_head first)) [
  | inl head ↦ head
  | inr other ↦ absurd (not_head (begins_actor_line first) (has_arrow words) (rw other at is))
] where
  not_head : (begins arrow : Bool) → cond begins (Step arrow) Operation ≡ Head → ⊥
  not_head true arrow is = cc
  not_head false arrow is = cc

is_step : (first : List ℕ) (words : List (List ℕ)) (in_trace : Bool) → kind_of first words ≡ Step in_trace → has_arrow words ≡ in_trace
is_step first words in_trace is = same_step (is_at first || is_clock_head first) (begins_actor_line first) (has_arrow words) in_trace is where
  same_step : (head begins arrow in_trace : Bool) → cond head Head (cond begins (Step arrow) Operation) ≡ Step in_trace → arrow ≡ in_trace
  same_step true begins arrow in_trace is = absurd cc
  same_step false true arrow in_trace is = cc
  same_step false false arrow in_trace is = absurd cc

-- ---- steps

step_tested : (first : List ℕ) (words : List (List ℕ)) → (actor_test first).0 ≡ false → NoneHolds (named_tests form_of words) → IsStep (first ∷ words) (actor_in first) (op_in words)
step_tested first words actor none = record {
  first = first;
  others = words;
  parts = refl;
  is_actor = actor_tested first (not-false _ actor);
  is_op = named_tested form_of Advance words none;
}

doing_tested : (first : List ℕ) (words : List (List ℕ)) → NoneHolds (doing_tests first words) → IsDoing (first ∷ words) (doing_in first words)
doing_tested first words none = elim (cases_Bool (is_cut first)) [
  | inl cut ↦
      let filled = none_first (is_filled words, WordCount) [] (rw cut at none) in
      let name : first ≡ codes "cut" = (bytes_eq-Decides first (codes "cut")).0 cut in
      rw cut (ap (λ (w : List ℕ). w ∷ words) name ∙ ap (λ (ws : List (List ℕ)). codes "cut" ∷ ws) (not_filled words filled.0))
  | inr other ↦
      let actor = none_first (actor_test first) (named_tests form_of words) (rw other at none) in
      rw other (step_tested first words actor.0 actor.1)
]

step_line_tested : (n : ℕ) (in_trace : Bool) (first : List ℕ) (words : List (List ℕ)) → has_arrow words ≡ in_trace → NoneHolds (step_tests in_trace first words)
    → IsStepLine n in_trace (first ∷ words) (line_in n in_trace first words)
step_line_tested n false first words at none = (refl, refl, doing_tested first words none)
step_line_tested n true first words at none =
    let both = none_parts (doing_tests first (before_arrow words)) (said_tests (after_arrow words)) none in (
      first ∷ before_arrow words,
      after_arrow words,
      said_in (after_arrow words),
      refl,
      refl,
      ap (λ (ws : List (List ℕ)). first ∷ ws) (arrow_parts words at),
      doing_tested first (before_arrow words) both.0,
      said_tested (after_arrow words) both.1,
    )

-- what a line does passes
record DoingPasses (words : List (List ℕ)) (doing : Doing) : Type 0 where
  first : List ℕ
  others : List (List ℕ)
  parts : words ≡ first ∷ others
  no_head : (is_at first || is_clock_head first) ≡ false
  begins : begins_actor_line first ≡ true
  no_arrow : has_arrow others ≡ false
  none : NoneHolds (doing_tests first others)
  value : doing_in first others ≡ doing

doing_passes : (words : List (List ℕ)) (doing : Doing) → IsDoing words doing → DoingPasses words doing
doing_passes words doings.Cut is = record { first = codes "cut"; others = []; parts = is; no_head = refl; begins = refl; no_arrow = refl; none = refl; value = refl }
doing_passes words (doings.Step by op) is =
    let actor = actor_passes is.first by is.is_actor in
    let named = named_passes form_of Advance is.others op is.is_op in
    record {
      first = is.first;
      others = is.others;
      parts = is.parts;
      no_head = actor.no_head;
      begins = actor.begins;
      no_arrow = op_no_arrow is.others op is.is_op;
      none = rw actor.no_cut (none_cons (actor_test is.first) (named_tests form_of is.others) (not_from_true _ actor.good) named.0);
      value = rw (actor.no_cut, actor.value, named.1) refl;
    }

-- a line that is a step or a cut passes as one
record StepPasses (n : ℕ) (in_trace : Bool) (words : List (List ℕ)) (line : Line) : Type 0 where
  first : List ℕ
  others : List (List ℕ)
  parts : words ≡ first ∷ others
  kind : kind_of first others ≡ Step in_trace
  none : NoneHolds (step_tests in_trace first others)
  value : line_in n in_trace first others ≡ line

step_line_passes : (n : ℕ) (in_trace : Bool) (words : List (List ℕ)) (line : Line) → IsStepLine n in_trace words line → StepPasses n in_trace words line
step_line_passes n false words line (number, said, is) =
    let doing = doing_passes words line.doing is in
    record {
      first = doing.first;
      others = doing.others;
      parts = doing.parts;
      kind = rw (doing.no_head, doing.begins, doing.no_arrow) refl;
      none = doing.none;
      value = rw (doing.value, number, said) refl;
    }
step_line_passes n true words line (before, after, said, number, has_said, parts, is, is_said) =
    let doing = doing_passes before line.doing is in
    let told = said_passes after said is_said in
    let split = splits_at doing.others after doing.no_arrow in
    let others = doing.others ++ codes "->" ∷ after in
    record {
      first = doing.first;
      others = others;
      parts = parts ∙ ap (λ (ws : List (List ℕ)). ws ++ codes "->" ∷ after) doing.parts;
      kind = rw (doing.no_head, doing.begins, split.some) refl;
      none = rw (split.first, split.rest) (none_both (doing_tests doing.first doing.others) (said_tests after) doing.none told.0);
      value = rw (split.first, split.rest, doing.value, told.1, number, has_said) refl;
    }

-- ---- blocks

not_some : {A : Type 0} (o : Option A) → is_some o ≡ false → o ≡ None
not_some None none = refl
not_some (Some x) none = absurd cc

head_tested : (guests : List Guest) (clock : Option (List ℕ)) (first : List ℕ) (words : List (List ℕ)) → (is_at first || is_clock_head first) ≡ true → NoneHolds (head_tests guests clock first words)
    → IsHead guests clock (first ∷ words) (opened guests clock (opened_by first words))
head_tested guests clock first words head none = elim (cases_Bool (is_at first)) [
  | inl is ↦
      let both = none_parts (number_tests words) ((has_block guests (first_number words), SecondBlock) ∷ []) (rw is at none) in
      let one = one_tested words both.0 in
      let fresh = none_first (has_block guests (first_number words), SecondBlock) [] both.1 in
      let name : first ≡ codes "at" = (bytes_eq-Decides first (codes "at")).0 is in
      rw is (inl (first_number words, (one.word, ap (λ (w : List ℕ). w ∷ words) name ∙ ap (λ (ws : List (List ℕ)). codes "at" ∷ ws) one.parts, one.is_one), fresh.0, refl))
  | inr other ↦
      let tests = none_first (is_filled words, WordCount) ((is_some clock, SecondBlock) ∷ []) (rw other at none) in
      let fresh = none_first (is_some clock, SecondBlock) [] tests.1 in
      let name : first ≡ codes "clock" = (bytes_eq-Decides first (codes "clock")).0 (rw other at head) in
      rw other (inr (ap (λ (w : List ℕ). w ∷ words) name ∙ ap (λ (ws : List (List ℕ)). codes "clock" ∷ ws) (not_filled words tests.0), not_some clock fresh.0, refl))
]

record HeadPasses (guests : List Guest) (clock : Option (List ℕ)) (words : List (List ℕ)) (next : Blocks) : Type 0 where
  first : List ℕ
  others : List (List ℕ)
  parts : words ≡ first ∷ others
  kind : kind_of first others ≡ Head
  none : NoneHolds (head_tests guests clock first others)
  value : opened guests clock (opened_by first others) ≡ next

head_passes : (guests : List Guest) (clock : Option (List ℕ)) (words : List (List ℕ)) (next : Blocks) → IsHead guests clock words next → HeadPasses guests clock words next
head_passes guests clock words next (inl (addr, (word, parts, number), fresh, made)) =
    let pass = one_passes word addr number in
    record {
      first = codes "at";
      others = word ∷ [];
      parts = parts;
      kind = refl;
      none = none_both (number_tests (word ∷ [])) ((has_block guests (first_number (word ∷ [])), SecondBlock) ∷ []) pass.0
          (none_cons (has_block guests (first_number (word ∷ [])), SecondBlock) [] (rw pass.1 fresh) refl);
      value = rw pass.1 (sym made);
    }
head_passes guests clock words next (inr (parts, fresh, made)) = record {
  first = codes "clock";
  others = [];
  parts = parts;
  kind = refl;
  none = none_cons (false, WordCount) ((is_some clock, SecondBlock) ∷ []) refl (none_cons (is_some clock, SecondBlock) [] (rw fresh refl) refl);
  value = sym made;
}

in_block_tested : (current : Open) (first : List ℕ) (words : List (List ℕ)) → NoneHolds (in_block_tests current (first ∷ words)) → IsInBlock current (first ∷ words) (in_block current (first ∷ words))
in_block_tested (OfGuest guest) first words none = (named_in guest_form_of Advance (first ∷ words), named_tested guest_form_of Advance (first ∷ words) none, refl)
in_block_tested (OfClock ticks) first words none =
    let named = none_first (not (bytes_eq first (codes "tick")), UnknownWord) (number_tests words) none in
    let one = one_tested words named.1 in
    let name : first ≡ codes "tick" = (bytes_eq-Decides first (codes "tick")).0 (not-false _ named.0) in
    (first_number words, (one.word, ap (λ (w : List ℕ). w ∷ words) name ∙ ap (λ (ws : List (List ℕ)). codes "tick" ∷ ws) one.parts, one.is_one), refl)

-- a digit is no letter
no_letter : (b x : ℕ) → is_digit b 10 ≡ true → is_digit x 10 ≡ false → eqb b x ≡ false
no_letter b x digit other = elim (cases_Bool (eqb b x)) [
  | inl same ↦ absurd (let both : true ≡ false = sym digit ∙ ap (λ y. is_digit y 10) (eqb-true b x same) ∙ other in cc)
  | inr other ↦ other
]

-- a guest's operation is no actor's and no block's line
guest_digit : (name : List ℕ) → is_digit (slice_index name 0) 10 ≡ true → guest_form_of name ≡ None
unfolding guest_form_of
guest_digit [] digit = refl
guest_digit (b ∷ name) digit =
    rw (no_letter b 101 digit refl, no_letter b 108 digit refl, no_letter b 115 digit refl, no_letter b 102 digit refl, no_letter b 99 digit refl, no_letter b 119 digit refl, no_letter b 97 digit refl) refl

guest_none : guest_form_of (codes "c") ≡ None
unfolding guest_form_of
guest_none = refl

guest_cut_none : guest_form_of (codes "cut") ≡ None
unfolding guest_form_of
guest_cut_none = refl

guest_at_none : guest_form_of (codes "at") ≡ None
unfolding guest_form_of
guest_at_none = refl

guest_clock_none : guest_form_of (codes "clock") ≡ None
unfolding guest_form_of
guest_clock_none = refl

no_digit : (name : List ℕ) (form : Form Op) → guest_form_of name ≡ Some form → is_digit (slice_index name 0) 10 ≡ false
no_digit name form has = false_from_ne_true _ (λ digit. let both = sym (guest_digit name digit) ∙ has in cc)

guest_kind : (name : List ℕ) (words : List (List ℕ)) (form : Form Op) → guest_form_of name ≡ Some form → kind_of name words ≡ Operation
guest_kind name words form has =
    rw (
      no_name guest_form_of name (codes "at") form has guest_at_none,
      no_name guest_form_of name (codes "clock") form has guest_clock_none,
      no_name guest_form_of name (codes "cut") form has guest_cut_none,
      no_name guest_form_of name (codes "c") form has guest_none,
      no_digit name form has,
    ) refl

record InBlockPasses (current next : Open) (words : List (List ℕ)) : Type 0 where
  first : List ℕ
  others : List (List ℕ)
  parts : words ≡ first ∷ others
  kind : kind_of first others ≡ Operation
  none : NoneHolds (in_block_tests current (first ∷ others))
  value : in_block current (first ∷ others) ≡ next

in_block_passes : (current next : Open) (words : List (List ℕ)) → IsInBlock current words next → InBlockPasses current next words
in_block_passes (OfGuest guest) next words (op, is_op, made) =
    let pass = named_passes guest_form_of Advance words op is_op in
    record {
      first = is_op.name;
      others = is_op.others;
      parts = is_op.parts;
      kind = guest_kind is_op.name is_op.others is_op.form is_op.has_form;
      none = rw is_op.parts at pass.0;
      value = ap (with_op guest) (rw is_op.parts at pass.1) ∙ sym made;
    }
in_block_passes (OfClock ticks) next words (n, (word, parts, number), made) =
    let pass = one_passes word n number in
    record {
      first = codes "tick";
      others = word ∷ [];
      parts = parts;
      kind = refl;
      none = none_cons (false, UnknownWord) (number_tests (word ∷ [])) refl pass.0;
      value = ap (with_tick ticks) pass.1 ∙ sym made;
    }

-- ---- lines

kind_tested : (n : ℕ) (kind : LineKind) (draft : Draft) (first : List ℕ) (words : List (List ℕ)) → kind_of first words ≡ kind → may_follow draft kind ≡ true → NoneHolds (kind_tests kind draft first words)
    → IsNext n draft (first ∷ words) (next_of kind n draft first words)
kind_tested n Head Nothing first words is follows none = head_tested [] None first words (is_head first words is) none
kind_tested n Head (Blocked p) first words is follows none = inl (head_tested (guests_of p) (clock_of p) first words (is_head first words is) none)
kind_tested n Head (Stepped lines) first words is follows none = absurd cc
kind_tested n Head (Traced lines) first words is follows none = absurd cc
kind_tested n (Step false) Nothing first words is follows none = (line_in n false first words, step_line_tested n false first words (is_step first words false is) none, refl)
kind_tested n (Step true) Nothing first words is follows none = (line_in n true first words, step_line_tested n true first words (is_step first words true is) none, refl)
kind_tested n (Step in_trace) (Blocked p) first words is follows none = absurd cc
kind_tested n (Step false) (Stepped lines) first words is follows none = (line_in n false first words, step_line_tested n false first words (is_step first words false is) none, refl)
kind_tested n (Step true) (Stepped lines) first words is follows none = absurd cc
kind_tested n (Step false) (Traced lines) first words is follows none = absurd cc
kind_tested n (Step true) (Traced lines) first words is follows none = (line_in n true first words, step_line_tested n true first words (is_step first words true is) none, refl)
kind_tested n Operation Nothing first words is follows none = absurd cc
kind_tested n Operation (Blocked p) first words is follows none = inr (in_block p.current (first ∷ words), in_block_tested p.current first words none, refl)
kind_tested n Operation (Stepped lines) first words is follows none = absurd cc
kind_tested n Operation (Traced lines) first words is follows none = absurd cc

pub next_tested : (n : ℕ) (draft : Draft) (first : List ℕ) (words : List (List ℕ)) → NoneHolds (line_tests draft (first ∷ words)) → IsNext n draft (first ∷ words) (next_in n draft (first ∷ words))
next_tested n draft first words none =
    let kind = none_first (not (may_follow draft (kind_of first words)), OtherKind) (kind_tests (kind_of first words) draft first words) none in
    kind_tested n (kind_of first words) draft first words refl (not-false _ kind.0) kind.1

-- the line's words have a kind that follows, and none of its tests holds
pub record Follows (n : ℕ) (draft : Draft) (words : List (List ℕ)) (next : Draft) : Type 0 where
  pub first : List ℕ
  pub others : List (List ℕ)
  pub parts : words ≡ first ∷ others
  pub none : NoneHolds (line_tests draft (first ∷ others))
  pub value : next_in n draft (first ∷ others) ≡ next

follows : (n : ℕ) (draft : Draft) (words : List (List ℕ)) (next : Draft) (kind : LineKind) (first : List ℕ) (others : List (List ℕ)) → words ≡ first ∷ others → kind_of first others ≡ kind
    → may_follow draft kind ≡ true
    → NoneHolds (kind_tests kind draft first others) → next_of kind n draft first others ≡ next → Follows n draft words next
follows n draft words next kind first others parts is may none value = record {
  first = first;
  others = others;
  parts = parts;
  none = rw is (none_cons (not (may_follow draft kind), OtherKind) (kind_tests kind draft first others) (not_from_true _ may) none);
  value = rw is value;
}

pub step_follows : (n : ℕ) (in_trace : Bool) (draft : Draft) (words : List (List ℕ)) (line : Line) (next : Draft) → may_follow draft (Step in_trace) ≡ true → IsStepLine n in_trace words line
    → with_step in_trace draft line ≡ next → Follows n draft words next
step_follows n in_trace draft words line next may is value =
    let pass = step_line_passes n in_trace words line is in
    follows n draft words next (Step in_trace) pass.first pass.others pass.parts pass.kind may pass.none (ap (with_step in_trace draft) pass.value ∙ value)

pub next_passes : (n : ℕ) (draft : Draft) (words : List (List ℕ)) (next : Draft) → IsNext n draft words next → Follows n draft words next
next_passes n Nothing words (Blocked next) head =
    let pass = head_passes [] None words next head in
    follows n Nothing words (Blocked next) Head pass.first pass.others pass.parts pass.kind refl pass.none (ap (λ (p : Blocks). Blocked p) pass.value)
next_passes n Nothing words (Stepped lines) (line, is, made) = step_follows n false Nothing words line (Stepped lines) refl is (ap (λ (ls : List Line). Stepped ls) (sym made))
next_passes n Nothing words (Traced lines) (line, is, made) = step_follows n true Nothing words line (Traced lines) refl is (ap (λ (ls : List Line). Traced ls) (sym made))
next_passes n (Blocked p) words (Blocked next) (inl head) =
    let pass = head_passes (guests_of p) (clock_of p) words next head in
    follows n (Blocked p) words (Blocked next) Head pass.first pass.others pass.parts pass.kind refl pass.none (ap (λ (q : Blocks). Blocked q) pass.value)
next_passes n (Blocked p) words (Blocked next) (inr (current, is, made)) =
    let pass = in_block_passes p.current current words is in
    follows n (Blocked p) words (Blocked next) Operation pass.first pass.others pass.parts pass.kind refl pass.none
    (ap (λ (o : Open). Blocked (record p { current = o })) pass.value ∙ ap (λ (q : Blocks). Blocked q) (sym made))
next_passes n (Stepped before) words (Stepped lines) (line, is, made) = step_follows n false (Stepped before) words line (Stepped lines) refl is (ap (λ (ls : List Line). Stepped ls) (sym made))
next_passes n (Traced before) words (Traced lines) (line, is, made) = step_follows n true (Traced before) words line (Traced lines) refl is (ap (λ (ls : List Line). Traced ls) (sym made))
next_passes n Nothing words Nothing is = absurd is
next_passes n (Blocked p) words Nothing is = absurd is
next_passes n (Blocked p) words (Stepped lines) is = absurd is
next_passes n (Blocked p) words (Traced lines) is = absurd is
next_passes n (Stepped before) words Nothing is = absurd is
next_passes n (Stepped before) words (Blocked next) is = absurd is
next_passes n (Stepped before) words (Traced lines) is = absurd is
next_passes n (Traced before) words Nothing is = absurd is
next_passes n (Traced before) words (Blocked next) is = absurd is
next_passes n (Traced before) words (Stepped lines) is = absurd is
