-- Words are arguments by the tests where each is a number or a dash, and no others.
use Rattle.std.proofs.Common.{◌≡◌, ℕ, true, false, Bool, ◌||◌, List, [], ◌∷◌, map, codes, Option, Some, None, refl, inl, inr}
use Rattle.std.specs.List.{list_all}
use Rattle.std.specs.Option.{unwrap_or}
use Rattle.std.proofs.lemmas.Bool.{cases_Bool, and_parts, and_from}
use Rattle.std.proofs.lemmas.Slice.Eq.{bytes_eq-Decides}
use Rattle.guest_script.specs.Words.{AreNumbers}
use Rattle.guest_script.specs.Forms.{AreArguments, IsArgument}
use Rattle.guest_script.specs.Values.{arguments_in, is_number, number_in}
use Rattle.guest_script.specs.FirstFault.{is_argument, is_dash}
use Rattle.line_words.proofs.Spelling.{number_is_some, spelled_number, value_spelled}

-- ---- arguments

or_true : (b : Bool) → (b || true) ≡ true
or_true true = refl
or_true false = refl

pub argument_spelled : (dash : Bool) (limit : ℕ) (word : List ℕ) → is_argument dash limit word ≡ true → IsArgument dash limit word (number_in limit word)
unfolding number_in
argument_spelled dash limit word good = elim (cases_Bool (is_number limit word)) [
  | inl number ↦ rw number (value_spelled limit word number)
  | inr other ↦
      let parts = and_parts dash (is_dash word) (rw other at good) in
      rw other (parts.0, (bytes_eq-Decides word (codes "-")).0 parts.1)
]

dash_is_none : (limit : ℕ) → number_in limit (codes "-") ≡ None
unfolding number_in is_number
dash_is_none limit = refl

pub spelled_argument : (dash : Bool) (limit : ℕ) (word : List ℕ) (a : Option ℕ) → IsArgument dash limit word a → (is_argument dash limit word ≡ true) × (number_in limit word ≡ a)
spelled_argument dash limit word (Some n) number = (rw (spelled_number limit word n number).0 refl, number_is_some limit word n number)
spelled_argument dash limit word None absent = rw (absent.0, absent.1) (or_true (is_number limit (codes "-")), dash_is_none limit)

pub arguments_spelled : (dash : Bool) (limit : ℕ) (words : List (List ℕ)) → list_all (is_argument dash limit) words ≡ true → AreArguments dash limit words (arguments_in limit words)
unfolding arguments_in
arguments_spelled dash limit [] all = tt
arguments_spelled dash limit (word ∷ words) all =
    let both = and_parts (is_argument dash limit word) (list_all (is_argument dash limit) words) all in
    (argument_spelled dash limit word both.0, arguments_spelled dash limit words both.1)

pub spelled_arguments : (dash : Bool) (limit : ℕ) (words : List (List ℕ)) (ns : List (Option ℕ)) → AreArguments dash limit words ns
    → (list_all (is_argument dash limit) words ≡ true) × (arguments_in limit words ≡ ns)
unfolding arguments_in
spelled_arguments dash limit [] [] arguments = (refl, refl)
spelled_arguments dash limit [] (n ∷ ns) arguments = absurd arguments
spelled_arguments dash limit (word ∷ words) [] arguments = absurd arguments
spelled_arguments dash limit (word ∷ words) (n ∷ ns) arguments =
    let first = spelled_argument dash limit word n arguments.0 in
    let others = spelled_arguments dash limit words ns arguments.1 in
    (and_from (is_argument dash limit word) (list_all (is_argument dash limit) words) first.0 others.0, rw (first.1, others.1) refl)

-- ---- numbers alone

pub numbers_as_arguments : (limit : ℕ) (words : List (List ℕ)) (ns : List ℕ) → AreNumbers limit words ns → AreArguments false limit words (map (λ n. Some n) ns)
numbers_as_arguments limit [] [] numbers = tt
numbers_as_arguments limit [] (n ∷ ns) numbers = absurd numbers
numbers_as_arguments limit (word ∷ words) [] numbers = absurd numbers
numbers_as_arguments limit (word ∷ words) (n ∷ ns) numbers = (numbers.0, numbers_as_arguments limit words ns numbers.1)

pub arguments_as_numbers : (limit : ℕ) (words : List (List ℕ)) (ns : List (Option ℕ)) → AreArguments false limit words ns → AreNumbers limit words (map (λ a. unwrap_or a 0) ns)
arguments_as_numbers limit [] [] arguments = tt
arguments_as_numbers limit [] (n ∷ ns) arguments = absurd arguments
arguments_as_numbers limit (word ∷ words) [] arguments = absurd arguments
arguments_as_numbers limit (word ∷ words) (Some n ∷ ns) arguments = (arguments.0, arguments_as_numbers limit words ns arguments.1)
arguments_as_numbers limit (word ∷ words) (None ∷ ns) arguments = absurd (let e = arguments.0.0 in cc)
