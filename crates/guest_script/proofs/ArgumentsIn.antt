-- Words read one after another as arguments, which are counted, tested and kept at once.
use Rattle.std.proofs.Common.{◌≡◌, ℕ, ◌+◌, ◌<◌, ◌≤◌, Bool, true, false, cond, ltb, ◌&&◌, ◌||◌, ◌⊎◌, List, [], ◌∷◌, ◌++◌, length, Option, Some, None, Ok, Err, refl, sym, ap, ◌∙◌, inl, inr, arith}
use Rattle.std.specs.List.{list_all}
use Rattle.std.specs.Option.{is_some}
use Rattle.std.proofs.lemmas.Bool.{cases_Bool, lt-ltb, le-ltb}
use Rattle.std.proofs.lemmas.List.{append_assoc, append-nil, length-append, length-map}
use Rattle.board_terms.specs.Refusals.{first_that_holds}
use Rattle.guest_script.specs.declared.fault.FaultKind.TheVariants.{BadNumber, WordCount}
use Rattle.board_terms.specs.declared.op.Actor.TheVariants.{Hart}
use Rattle.guest_script.specs.Words.{last_hart}
use Rattle.guest_script.specs.Values.{actor_in, arguments_in, is_clock, is_number, number_in}
use Rattle.guest_script.specs.FirstFault.{actor_test, argument_tests, arguments_tests, is_argument, is_dash}
use Rattle.guest_script.specs.Reading.{or_fault, tested}

-- Of all the words some are read, and these are left.
pub record AreRead (most : ℕ) (dash : Bool) (limit : ℕ) (all : List (List ℕ)) (found : List (Option ℕ)) (all_good : Bool) (words : List (List ℕ)) : Type 0 where
  pub values : found ++ arguments_in limit words ≡ arguments_in limit all
  pub good : (all_good && list_all (is_argument dash limit) words) ≡ list_all (is_argument dash limit) all
  pub within : length found ≤ most

pub is_some-number_in : (limit : ℕ) (word : List ℕ) → is_some (number_in limit word) ≡ is_number limit word
unfolding number_in
is_some-number_in limit word = elim (cases_Bool (is_number limit word)) [ inl good ↦ rw good refl | inr bad ↦ rw bad refl ]

pub length-arguments_in : (limit : ℕ) (words : List (List ℕ)) → length (arguments_in limit words) ≡ length words
unfolding arguments_in
length-arguments_in limit words = length-map words (number_in limit)

and_true : (a : Bool) → (a && true) ≡ a
and_true true = refl
and_true false = refl

and_assoc : (a b c : Bool) → ((a && b) && c) ≡ (a && (b && c))
and_assoc true b c = refl
and_assoc false b c = refl

values_more : (limit : ℕ) (found : List (Option ℕ)) (word : List ℕ) (words : List (List ℕ))
    → (found ++ number_in limit word ∷ []) ++ arguments_in limit words ≡ found ++ arguments_in limit (word ∷ words)
unfolding arguments_in
values_more limit found word words = append_assoc found (number_in limit word ∷ []) (arguments_in limit words)

pub AreRead-more : (most : ℕ) (dash : Bool) (limit : ℕ) (all : List (List ℕ)) (found : List (Option ℕ)) (all_good : Bool) (words : List (List ℕ)) (word : List ℕ) (others : List (List ℕ))
    → AreRead most dash limit all found all_good words → words ≡ word ∷ others → length found < most
    → AreRead most dash limit all (found ++ number_in limit word ∷ []) (all_good && (is_some (number_in limit word) || (dash && is_dash word))) others
AreRead-more most dash limit all found all_good words word others read at small = record {
  values = values_more limit found word others ∙ rw at at read.values;
  good = rw (is_some-number_in limit word) (and_assoc all_good (is_argument dash limit word) (list_all (is_argument dash limit) others) ∙ rw at at read.good);
  within = omega (arith, length-append found (number_in limit word ∷ []));
}

count_read : (most : ℕ) (dash : Bool) (limit : ℕ) (all : List (List ℕ)) (found : List (Option ℕ)) (all_good : Bool) (words : List (List ℕ))
    → AreRead most dash limit all found all_good words → length found + length words ≡ length all
count_read most dash limit all found all_good words read =
    let e = ap length read.values in
    omega (arith, e, length-append found (arguments_in limit words), length-arguments_in limit words, length-arguments_in limit all)

pub first_argument_fault : (dash : Bool) (limit : ℕ) (words : List (List ℕ)) → first_that_holds (argument_tests dash limit words) ≡ cond (list_all (is_argument dash limit) words) None (Some BadNumber)
first_argument_fault dash limit [] = refl
first_argument_fault dash limit (word ∷ words) = elim (cases_Bool (is_argument dash limit word)) [
  | inl good ↦ rw good (first_argument_fault dash limit words)
  | inr bad ↦ rw bad refl
]

or_true : (b : Bool) → (b || true) ≡ true
or_true true = refl
or_true false = refl

miscounted : (least most : ℕ) (dash : Bool) (limit : ℕ) (words : List (List ℕ)) (ns : List (Option ℕ)) → (length words < least) ⊎ (most < length words)
    → tested (arguments_tests least most dash limit words) ns ≡ Err WordCount
miscounted least most dash limit words ns (inl few) = rw (lt-ltb _ _ few) refl
miscounted least most dash limit words ns (inr many) = rw (lt-ltb _ _ many, or_true (ltb (length words) least)) refl

or_bad_number : (b : Bool) (ns : List (Option ℕ)) → or_fault (cond b None (Some BadNumber)) ns ≡ cond b (Ok ns) (Err BadNumber)
or_bad_number true ns = refl
or_bad_number false ns = refl

pub counted : (least most : ℕ) (dash : Bool) (limit : ℕ) (words : List (List ℕ)) (ns : List (Option ℕ)) → least ≤ length words → length words ≤ most
    → tested (arguments_tests least most dash limit words) ns ≡ cond (list_all (is_argument dash limit) words) (Ok ns) (Err BadNumber)
counted least most dash limit words ns enough not_more =
    rw (le-ltb _ _ enough, le-ltb _ _ not_more, first_argument_fault dash limit words) (or_bad_number (list_all (is_argument dash limit) words) ns)

-- how the reading of the words ends
module _ (least most : ℕ) (dash : Bool) (limit : ℕ) (all : List (List ℕ)) (found : List (Option ℕ)) (all_good : Bool) (words : List (List ℕ))
    (read : AreRead most dash limit all found all_good words) where
  pub one_too_many : (word : List ℕ) (others : List (List ℕ)) → words ≡ word ∷ others → most ≤ length found
      → tested (arguments_tests least most dash limit all) (arguments_in limit all) ≡ Err WordCount
  one_too_many word others at full =
      miscounted least most dash limit all _ (inr (omega (arith, count_read most dash limit all found all_good words read, ap length at)))

  pub too_few : words ≡ [] → length found < least → tested (arguments_tests least most dash limit all) (arguments_in limit all) ≡ Err WordCount
  too_few at few = miscounted least most dash limit all _ (inl (omega (arith, count_read most dash limit all found all_good words read, ap length at)))

  all_read : words ≡ [] → least ≤ length found → tested (arguments_tests least most dash limit all) (arguments_in limit all) ≡ cond all_good (Ok found) (Err BadNumber)
  unfolding arguments_in
  all_read at enough =
      let count : length found ≡ length all = omega (arith, count_read most dash limit all found all_good words read, ap length at) in
      let values : found ≡ arguments_in limit all = sym (append-nil found) ∙ rw at at read.values in
      let good : all_good ≡ list_all (is_argument dash limit) all = sym (and_true all_good) ∙ rw at at read.good in
      counted least most dash limit all (arguments_in limit all) (omega arith) (omega (arith, read.within)) ∙ rw (← values, ← good) refl

  pub all_good_arguments : words ≡ [] → least ≤ length found → all_good ≡ true → tested (arguments_tests least most dash limit all) (arguments_in limit all) ≡ Ok found
  all_good_arguments at enough good = all_read at enough ∙ rw good refl

  pub a_bad_argument : words ≡ [] → least ≤ length found → all_good ≡ false → tested (arguments_tests least most dash limit all) (arguments_in limit all) ≡ Err BadNumber
  a_bad_argument at enough bad = all_read at enough ∙ rw bad refl

pub is_number_some : (limit : ℕ) (word : List ℕ) (n : ℕ) → number_in limit word ≡ Some n → is_number limit word ≡ true
is_number_some limit word n e = sym (is_some-number_in limit word) ∙ ap is_some e

pub is_number_none : (limit : ℕ) (word : List ℕ) → number_in limit word ≡ None → is_number limit word ≡ false
is_number_none limit word e = sym (is_some-number_in limit word) ∙ ap is_some e

pub actor_read : (word : List ℕ) (h : ℕ) → is_clock word ≡ false → number_in last_hart word ≡ Some h → tested (actor_test word ∷ []) (actor_in word) ≡ Ok (Hart h)
actor_read word h other e = rw (other, is_number_some last_hart word h e, e) refl

pub actor_unread : (word : List ℕ) → is_clock word ≡ false → number_in last_hart word ≡ None → tested (actor_test word ∷ []) (actor_in word) ≡ Err BadNumber
actor_unread word other e = rw (other, is_number_none last_hart word e) refl
