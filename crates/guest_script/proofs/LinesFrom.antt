-- A script, read line by line.
use Rattle.std.proofs.Common.{◌≡◌, ◌⊎◌, ℕ, ◌+◌, ◌<◌, ◌≤◌, Bool, true, false, cond, List, [], ◌∷◌, ◌++◌, length, Option, Some, None, Ok, Err, refl, sym, ap, ◌∙◌, inl, inr}
use Rattle.std.specs.Option.{option_map}
use Rattle.std.specs.Str.Lines.{lines}
use Rattle.std.proofs.lemmas.Bool.{cases_Bool, lt-ltb, le-ltb}
use Rattle.std.proofs.lemmas.Option.{same_Some}
use Rattle.board_terms.specs.declared.config.Config.{Config}
use Rattle.board_terms.specs.Refusals.{first_that_holds}
use Rattle.guest_script.specs.declared.fault.FaultKind.{FaultKind}
use Rattle.guest_script.specs.declared.fault.FaultKind.TheVariants.{NoBoardLine, TooLong}
use Rattle.guest_script.specs.declared.fault.ScriptFault.{ScriptFault}
use Rattle.guest_script.specs.Grammar.{Draft, Nothing, content_of, most_bytes}
use Rattle.guest_script.specs.Values.{board_in, draft_in, is_filled, next_in, script_in, words_in}
use Rattle.guest_script.specs.FirstFault.{at_line, board_first_tests, board_tests, byte_test, line_tests, lines_tests, no_memory}
use Rattle.guest_script.specs.Reading.{GoesOn, line_from, lines_from, located, or_fault, script_from, script_of, tested, with_config}

-- ---- tests one after another

pub tested_pass : {A F : Type 0} (tests more : List (Bool × F)) (value : A) → first_that_holds tests ≡ None → tested (tests ++ more) value ≡ tested more value
tested_pass [] more value none = refl
tested_pass (test ∷ tests) more value none = elim (cases_Bool test.0) [
  | inl holds ↦ absurd (let e = rw holds at none in cc)
  | inr fails ↦ rw fails (tested_pass tests more value (rw fails at none))
]

pub tested_fail : {A F : Type 0} (tests more : List (Bool × F)) (value : A) (fault : F) → first_that_holds tests ≡ Some fault → tested (tests ++ more) value ≡ Err fault
tested_fail [] more value fault some = absurd cc
tested_fail (test ∷ tests) more value fault some = elim (cases_Bool test.0) [
  | inl holds ↦ let e = rw holds at some in rw (holds, same_Some test.1 fault e) refl
  | inr fails ↦ rw fails (tested_fail tests more value fault (rw fails at some))
]

pub first_at_line : (n : ℕ) (tests : List (Bool × FaultKind)) → first_that_holds (at_line n tests) ≡ option_map (λ f. record { line = n; fault = f }) (first_that_holds tests)
first_at_line n [] = refl
first_at_line n (test ∷ tests) = elim (cases_Bool test.0) [
  | inl holds ↦ rw holds refl
  | inr fails ↦ rw fails (first_at_line n tests)
]

located_ok : {A : Type 0} (n : ℕ) (o : Option FaultKind) (x y : A) → located n (or_fault o x) ≡ Ok y → (o ≡ None) × (x ≡ y)
located_ok n None x y e = (refl, cc)
located_ok n (Some f) x y e = absurd cc

located_err : {A : Type 0} (n : ℕ) (o : Option FaultKind) (x : A) (e : ScriptFault) → located n (or_fault o x) ≡ Err e → option_map (λ f. record { line = n; fault = f }) o ≡ Some e
located_err n None x e at = absurd cc
located_err n (Some f) x e at = cc

-- line n, and the lines after it
module _ {A B : Type 0} (n : ℕ) (tests : List (Bool × FaultKind)) (value : A) (more : List (Bool × ScriptFault)) (all : B) where
  line_good : (found : A) → Ok found ≡ located n (tested tests value) → (tested (at_line n tests ++ more) all ≡ tested more all) × (value ≡ found)
  line_good found at =
      let good = located_ok n (first_that_holds tests) value found (sym at) in
      (tested_pass (at_line n tests) more all (first_at_line n tests ∙ ap (option_map (λ f. record { line = n; fault = f })) good.0), good.1)

  line_bad : (e : ScriptFault) → Err e ≡ located n (tested tests value) → tested (at_line n tests ++ more) all ≡ Err e
  line_bad e at = tested_fail (at_line n tests) more all e (first_at_line n tests ∙ located_err n (first_that_holds tests) value e (sym at))

-- ---- lines

-- lines from line n on, the first of which is a text
module _ (n : ℕ) (draft : Draft) (texts : List (List ℕ)) (text : List ℕ) (others : List (List ℕ)) (at : texts ≡ text ∷ others) where
  pub good_line : (next : Draft) → line_from n draft text ≡ Ok next → lines_from n draft texts ≡ lines_from (n + 1) next others
  unfolding line_from lines_from
  good_line next read =
      let good = line_good n (byte_test text ∷ line_tests draft (words_in text)) (next_in n draft (words_in text)) (lines_tests (n + 1) (next_in n draft (words_in text)) others)
      (draft_in n draft (text ∷ others)) next (sym read) in
      rw at (good.0 ∙ ap (λ (d : Draft). tested (lines_tests (n + 1) d others) (draft_in (n + 1) d others)) good.1)

  pub lines_from_bad : (e : ScriptFault) → line_from n draft text ≡ Err e → lines_from n draft texts ≡ Err e
  unfolding line_from lines_from
  lines_from_bad e read =
      rw at (line_bad n (byte_test text ∷ line_tests draft (words_in text)) (next_in n draft (words_in text)) (lines_tests (n + 1) (next_in n draft (words_in text)) others)
      (draft_in n draft (text ∷ others)) e (sym read))

-- the same, whatever lines follow those of the bytes
module _ (n : ℕ) (draft : Draft) (bytes text after : List ℕ) (at : lines bytes ≡ text ∷ lines after) where
  pub goes_on : (next : Draft) → line_from n draft text ≡ Ok next → GoesOn n draft bytes (n + 1) next after
  goes_on next read more = good_line n draft (lines bytes ++ more) text (lines after ++ more) (ap (λ (texts : List (List ℕ)). texts ++ more) at) next read

  pub bad_line : (e : ScriptFault) → (e ≡ no_memory) ⊎ (line_from n draft text ≡ Err e) → (e ≡ no_memory) ⊎ ((more : List (List ℕ)) → lines_from n draft (lines bytes ++ more) ≡ Err e)
  bad_line e (inl memory) = inl memory
  bad_line e (inr read) = inr (λ more. lines_from_bad n draft (lines bytes ++ more) text (lines after ++ more) (ap (λ (texts : List (List ℕ)). texts ++ more) at) e read)

-- a fault behind lines that were read
pub bad_behind : (n : ℕ) (draft : Draft) (bytes : List ℕ) (n' : ℕ) (next : Draft) (rest : List ℕ) → GoesOn n draft bytes n' next rest → (e : ScriptFault)
    → (e ≡ no_memory) ⊎ ((more : List (List ℕ)) → lines_from n' next (lines rest ++ more) ≡ Err e) → (e ≡ no_memory) ⊎ ((more : List (List ℕ)) → lines_from n draft (lines bytes ++ more) ≡ Err e)
bad_behind n draft bytes n' next rest on e (inl memory) = inl memory
bad_behind n draft bytes n' next rest on e (inr read) = inr (λ more. on more ∙ read more)

pub lines_from_none : (n : ℕ) (draft : Draft) → lines_from n draft [] ≡ Ok draft
unfolding lines_from
lines_from_none n draft = refl

-- ---- the board line

pub no_board_line : (n : ℕ) → script_from n [] ≡ Err (record { line = 0; fault = NoBoardLine })
unfolding script_from
no_board_line n = refl

no_board : (words : List (List ℕ)) → board_in words ≡ None → is_filled words ≡ false
no_board [] none = refl
no_board (word ∷ words) none = absurd cc

some_board : (words : List (List ℕ)) (config : Config) → board_in words ≡ Some config → is_filled words ≡ true
some_board [] config some = absurd cc
some_board (word ∷ words) config some = refl

with_config_or_fault : (config : Config) (draft : Draft) (o : Option ScriptFault) → or_fault o (record { config = config; content = content_of draft }) ≡ with_config config (or_fault o draft)
with_config_or_fault config draft None = refl
with_config_or_fault config draft (Some fault) = refl

module _ (n : ℕ) (texts : List (List ℕ)) (text : List ℕ) (others : List (List ℕ)) (at : texts ≡ text ∷ others) where
  pub script_from_none : Ok None ≡ located n (tested (byte_test text ∷ board_tests (words_in text)) (board_in (words_in text))) → script_from n texts ≡ script_from (n + 1) others
  unfolding script_from
  script_from_none read =
      let line = line_good n (byte_test text ∷ board_tests (words_in text)) (board_in (words_in text))
      (cond (is_filled (words_in text)) (lines_tests (n + 1) Nothing others) (board_first_tests (n + 1) others)) (script_in n (text ∷ others)) None read in
      rw at (line.0 ∙ rw (no_board (words_in text) line.1, line.1) refl)

  pub script_from_board : (config : Config) → Ok (Some config) ≡ located n (tested (byte_test text ∷ board_tests (words_in text)) (board_in (words_in text)))
      → script_from n texts ≡ with_config config (lines_from (n + 1) Nothing others)
  unfolding script_from lines_from
  script_from_board config read =
      let line = line_good n (byte_test text ∷ board_tests (words_in text)) (board_in (words_in text))
      (cond (is_filled (words_in text)) (lines_tests (n + 1) Nothing others) (board_first_tests (n + 1) others)) (script_in n (text ∷ others)) (Some config) read in
      rw at (line.0 ∙ rw (some_board (words_in text) config line.1, line.1) (with_config_or_fault config (draft_in (n + 1) Nothing others) (first_that_holds (lines_tests (n + 1) Nothing others))))

  pub script_from_bad : (e : ScriptFault) → Err e ≡ located n (tested (byte_test text ∷ board_tests (words_in text)) (board_in (words_in text))) → script_from n texts ≡ Err e
  unfolding script_from
  script_from_bad e read = rw at (line_bad n (byte_test text ∷ board_tests (words_in text)) (board_in (words_in text)) _ (script_in n (text ∷ others)) e read)

-- ---- the whole script

pub script_of_long : (bytes : List ℕ) → most_bytes < length bytes → script_of bytes ≡ Err (record { line = 0; fault = TooLong })
unfolding script_of
script_of_long bytes long = rw (lt-ltb most_bytes (length bytes) long) refl

pub script_of_short : (bytes : List ℕ) → length bytes ≤ most_bytes → script_of bytes ≡ script_from 1 (lines bytes)
unfolding script_of script_from
script_of_short bytes short = rw (le-ltb most_bytes (length bytes) short) refl
