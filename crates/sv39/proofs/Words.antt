-- The words of a list, by their addresses.
use Rattle.std.proofs.Common.{◌≡◌, ℕ, ◌-◌, ◌*◌, ◌/◌, ◌%◌, ◌^◌, ◌<◌, ◌≤◌, true, cond, ◌&&◌, eqb, leb, ltb, List, length, set, replicate, Some, None, is_some, ap, ◌∙◌, arith}
use Rattle.std.specs.List.{slice_get}
pub use Rattle.std.proofs.lemmas.Bool.Decides.{nat_tests}
use Rattle.std.proofs.lemmas.Grind.{common_steps}
use Rattle.std.proofs.lemmas.Option.{gets}
use Rattle.sv39.specs.declared.ram.TheConstants.{PAGE_WORDS, RAM_START}
use Rattle.sv39.specs.Memory.{IsRam, is_in_ram, pages_of, word_in, written, zero_memory}

-- a word of a list
pub is_some-slice_get : {A : Type 0} (xs : List A) (i : ℕ) → is_some (slice_get xs i) ≡ ltb i (length xs)
is_some-slice_get xs i = grind (arith, nat_tests, gets)

-- where a word stands, and its place in the list
pub record StandsAt (words : List ℕ) (at : ℕ) : Type 0 where
  pub start : RAM_START ≤ at
  pub limit : at < 2 ^ 64
  pub aligned : at % 8 ≡ 0
  pub within : (at - RAM_START) / 8 < length words

pub stands : (words : List ℕ) (at : ℕ) → is_some (word_in words at) ≡ true → StandsAt words at
unfolding word_in
stands words at there = grind (arith, nat_tests, is_some-slice_get)

-- and then it is the one at that place
pub word_in-place : (words : List ℕ) (at : ℕ) → StandsAt words at → word_in words at ≡ slice_get words ((at - RAM_START) / 8)
unfolding word_in
word_in-place words at s = grind (arith, nat_tests)

pub is_some-word_in : (words : List ℕ) (at : ℕ) → IsRam words → is_some (word_in words at) ≡ is_in_ram (pages_of words) at
unfolding word_in is_in_ram
is_some-word_in words at ram = grind (arith, nat_tests, is_some-slice_get)

pub slice_get-set : {A : Type 0} (xs : List A) (k i : ℕ) (value : A) → k < length xs → slice_get (set xs k value) i ≡ cond (eqb i k) (Some value) (slice_get xs i)
slice_get-set xs k i value within = grind (arith, nat_tests, gets, common_steps)

pub word_in-set-at : (words : List ℕ) (at value a : ℕ) → StandsAt words at → word_in (set words ((at - RAM_START) / 8) value) a ≡ written (word_in words) at value a
unfolding word_in
word_in-set-at words at value a s = grind (arith, nat_tests, slice_get-set)

-- a word more at an address
pub word_in-set : (words : List ℕ) (at value : ℕ) → StandsAt words at → word_in (set words ((at - RAM_START) / 8) value) ≡ written (word_in words) at value
word_in-set words at value s = λ i a. word_in-set-at words at value a s i

pub slice_get-replicate : (n i : ℕ) → slice_get {X = ℕ} (replicate n 0) i ≡ cond (ltb i n) (Some 0) None
slice_get-replicate n i = grind (arith, nat_tests, gets, common_steps)

pub word_in-zeros-at : (pages a : ℕ) → pages ≤ 256 → word_in (replicate (PAGE_WORDS * pages) 0) a ≡ zero_memory pages a
unfolding word_in zero_memory is_in_ram
word_in-zeros-at pages a limit = grind (arith, nat_tests, slice_get-replicate)

pub word_in-zeros : (pages : ℕ) → pages ≤ 256 → word_in (replicate (PAGE_WORDS * pages) 0) ≡ zero_memory pages
word_in-zeros pages limit = λ i a. word_in-zeros-at pages a limit i

-- the words of a RAM once each of them is 0
pub word_in-cleared : (words : List ℕ) → IsRam words → word_in (replicate (length words) 0) ≡ zero_memory (pages_of words)
word_in-cleared words ram =
    ap (λ n. word_in (replicate n 0)) ram.whole ∙ word_in-zeros (pages_of words) ram.limit

-- whether a word stands at an address, of so many
pub word_at : (words : List ℕ) (at : ℕ) → at < 2 ^ 64 → is_some (word_in words at) ≡ (leb RAM_START at && eqb (at % 8) 0 && ltb ((at - RAM_START) / 8) (length words))
unfolding word_in
word_at words at fits = grind (arith, nat_tests, is_some-slice_get)
