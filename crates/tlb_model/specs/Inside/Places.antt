-- The 16 places of a cache, which the fills take in turn (profile).
use Rattle.std.specs.Prelude.{◌≡◌, ℕ, zero, suc, ◌%◌, List, [], ◌∷◌, ◌++◌, Bool, true, false, ◌==◌, Option, Some, None, slice_get, slice_index}
use Rattle.std.specs.Int.{bit_at}
use Rattle.tlb_model.specs.declared.cache.Numbered.{Numbered}

module _ {E : Type 0} where
  -- the fill of this number, from the item in its place, unless it was dropped
  abbrev pub kept : Option E → (is_dropped : Bool) → (date number : ℕ) → List (Numbered E)
  kept (Some item) false date number = record { date = date; number = number; item = item } ∷ []
  kept (Some item) true date number = []
  kept None is_dropped date number = []

  -- The live ones of so many fills before this number, newest first. Fill n is in place n mod 16, with its date at the
  -- same index; the place's bit in the word `dropped` is 1 if it was dropped.
  abbrev pub seen : (number count : ℕ) → (places : List E) → (dates : List ℕ) → (dropped : ℕ) → List (Numbered E)
  seen zero count places dates dropped = []
  seen (suc number) zero places dates dropped = []
  seen (suc number) (suc count) places dates dropped =
      kept (slice_get places (number % 16)) (bit_at dropped (number % 16) == 1) (slice_index dates (number % 16)) number
      ++ seen number count places dates dropped

  -- each item's tag is at the index of its place
  abbrev pub AreTagged : (tag : E → ℕ) → (places : List E) → (tags : List ℕ) → Type 0
  AreTagged tag places tags = (place : ℕ) (item : E) → slice_get places place ≡ Some item → slice_index tags place ≡ tag item
