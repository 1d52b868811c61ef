-- Words that are 0, and the next word that isn't.
use Rattle.std.specs.Prelude.{◌≡◌, ℕ, ◌<◌, ◌≤◌, List, length, slice_index}

-- each word from one place on and before another is 0
abbrev pub IsClear : (words : List ℕ) (from to : ℕ) → Type 0
IsClear words from to = (k : ℕ) → from ≤ k → k < to → slice_index words k ≡ 0

-- the place of the first word that isn't 0, from one place on
pub record IsNextSet (words : List ℕ) (from place : ℕ) : Type 0 where
  pub not_before : from ≤ place
  pub within : place < length words
  pub is_set : 0 < slice_index words place
  pub first : IsClear words from place
