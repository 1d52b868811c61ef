-- The counts of a record's seats: private.
use Rattle.std.specs.Prelude.{◌≡◌, ℕ, ◌+◌, ◌≤◌, List, [], ◌∷◌, length}
use Rattle.std.specs.List.{AllByRecursion}
use mathlib.Core.List.{IsPrefix}
use Rattle.board_core.specs.History.{Event}
use Rattle.board_lock.specs.Events.{ops_of}
use Rattle.board_lock.specs.Inside.Kept.{count_of}
use Rattle.board_lock.specs.Seats.{Sitting}

-- the sum of the seats' counts
abbrev pub counts : List Sitting → ℕ
counts [] = 0
counts (s ∷ ss) = s.count + counts ss

-- no seat counts more than its actor's events
abbrev pub Within : List Event → List Sitting → Type 0
Within es ss = AllByRecursion (λ (s : Sitting). s.count ≤ count_of s.actor es) ss

-- a seat that counts all events of its actor has their operations
abbrev pub Knows : List Event → List Sitting → Type 0
Knows es ss = AllByRecursion (λ (s : Sitting). s.count ≡ count_of s.actor es → ops_of s.actor es ≡ s.ops) ss

-- each seat saw a prefix of the events, which has all events that it counts
abbrev pub Looked : List Event → List Sitting → Type 0
Looked es ss = AllByRecursion (λ (s : Sitting). IsPrefix s.saw es × (s.count ≤ count_of s.actor s.saw)) ss

-- These seats gave back their parts of the ledger, with their counts, and none counts more than its actor's events.
pub record IsSettling (es : List Event) (ss : List Sitting) (parts amount : ℕ) : Type 0 where
  pub parts_are : parts ≡ length ss
  pub amount_is : amount ≡ counts ss
  pub within : Within es ss
  pub knows : Knows es ss
  pub looked : Looked es ss
