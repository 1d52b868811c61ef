-- Sets of hart ids, each below 128 (profile). The model of a set is the list of its ids in ascending order.
use Rattle.std.specs.Prelude.{◌≡◌, ℕ, Bool, List, ◌==◌, ◌||◌, ◌&&◌, not, nat_lt, if◌then◌else◌, filter}
use Rattle.std.specs.List.{list_any, range_with_len}

-- The ids below 128 that pass the test, in ascending order (that there are 128: profile).
unfoldable pub ids_where : (ℕ → Bool) → List ℕ
ids_where test = filter test (range_with_len 0 128)

-- whether an id is one of a list
abbrev pub has : List ℕ → ℕ → Bool
has ids id = list_any (λ i. i == id) ids

-- whether a list is a set: its ids below 128, in ascending order, each once
unfoldable pub IsIdSet : List ℕ → Type 0
IsIdSet ids = ids ≡ ids_where (has ids)

-- the set with this id
abbrev pub with_id : List ℕ → ℕ → List ℕ
with_id ids id = ids_where (λ i. i == id || has ids i)

-- the set without this id
abbrev pub without_id : List ℕ → ℕ → List ℕ
without_id ids id = ids_where (λ i. not (i == id) && has ids i)

-- the ids below a number
abbrev pub ids_below : ℕ → List ℕ
ids_below n = ids_where (λ i. nat_lt i n)

-- the set with this id if the value is true, and without it otherwise
abbrev pub with_bit : List ℕ → ℕ → Bool → List ℕ
with_bit ids id value = ids_where (λ i. if i == id then value else has ids i)

-- the ids that are in one set or in the other
abbrev pub union_of : List ℕ → List ℕ → List ℕ
union_of ids others = ids_where (λ i. has ids i || has others i)

-- the ids that are in both sets
abbrev pub intersection_of : List ℕ → List ℕ → List ℕ
intersection_of ids others = ids_where (λ i. has ids i && has others i)
