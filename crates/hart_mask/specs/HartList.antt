-- The harts of a hart list: a mask of 64 bits, and the base, which is the hart id of bit 0 (SBI 3, Hart list parameter).
use Rattle.std.specs.Prelude.{ℕ, ◌+◌, ◌-◌, ◌^◌, Bool, List, ◌==◌, ◌||◌, ◌&&◌, nat_le, if◌then◌else◌, Option, Some, None}
use Rattle.std.specs.List.{list_any, range_with_len}
use Rattle.hart_mask.specs.Bits.{is_set}
use Rattle.hart_mask.specs.Ids.{ids_below, ids_where}

-- The base that means all harts: -1, as a number of 64 bits (SBI 3, Hart list parameter).
abbrev pub base_of_all : ℕ
base_of_all = 2 ^ 64 - 1

-- The harts that the mask names: from the base on, hart h by the bit h - base (SBI 3, Hart list parameter).
abbrev pub named_by : ℕ → ℕ → List ℕ
named_by mask base = ids_where (λ h. nat_le base h && is_set mask (h - base))

-- Whether a set bit i of the mask's 64 names a hart base + i that doesn't exist: it isn't below n. The sum doesn't wrap
-- (profile).
unfoldable pub names_stray : ℕ → ℕ → ℕ → Bool
names_stray mask base n = list_any (λ i. is_set mask i && nat_le n (base + i)) (range_with_len 0 64)

-- The targets among n harts, or None for an invalid parameter (SBI 3, Hart list parameter). The base -1 names all
-- harts, whatever the mask. Otherwise the parameter is invalid if the base isn't a hart's id (even if no bit is set:
-- profile), or if a set bit names no hart.
unfoldable pub targets_of : ℕ → ℕ → ℕ → Option (List ℕ)
targets_of mask base n =
    if base == base_of_all then Some (ids_below n)
    else if nat_le n base || names_stray mask base n then None
    else Some (named_by mask base)
