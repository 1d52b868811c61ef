-- Fences of translations, local and remote (Privileged 4.2.1; SBI 8).
use Rattle.std.specs.Prelude.{ℕ, ◌+◌, ◌-◌, ◌^◌, ◌<◌, ◌≤◌, nat_lt, max, min, Bool, ◌==◌, ◌&&◌, ◌||◌, not, if◌then◌else◌, Option, Some, None, option_map}
use Rattle.sv39.specs.declared.paging.Spaces.{Spaces}
use Rattle.sv39.specs.Paging.{cut_asid, is_valid_by}
use Rattle.tlb_model.specs.declared.fence.Fence.{Fence}
use Rattle.tlb_model.specs.declared.fence.Range.{Range}

-- Whether [start, start + size) and [page, page + bytes) have an address in common; ends don't wrap.
abbrev pub meets : Range → (page bytes : ℕ) → Bool
meets range page bytes = nat_lt (max range.start page) (min (range.start + range.size) (page + bytes))

-- an address of the range that is also in the page
pub record HaveInCommon (range : Range) (page bytes : ℕ) : Type 0 where
  pub address : ℕ
  pub from_start : range.start ≤ address
  pub before_end : address < range.start + range.size
  pub from_page : page ≤ address
  pub before_page_end : address < page + bytes

-- The ASID in a register is its low ASIDLEN bits (Privileged 4.2.1).
abbrev pub low_asid : Spaces → Option ℕ → Option ℕ
low_asid spaces = option_map (cut_asid spaces)

-- An SFENCE.VMA of an address has the range [va, va + 1); with x0 it covers all addresses. An address that isn't valid
-- covers no page (Privileged 4.2.1; that the board's widest mode decides which is valid: profile).
abbrev pub range_of_address : Spaces → Option ℕ → Option Range
range_of_address spaces =
    option_map (λ va. record { start = va; size = if is_valid_by spaces.widest va then 1 else 0 })

-- The fence of an SFENCE.VMA: of one address or, without one, of all; in one address space or, without an ASID, in all
-- (Privileged 4.2.1). An address that isn't valid by the widest mode covers no page (profile).
abbrev pub fence_of_address : Spaces → (va asid : Option ℕ) → Fence
fence_of_address spaces va asid = record { asid = low_asid spaces asid; range = range_of_address spaces va }

-- A remote fence covers all addresses if start and size are 0, or size is 2^64-1 (SBI 8).
abbrev pub is_full : (start size : ℕ) → Bool
is_full start size = ((start == 0) && (size == 0)) || (size == 2 ^ 64 - 1)

-- A range is invalid if it isn't all addresses, and start + size is more than 2^64 (SBI 8, SBI_ERR_INVALID_ADDRESS;
-- that no other range is invalid: profile).
abbrev pub is_wrong_range : (start size : ℕ) → Bool
is_wrong_range start size = not (is_full start size) && nat_lt (2 ^ 64) (start + size)

-- The fence of a remote SFENCE.VMA (SBI 8).
abbrev pub fence_of_range : Spaces → (start size : ℕ) (asid : Option ℕ) → Fence
fence_of_range spaces start size asid =
    record {
      asid = low_asid spaces asid;
      range = if is_full start size then None else Some (record { start = start; size = size });
    }
