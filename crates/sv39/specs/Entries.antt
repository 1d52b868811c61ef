-- The entries of page tables (Privileged 4.3.1, 4.4.1, 4.5.1).
use Rattle.std.specs.Prelude.{ℕ, ◌*◌, ◌/◌, ◌%◌, ◌^◌, Bool, not, ◌==◌, ◌&&◌, ◌||◌, is_some}
use Rattle.std.specs.Int.{bit_at}
use Rattle.sv39.specs.declared.page.Level.{Level}
use Rattle.sv39.specs.declared.page.TheConstants.{PAGE_BYTES, TABLE_ENTRIES}
use Rattle.sv39.specs.declared.page.Leaf.{Leaf}
use Rattle.sv39.specs.declared.satp.TheConstants.{PPN_BITS}
use Rattle.sv39.specs.Pages.{below, level_number, page_of}

-- Whether a bit of an entry is 1: V 0, R 1, W 2, X 3, U 4, G 5, A 6, D 7; bits 8 and 9, RSW, are ignored (Privileged
-- 4.3.1, 4.4.1, 4.5.1).
abbrev pub has_bit : ℕ → ℕ → Bool
has_bit n entry = bit_at entry n == 1

-- V: the entry is valid.
abbrev pub has_v : ℕ → Bool
has_v = has_bit 0

-- R: the page may be read.
abbrev pub has_r : ℕ → Bool
has_r = has_bit 1

-- W: the page may be written.
abbrev pub has_w : ℕ → Bool
has_w = has_bit 2

-- X: instructions may be fetched from the page.
abbrev pub has_x : ℕ → Bool
has_x = has_bit 3

-- U: the page is accessible to user mode.
abbrev pub has_u : ℕ → Bool
has_u = has_bit 4

-- G: the mapping is in all address spaces.
abbrev pub has_g : ℕ → Bool
has_g = has_bit 5

-- A: the page was accessed.
abbrev pub has_a : ℕ → Bool
has_a = has_bit 6

-- D: the page was written.
abbrev pub has_d : ℕ → Bool
has_d = has_bit 7

-- PPN, bits 53 to 10: the number of the physical page that the entry names.
abbrev pub page_number : ℕ → ℕ
page_number entry = entry / 2 ^ 10 % 2 ^ PPN_BITS

-- V is 1, and bits 63 to 54 are 0: otherwise the entry is invalid. Those bits are reserved, or used by an extension
-- (Privileged 4.3.2, 4.4.1, 4.5.1; that a board has neither Svnapot nor Svpbmt: profile).
abbrev pub is_present : ℕ → Bool
is_present entry = has_v entry && (entry / 2 ^ 54 == 0)

-- The entry is a valid pointer to a table of the level below. It has none of R, W and X, and none of A, D and U, which
-- are reserved in a pointer (Privileged 4.3.1, 4.3.2).
abbrev pub is_pointer : Level → ℕ → Bool
is_pointer level entry =
    is_some (below level) && is_present entry
    && not (has_r entry || has_w entry || has_x entry)
    && not (has_a entry || has_d entry || has_u entry)

-- The PPN of a superpage is aligned: its low parts, 9 bits for each level below, are 0 (Privileged 4.3.2).
abbrev pub is_aligned : Level → ℕ → Bool
is_aligned level entry = page_number entry % TABLE_ENTRIES ^ level_number level == 0

-- The entry is a valid leaf, for some access. It has R or X, and W only with R. U is 0 (a board has no SUM: profile). A
-- is 1 (a board faults instead of setting A: profile). The PPN is aligned (Privileged 4.3.1, 4.3.2, 4.4.1, 4.5.1).
abbrev pub is_leaf : Level → ℕ → Bool
is_leaf level entry =
    is_present entry && (has_r entry || has_x entry) && (has_r entry || not (has_w entry))
    && not (has_u entry) && has_a entry && is_aligned level entry

-- The leaf of a valid entry, for the page with the address. It is global by the entry, or by a pointer above it
-- (Privileged 4.3.1).
abbrev pub leaf_of : (entry va : ℕ) → Level → (global_above : Bool) → Leaf
leaf_of entry va level global_above = record {
  page = page_of level va;
  level = level;
  global = has_g entry || global_above;
  pa = PAGE_BYTES * page_number entry;
  r = has_r entry;
  w = has_w entry;
  x = has_x entry;
  d = has_d entry;
}
