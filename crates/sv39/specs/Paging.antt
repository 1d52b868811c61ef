-- The paging modes, and the widths of virtual addresses and ASIDs (Privileged 4.1.11, 4.4.1, 4.5.1).
use Rattle.std.specs.Prelude.{ℕ, ◌-◌, ◌*◌, ◌/◌, ◌%◌, ◌^◌, Bool, ◌==◌, nat_le, if◌then◌else◌, Option, Some, None}
use Rattle.std.specs.Int.{bit_at}
use Rattle.sv39.specs.declared.page.Level.{Level}
use Rattle.sv39.specs.declared.page.Level.TheVariants.{Giga, Tera}
use Rattle.sv39.specs.declared.paging.Paging.{Paging}
use Rattle.sv39.specs.declared.paging.Paging.TheVariants.{Sv39, Sv48}
use Rattle.sv39.specs.declared.paging.Spaces.{Spaces}

-- A paging mode: its number in satp's MODE, the bits of its virtual addresses, and the level of its root page table.
pub record Scheme : Type 0 where
  pub number : ℕ
  pub width : ℕ
  pub root : Level

-- The modes (Privileged 4.1.11, 4.4.1, 4.5.1).
abbrev pub scheme : Paging → Scheme
scheme Sv39 = record { number = 8; width = 39; root = Giga }
scheme Sv48 = record { number = 9; width = 48; root = Tera }

-- the mode with this number in MODE, if there is one
abbrev pub named : ℕ → Option Paging
named number =
    if number == (scheme Sv39).number then Some Sv39
    else if number == (scheme Sv48).number then Some Sv48
    else None

-- An address is valid by a mode if all bits from the mode's width on equal the bit below them (Privileged 4.4.1,
-- 4.5.1).
unfoldable pub is_valid_by : Paging → ℕ → Bool
is_valid_by mode va =
    va / 2 ^ (scheme mode).width == (2 ^ (64 - (scheme mode).width) - 1) * bit_at va ((scheme mode).width - 1)

-- A board implements its widest mode, and all narrower ones (Privileged 4.1.11).
abbrev pub supports : Spaces → Paging → Bool
supports spaces mode = nat_le (scheme mode).width (scheme spaces.widest).width

-- The low ASIDLEN bits of an ASID, which are kept (Privileged 4.1.11, 4.2.1).
abbrev pub cut_asid : Spaces → ℕ → ℕ
cut_asid spaces asid = asid % 2 ^ spaces.asid_len
