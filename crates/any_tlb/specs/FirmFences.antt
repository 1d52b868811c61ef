-- What makes accesses firm: a fence of everything, and page tables that don't change after it (Privileged 4.2.1).
use Rattle.std.specs.Prelude.{◌≡◌, ℕ, ◌+◌, ◌*◌, ◌≤◌, List, [], ◌∷◌, Bool, true}
use Rattle.sv39.specs.declared.page.Level.{Level}
use Rattle.sv39.specs.Maps.{table_of}
use Rattle.sv39.specs.Pages.{levels_from, part}
use Rattle.sv39.specs.Paging.{scheme}
use Rattle.sv39.specs.Satp.{paging_of, root_address}
use Rattle.board_core.specs.History.{Event}
use Rattle.board_core.specs.Memory.{memory, satp}
use Rattle.board_core.specs.Opening.{Opening, place_after}
use Rattle.board_laws.specs.Places.{IsAtPlace, past_at}
use Rattle.any_tlb.specs.Effects.{effect_at}
use Rattle.any_tlb.specs.Mixed.{orders_pointers}

-- At this place a fence without an address and without an ASID was applied at hart h, or the board was reset
-- (Privileged 4.2.1; that a reset counts: profile).
pub record WasFullyFenced (o : Opening) (past : List Event) (h place : ℕ) : Type 0 where
  pub event : Event
  pub happened : IsAtPlace o past place event
  pub fences : (global : Bool) (asid : ℕ)
      → orders_pointers global asid (effect_at o (past_at o past place) event h) ≡ true

-- From this place on, each page-table word on the way that a walk of the address takes now, from a table on, was what
-- it is now.
abbrev pub IsOneWay : Opening → List Event → (from va : ℕ) → (table : ℕ) → List Level → Type 0
IsOneWay o past from va table [] = Unit {0}
IsOneWay o past from va table (level ∷ under) =
    ((m : ℕ) → from ≤ m → m ≤ place_after o past
    → memory o (past_at o past m) (table + 8 * part level va) ≡ memory o past (table + 8 * part level va))
    × IsOneWay o past from va (table_of (memory o past (table + 8 * part level va))) under

-- From this place on, hart h had its present satp, and each page-table word on the way of the address was what it is
-- now.
pub record NothingChanged (o : Opening) (past : List Event) (h from va : ℕ) : Type 0 where
  pub satps : (m : ℕ) → from ≤ m → m ≤ place_after o past → satp o (past_at o past m) h ≡ satp o past h
  pub way : IsOneWay o past from va (root_address (satp o past h))
      (levels_from (scheme (paging_of (satp o past h))).root)
