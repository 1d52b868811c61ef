-- Whether accesses to watched addresses are steady, as tests that can be computed.
use Rattle.std.specs.Prelude.{ℕ, ◌%◌, ◌==◌, ◌&&◌, ◌||◌, Bool, false, not, List, Option, Some, None, Result, Ok, Err}
use Rattle.std.specs.List.{list_all}
use Rattle.sv39.specs.contracts.cause.CausePartialEq.TheImpl as causes
use Rattle.sv39.specs.declared.cause.Cause.{Cause}
use Rattle.sv39.specs.declared.cause.Kind.{Kind}
use Rattle.sv39.specs.Maps.{maps}
use Rattle.sv39.specs.Satp.{is_valid, translates}
use Rattle.tlb_model.specs.Entries.{Entry, matches}
use Rattle.hart_access.specs.Ways.{translated}
use Rattle.board_core.specs.Memory.{address_by}
use Rattle.any_tlb.specs.Steady.{phys_of}
use Rattle.tlb_watch.specs.declared.hart_address.HartAddress.{HartAddress}
use Rattle.tlb_watch.specs.Watched.{WatchedAddress}

-- whether two accesses come to the same physical address, or to the same fault
abbrev pub is_same_result : (a b : Result ℕ Cause) → Bool
is_same_result (Ok pa) (Ok other) = pa == other
is_same_result (Ok pa) (Err cause) = false
is_same_result (Err cause) (Ok pa) = false
is_same_result (Err cause) (Err other) = causes.ghosts.eq cause other

-- whether an entry gives an access of this kind what the page tables in a memory give it by this satp
abbrev pub gives_the_same : (memory : ℕ → Option ℕ) → (satp va : ℕ) → Kind → Entry → Bool
gives_the_same memory satp va kind entry =
    is_same_result (translated entry.leaf va kind) (phys_of (maps memory satp va kind) va)

-- the same, if the entry matches the address
abbrev pub agrees_with_tables : (memory : ℕ → Option ℕ) → (satp va : ℕ) → Kind → Entry → Bool
agrees_with_tables memory satp va kind entry =
    not (matches (address_by satp va) entry) || gives_the_same memory satp va kind entry

-- whether satp translates the address
abbrev pub is_translated : (satp va : ℕ) → Bool
is_translated satp va = (va % 8 == 0) && (translates satp && is_valid satp va)

-- whether each of these entries agrees with the page tables, if satp translates the address
abbrev pub all_agree : (memory : ℕ → Option ℕ) → (satp va : ℕ) → Kind → List Entry → Bool
all_agree memory satp va kind entries =
    not (is_translated satp va) || list_all (agrees_with_tables memory satp va kind) entries

-- whether an address is this one
abbrev pub is_address : (a b : HartAddress) → Bool
is_address a b = (a.hart == b.hart) && (a.address == b.address)

-- the same by what is watched of an address, unless that is another one
abbrev pub is_steady_by : HartAddress → (memory : ℕ → Option ℕ) → (satp : ℕ) → Kind → WatchedAddress → Bool
is_steady_by at memory satp kind w = not (is_address w.at at) || all_agree memory satp w.at.address kind w.entries

-- Whether an access of this kind to a watched address is steady, by what is watched of the address.
abbrev pub is_steady_in : List WatchedAddress → HartAddress → (memory : ℕ → Option ℕ) → (satp : ℕ) → Kind → Bool
is_steady_in watches at memory satp kind = list_all (is_steady_by at memory satp kind) watches

-- Whether an access that used this entry is stale: the entry gives it something else than the page tables.
abbrev pub is_stale_use : Option Entry → (memory : ℕ → Option ℕ) → (satp va : ℕ) → Kind → Bool
is_stale_use None memory satp va kind = false
is_stale_use (Some entry) memory satp va kind = not (gives_the_same memory satp va kind entry)
