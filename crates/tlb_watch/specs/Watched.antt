-- What is watched of one address at one hart.
use Rattle.std.specs.Prelude.{◌≡◌, ℕ, List, [], ◌∷◌, ◌++◌, map, Option}
use Rattle.rfence.specs.Applied.{Effect}
use Rattle.tlb_model.specs.declared.cache.Numbered.{Numbered}
use Rattle.tlb_model.specs.declared.fence.Flush.{Flush}
use Rattle.tlb_model.specs.Entries.{Entry}
use Rattle.board_core.specs.History.{Event}
use Rattle.board_core.specs.Opening.{Opening, tlb_at}
use Rattle.any_tlb.specs.declared.watcher.Walking.{Walking}
use Rattle.any_tlb.specs.declared.watcher.Walking.TheVariants.{Had}
use Rattle.any_tlb.specs.Watch.{given_by, logged, spared, walks_of, watched}
use Rattle.tlb_watch.specs.declared.hart_address.HartAddress.{HartAddress}
use Rattle.tlb_watch.specs.Sets.{HaveSameMembers}

-- An address at a hart, what happened to the hart's walks, and the entries that its TLB may hold for the address.
pub record WatchedAddress : Type 0 where
  pub at : HartAddress
  pub walks : List Walking
  pub entries : List Entry

-- What is watched of an address at a hart after a history.
abbrev pub watch_of : Opening → List Event → HartAddress → WatchedAddress
watch_of o past at =
    record { at = at; walks = walks_of o past at.hart; entries = watched o past at.hart at.address }

-- the entries that live in the TLB of hart h at an opening, newest first
abbrev pub opened_entries : Opening → (h : ℕ) → List Entry
opened_entries o h = map (λ (fill : Numbered Entry). fill.item) (tlb_at o h).live

-- What is watched after one more look: these entries, and those that walks give by the page tables in a memory.
abbrev pub looked : (memory : ℕ → Option ℕ) → HartAddress → List Walking → List Entry → WatchedAddress
looked memory at walks entries =
    record { at = at; walks = walks; entries = entries ++ given_by memory at.address [] walks }

-- What is watched after an event that does this to the hart's caches, and leaves this memory and this satp.
abbrev pub after_event : Effect Flush → (memory : ℕ → Option ℕ) → (satp : ℕ) → WatchedAddress → WatchedAddress
after_event done memory satp w =
    looked memory w.at (logged done w.walks ++ Had satp ∷ []) (spared done w.entries)

-- Two logs of walks give the same entries, for any address and by the page tables in any memory.
abbrev pub GiveTheSame : (walks others : List Walking) → Type 0
GiveTheSame walks others =
    (memory : ℕ → Option ℕ) (va : ℕ) → HaveSameMembers (given_by memory va [] walks) (given_by memory va [] others)

-- What is watched is the same: of the same address, by walks that give the same, with the same entries. Lists that
-- keep each entry and each satp once are so like those that `watched` has, which grow with each event.
pub record WatchTheSame (a b : WatchedAddress) : Type 0 where
  pub at : a.at ≡ b.at
  pub walks : GiveTheSame a.walks b.walks
  pub entries : HaveSameMembers a.entries b.entries
