-- What is kept of watched addresses: each satp, each fence and each entry once. So a program with finitely many of them has finitely
-- many states.
use Rattle.std.specs.Prelude.{ℕ, ◌==◌, ◌&&◌, Bool, true, false, not, List, [], ◌∷◌, ◌++◌, filter, map, if◌then◌else◌, Option}
use Rattle.std.specs.List.{fold, list_any}
use Rattle.rfence.specs.Applied.{Effect, Nothing, Drops, Empties}
use Rattle.sv39.specs.contracts.page.LeafPartialEq.TheImpl as leaves
use Rattle.sv39.specs.Satp.{translates}
use Rattle.tlb_model.specs.contracts.fence.FlushPartialEq.TheImpl as flushes
use Rattle.tlb_model.specs.declared.fence.Flush.{Flush}
use Rattle.tlb_model.specs.Entries.{Entry}
use Rattle.any_tlb.specs.declared.watcher.Walking.{Walking}
use Rattle.any_tlb.specs.declared.watcher.Walking.TheVariants.{Had, Fenced}
use Rattle.any_tlb.specs.Watch.{given_by, spared}
use Rattle.tlb_watch.specs.Watched.{WatchedAddress}

-- whether a log's entry is this fence
abbrev pub is_fence : Flush → Walking → Bool
is_fence flush (Had satp) = false
is_fence flush (Fenced other) = flushes.ghosts.eq other flush

-- a log after an effect on the hart's caches, without older notes of the same fence, which say nothing more
abbrev pub logged_once : Effect Flush → List Walking → List Walking
logged_once Nothing walks = walks
logged_once (Drops flush) walks = filter (λ walking. not (is_fence flush walking)) walks ++ Fenced flush ∷ []
logged_once Empties walks = []

-- whether the log has an entry
abbrev pub has_some : List Walking → Bool
has_some [] = false
has_some (walking ∷ walks) = true

-- Whether an entry of a log says more, behind those that are kept, if the hart has this satp now. A fence says nothing where no walk
-- began before it, and a satp nothing that doesn't translate.
abbrev pub says_more : (satp : ℕ) → (kept : List Walking) → Walking → Bool
says_more satp kept (Had other) = not (other == satp) && translates other
says_more satp kept (Fenced flush) = has_some kept

-- the entries that are kept, with one more that says more
abbrev pub kept_with : (satp : ℕ) → (kept : List Walking) → Walking → List Walking
kept_with satp kept walking = if says_more satp kept walking then kept ++ walking ∷ [] else kept

-- the entries of a log that say more, if the hart has this satp now
abbrev pub said_before : (satp : ℕ) → List Walking → List Walking
said_before satp walks = fold (kept_with satp) [] walks

-- a log with this satp at its end, without entries that say nothing more
abbrev pub with_satp : (satp : ℕ) → List Walking → List Walking
with_satp satp walks =
    if translates satp then said_before satp walks ++ Had satp ∷ [] else said_before satp walks

-- whether two entries are the same
abbrev pub is_same_entry : (a b : Entry) → Bool
is_same_entry a b = leaves.ghosts.eq a.leaf b.leaf && (a.asid == b.asid)

-- whether an entry is among these
abbrev pub has_entry : List Entry → Entry → Bool
has_entry entries entry = list_any (λ other. is_same_entry other entry) entries

-- the entries with one more, unless it is there
abbrev pub with_entry : List Entry → Entry → List Entry
with_entry entries entry = if has_entry entries entry then entries else entries ++ entry ∷ []

-- the entries with all of these, one by one
abbrev pub with_entries : List Entry → List Entry → List Entry
with_entries entries given = fold with_entry entries given

-- What is kept of an address after an event that does this to the hart's caches, and leaves this memory and this satp.
abbrev pub kept_after : Effect Flush → (memory : ℕ → Option ℕ) → (satp : ℕ) → WatchedAddress → WatchedAddress
kept_after done memory satp w = record {
  at = w.at;
  walks = with_satp satp (logged_once done w.walks);
  entries =
      with_entries (spared done w.entries) (given_by memory w.at.address [] (with_satp satp (logged_once done w.walks)));
}

-- The same of all watched addresses, by what the event does to the caches of each hart, and by the satps that it leaves.
abbrev pub all_kept_after : ((h : ℕ) → Effect Flush) → (memory : ℕ → Option ℕ) → (satps : (h : ℕ) → ℕ) → List WatchedAddress
    → List WatchedAddress
all_kept_after does memory satps watches =
    map (λ (w : WatchedAddress). kept_after (does w.at.hart) memory (satps w.at.hart) w) watches
