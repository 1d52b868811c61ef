-- The entry that an access uses, and what it fills, as conditions (Privileged 4.2.1, 4.3.2; Zifencei).
use Rattle.std.specs.Prelude.{◌≡◌, ℕ, ◌%◌, true, Option, Some, None, Ok}
use Rattle.sv39.specs.Maps.{maps}
use Rattle.sv39.specs.Satp.{asid_of, is_valid, translates}
use Rattle.tlb_model.specs.declared.entry.Address.{Address}
use Rattle.tlb_model.specs.Entries.{Entry}
use Rattle.tlb_model.specs.declared.word.FetchWord.{FetchWord}
use Rattle.hart_access.specs.declared.accesses.Access.{Access}
use Rattle.hart_access.specs.declared.accesses.Access.TheVariants.{Fetch}
use Rattle.hart_access.specs.Accesses.{place}
use Rattle.hart_access.specs.AccessKinds.{kind_of}

-- The address is aligned to 8 (profile), satp translates, and the address is valid by satp's paging mode (Privileged
-- 4.1.11, 4.4.1, 4.5.1).
pub record IsTranslated (satp va : ℕ) : Type 0 where
  pub aligned : va % 8 ≡ 0
  pub mode : translates satp ≡ true
  pub valid : is_valid satp va ≡ true

-- the TLB's hit for the address, in satp's address space
abbrev pub hit_at : (satp : ℕ) → (tlb : Address → Option Entry) → (va : ℕ) → Option Entry
hit_at satp tlb va = tlb (record { va = va; asid = asid_of satp })

-- The access hits this entry (Privileged 4.2.1).
pub record Hits (satp : ℕ) (tlb : Address → Option Entry) (va : ℕ) (entry : Entry) : Type 0 where
  pub translated : IsTranslated satp va
  pub hit : hit_at satp tlb va ≡ Some entry

-- The access fills this entry: it hits none, the page tables give the entry's leaf, and the entry has satp's ASID
-- (Privileged 4.2.1, 4.3.2).
pub record Fills (memory : ℕ → Option ℕ) (satp : ℕ) (tlb : Address → Option Entry) (va : ℕ) (access : Access)
    (entry : Entry) : Type 0 where
  pub translated : IsTranslated satp va
  pub missed : hit_at satp tlb va ≡ None
  pub mapped : maps memory satp va (kind_of access) ≡ Ok entry.leaf
  pub space : entry.asid ≡ asid_of satp

-- The access fills this word: it is a fetch that doesn't fail, the cache has no word of its address, and the word is
-- the memory's (Zifencei).
pub record Fetches (memory : ℕ → Option ℕ) (satp : ℕ) (tlb : Address → Option Entry) (words : ℕ → Option FetchWord)
    (va : ℕ) (access : Access) (fetched : FetchWord) : Type 0 where
  pub kind : access ≡ Fetch
  pub place : place memory satp tlb va access ≡ Ok fetched.pa
  pub missed : words fetched.pa ≡ None
  pub word : memory fetched.pa ≡ Some fetched.word
