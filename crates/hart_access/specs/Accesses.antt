-- The result of an access and its effects, from the memory, satp and the caches before it. The memory is a function
-- from an address to the word there. A cache is a function from a key to the hit. (Privileged 4.1.11, 4.2.1, 4.3.2,
-- 4.4, 4.5; Zifencei.)
use Rattle.std.specs.Prelude.{ℕ, Option, Some, None, unwrap_or, Result, Ok, Err}
use Rattle.amo.specs.Amos.{new_word, old_value}
use Rattle.sv39.specs.declared.cause.Cause.{Cause}
use Rattle.sv39.specs.Memory.{written}
use Rattle.tlb_model.specs.declared.entry.Address.{Address}
use Rattle.tlb_model.specs.Entries.{Entry}
use Rattle.tlb_model.specs.declared.word.FetchWord.{FetchWord}
use Rattle.hart_access.specs.declared.accesses.Access.{Access}
use Rattle.hart_access.specs.declared.accesses.Access.TheVariants.{Load, Store, Fetch, Amo}
use Rattle.hart_access.specs.declared.way.Way.{Way}
use Rattle.hart_access.specs.AccessKinds.{kind_of}
use Rattle.hart_access.specs.Ways.{fill_by, place_by, used_by, way}

-- A fetch reads the cached word, or the memory's if the cache has none (Zifencei).
abbrev pub fetched_or : Option FetchWord → (word : ℕ) → ℕ
fetched_or (Some fetched) word = fetched.word
fetched_or None word = word

-- What an access reads at a physical address of the RAM. A store reads 0 (profile).
abbrev pub read_at : (memory : ℕ → Option ℕ) → (words : ℕ → Option FetchWord) → (pa : ℕ) → Access → ℕ
read_at memory words pa Load = unwrap_or (memory pa) 0
read_at memory words pa (Store value) = 0
read_at memory words pa Fetch = fetched_or (words pa) (unwrap_or (memory pa) 0)
read_at memory words pa (Amo at amo) = old_value amo at (unwrap_or (memory pa) 0)

-- The memory after an access there. A store writes its word, and an AMO the word that it makes of the old one. Nothing
-- else changes.
abbrev pub stored_at : (memory : ℕ → Option ℕ) → (pa : ℕ) → Access → ℕ → Option ℕ
stored_at memory pa Load = memory
stored_at memory pa (Store value) = written memory pa value
stored_at memory pa Fetch = memory
stored_at memory pa (Amo at amo) = written memory pa (new_word amo at (unwrap_or (memory pa) 0))

-- the memory's word, if the cache has none
abbrev pub fetched_from : Option FetchWord → (pa word : ℕ) → Option FetchWord
fetched_from (Some fetched) pa word = None
fetched_from None pa word = Some (record { pa = pa; word = word })

-- The word filled into the instruction cache: the one that a fetch read from the memory. A store or an AMO changes
-- no cached word (profile).
abbrev pub word_filling_at : (memory : ℕ → Option ℕ) → (words : ℕ → Option FetchWord) → (pa : ℕ) → Access
    → Option FetchWord
word_filling_at memory words pa Load = None
word_filling_at memory words pa (Store value) = None
word_filling_at memory words pa Fetch = fetched_from (words pa) pa (unwrap_or (memory pa) 0)
word_filling_at memory words pa (Amo at amo) = None

-- The same for a place that may be a fault: an access that fails reads, stores and fetches nothing.
abbrev pub answer_by : (memory : ℕ → Option ℕ) → (words : ℕ → Option FetchWord) → (place : Result ℕ Cause) → Access
    → Result ℕ Cause
answer_by memory words (Ok pa) access = Ok (read_at memory words pa access)
answer_by memory words (Err cause) access = Err cause

abbrev pub stored_by : (memory : ℕ → Option ℕ) → (place : Result ℕ Cause) → Access → ℕ → Option ℕ
stored_by memory (Ok pa) access = stored_at memory pa access
stored_by memory (Err cause) access = memory

abbrev pub word_filling_by : (memory : ℕ → Option ℕ) → (words : ℕ → Option FetchWord) → (place : Result ℕ Cause)
    → Access → Option FetchWord
word_filling_by memory words (Ok pa) access = word_filling_at memory words pa access
word_filling_by memory words (Err cause) access = None

module _ (memory : ℕ → Option ℕ) (satp : ℕ) (tlb : Address → Option Entry) where
  -- how the access gets its physical address
  abbrev pub way_of : (va : ℕ) → Access → Way
  way_of va access = way memory satp tlb va (kind_of access)

  -- the physical address of the word in the RAM, or why the access fails
  abbrev pub place : (va : ℕ) → Access → Result ℕ Cause
  place va access = place_by memory (way_of va access) va (kind_of access)

  -- The entry that an access uses: the one that it hits, or the one that it fills (profile).
  abbrev pub used : (va : ℕ) → Access → Option Entry
  used va access = used_by (way_of va access)

  -- The entry that an access fills: if no entry was hit, the leaf found, with satp's ASID (Privileged 4.2.1).
  abbrev pub filling : (va : ℕ) → Access → Option Entry
  filling va access = fill_by (way_of va access)

  -- The memory after the access.
  abbrev pub stored : (va : ℕ) → Access → ℕ → Option ℕ
  stored va access = stored_by memory (place va access) access

  -- The word that an access fills into the instruction cache.
  abbrev pub word_filling : (words : ℕ → Option FetchWord) → (va : ℕ) → Access → Option FetchWord
  word_filling words va access = word_filling_by memory words (place va access) access

  -- The result of an access: what it reads, or why it fails.
  abbrev pub answer : (words : ℕ → Option FetchWord) → (va : ℕ) → Access → Result ℕ Cause
  answer words va access = answer_by memory words (place va access) access
