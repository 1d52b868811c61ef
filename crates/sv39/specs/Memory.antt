-- The RAM, as a function from a physical address to the word there, if there is one (profile).
use Rattle.std.specs.Prelude.{◌≡◌, ℕ, ◌+◌, ◌-◌, ◌*◌, ◌/◌, ◌%◌, ◌^◌, ◌≤◌, Bool, ◌==◌, ◌&&◌, nat_le, nat_lt, if◌then◌else◌, List, length, replicate, Option, Some, None}
use Rattle.std.specs.List.{slice_get}
use Rattle.sv39.specs.declared.page.TheConstants.{PAGE_BYTES}
use Rattle.sv39.specs.declared.ram.TheConstants.{PAGE_WORDS, RAM_START}

-- Whether an address lies in a RAM of so many pages, which begins at 0x80000000 (profile).
abbrev pub is_ram_address : (pages : ℕ) → ℕ → Bool
is_ram_address pages a = nat_le RAM_START a && nat_lt a (RAM_START + PAGE_BYTES * pages)

-- Whether a word of the RAM is at the address: it lies in the RAM, and is aligned to 8 (profile).
unfoldable pub is_in_ram : (pages : ℕ) → ℕ → Bool
is_in_ram pages a = is_ram_address pages a && (a % 8 == 0)

-- The word at an address, if the RAM's words from RAM_START on are this list. None: the address is outside the RAM, or
-- isn't aligned to 8.
unfoldable pub word_in : List ℕ → ℕ → Option ℕ
word_in words a =
    if nat_le RAM_START a && nat_lt a (2 ^ 64) && (a % 8 == 0) then slice_get words ((a - RAM_START) / 8) else None

-- A RAM of so many pages with every word 0, as on a new board and after a cold reboot (profile).
unfoldable pub zero_memory : (pages : ℕ) → ℕ → Option ℕ
zero_memory pages a = if is_in_ram pages a then Some 0 else None

-- the memory with this word at one address
abbrev pub written : (ℕ → Option ℕ) → (at value : ℕ) → ℕ → Option ℕ
written memory at value a = if a == at then Some value else memory a

-- the number of whole pages that the words fill
abbrev pub pages_of : List ℕ → ℕ
pages_of words = length words / PAGE_WORDS

-- the words of so many pages, all 0
abbrev pub zero_words : (pages : ℕ) → List ℕ
zero_words pages = replicate (PAGE_WORDS * pages) 0

-- A RAM has 1 to 256 whole pages (profile).
pub record IsRam (words : List ℕ) : Type 0 where
  pub whole : length words ≡ PAGE_WORDS * pages_of words
  pub some : 1 ≤ pages_of words
  pub limit : pages_of words ≤ 256
