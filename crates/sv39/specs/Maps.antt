-- The leaf by which the page tables in a memory map an address (Privileged 4.3.2, 4.4.1, 4.5.1).
use Rattle.std.specs.Prelude.{◌≡◌, ℕ, ◌+◌, ◌*◌, Bool, true, false, ◌&&◌, ◌||◌, MatchBool, if◌then◌else◌, List, [], ◌∷◌, ◌++◌, Option, Some, None, Result, Err}
use Rattle.sv39.specs.declared.cause.Cause.{Cause}
use Rattle.sv39.specs.declared.cause.Kind.{Kind}
use Rattle.sv39.specs.declared.page.Leaf.{Leaf}
use Rattle.sv39.specs.declared.page.Level.{Level}
use Rattle.sv39.specs.declared.page.TheConstants.{PAGE_BYTES}
use Rattle.sv39.specs.Causes.{access_fault, page_fault}
use Rattle.sv39.specs.Entries.{has_g, is_leaf, is_pointer, leaf_of, page_number}
use Rattle.sv39.specs.Leaves.{by_right}
use Rattle.sv39.specs.Pages.{levels_from, part}
use Rattle.sv39.specs.Paging.{scheme}
use Rattle.sv39.specs.Satp.{is_valid, paging_of, root_address}

-- the entry for a virtual address in the table at this physical address, of this level
abbrev pub entry_in : (ℕ → Option ℕ) → (va : ℕ) → (table : ℕ) → Level → Option ℕ
entry_in memory va table level = memory (table + 8 * part level va)

-- the table that an entry points to
abbrev pub table_of : Option ℕ → ℕ
table_of (Some entry) = PAGE_BYTES * page_number entry
table_of None = 0

-- whether an entry is in the RAM and a valid pointer
abbrev pub is_some_pointer : Level → Option ℕ → Bool
is_some_pointer level (Some entry) = is_pointer level entry
is_some_pointer level None = false

-- whether an entry is in the RAM and has G
abbrev pub is_some_global : Option ℕ → Bool
is_some_global (Some entry) = has_g entry
is_some_global None = false

-- The table that a walk through these levels reaches, from a table on: each entry points to the next table (Privileged
-- 4.3.2).
abbrev pub table_below : (ℕ → Option ℕ) → (va table : ℕ) → List Level → ℕ
table_below memory va table [] = table
table_below memory va table (level ∷ levels) =
    table_below memory va (table_of (entry_in memory va table level)) levels

-- From a table on, the walk's entries at all these levels are valid pointers.
abbrev pub are_pointers : (ℕ → Option ℕ) → (va table : ℕ) → List Level → Bool
are_pointers memory va table [] = true
are_pointers memory va table (level ∷ levels) =
    is_some_pointer level (entry_in memory va table level)
    && are_pointers memory va (table_of (entry_in memory va table level)) levels

-- From a table on, the walk's entry at some of these levels has G.
abbrev pub is_any_global : (ℕ → Option ℕ) → (va table : ℕ) → List Level → Bool
is_any_global memory va table [] = false
is_any_global memory va table (level ∷ levels) =
    is_some_global (entry_in memory va table level)
    || is_any_global memory va (table_of (entry_in memory va table level)) levels

-- The result at the entry that ends the walk (Privileged 4.3.2). An entry outside the RAM is an access fault. A valid
-- leaf that allows the access is the result. Anything else is a page fault.
abbrev pub outcome : Option ℕ → (va : ℕ) → Kind → Level → (global : Bool) → Result Leaf Cause
outcome None va kind level global = Err (access_fault kind)
outcome (Some entry) va kind level global =
    if is_leaf level entry then by_right kind (leaf_of entry va level global) else Err (page_fault kind)

-- A walk from the root table through the levels, the highest first, ends at the first level without a valid pointer.
-- The entry there gives the result (Privileged 4.3.2).
pub record MapsBy
    (memory : ℕ → Option ℕ) (root va : ℕ) (kind : Kind) (levels : List Level) (result : Result Leaf Cause)
    : Type 0 where
  pub above : List Level
  pub level : Level
  pub under : List Level
  pub levels_are : levels ≡ above ++ level ∷ under
  pub pointers : are_pointers memory va root above ≡ true
  pub ends : is_some_pointer level (entry_in memory va (table_below memory va root above) level) ≡ false
  pub gives : result
      ≡ outcome (entry_in memory va (table_below memory va root above) level) va kind level
      (is_any_global memory va root above)

-- The rule, as a relation. The page tables give the result for a valid address; any other address is a page fault
-- (Privileged 4.3.2, 4.4.1, 4.5.1).
unfoldable pub Maps : (ℕ → Option ℕ) → (satp va : ℕ) → Kind → Result Leaf Cause → Type 0
Maps memory satp va kind result =
    MatchBool (is_valid satp va)
    (MapsBy memory (root_address satp) va kind (levels_from (scheme (paging_of satp)).root) result)
    (result ≡ Err (page_fault kind))

-- The result of a walk from a table on, through these levels: it descends at a valid pointer, and ends at any other
-- entry. No pointer at the lowest level is valid.
abbrev pub found_from : (ℕ → Option ℕ) → (va : ℕ) → Kind → (table : ℕ) → (global : Bool) → List Level
    → Result Leaf Cause
found_from memory va kind table global [] = Err (page_fault kind)
found_from memory va kind table global (level ∷ under) =
    if is_some_pointer level (entry_in memory va table level)
    then found_from memory va kind (table_of (entry_in memory va table level))
    (global || is_some_global (entry_in memory va table level)) under
    else outcome (entry_in memory va table level) va kind level global

-- The rule, as a function.
unfoldable pub maps : (ℕ → Option ℕ) → (satp va : ℕ) → Kind → Result Leaf Cause
maps memory satp va kind =
    if is_valid satp va
    then found_from memory va kind (root_address satp) false (levels_from (scheme (paging_of satp)).root)
    else Err (page_fault kind)
