-- The page tables that `.map`s write (Privileged 20211203, 4.3.1, 4.4.1, 4.5.1; that tables are made: profile).
use Rattle.std.specs.Prelude.{ℕ, ◌+◌, ◌*◌, ◌/◌, ◌%◌, ◌^◌, nat_lt, Bool, true, false, not, ◌&&◌, ◌==◌, if◌then◌else◌, List, [], ◌∷◌, ◌++◌, Option, Some, None, Result, Ok}
use Rattle.std.specs.List.{list_any}
use Rattle.sv39.specs.declared.page.Level.{Level}
use Rattle.sv39.specs.declared.page.Level.TheVariants.{Kilo}
use Rattle.sv39.specs.declared.paging.Paging.{Paging}
use Rattle.sv39.specs.Pages.{level_number, levels_from, page_of, part}
use Rattle.sv39.specs.Paging.{is_valid_by, scheme}
use Rattle.asm_expressions.specs.declared.faults.Fault.{Fault}
use Rattle.asm_expressions.specs.declared.faults.Wrong.TheVariants.{BadFlags, BadOperands, MappedTwice, OutOfRange}
use Rattle.asm_expressions.specs.Symbols.{Context}
use Rattle.asm_expressions.specs.Values.{value_of, wrong_at}
use Rattle.asm_instructions.specs.Steps.{◌>>=◌}
use Rattle.asm_tokens.specs.Readings.{TokenSpot}
use Rattle.asm_program.specs.declared.data.Datum.{Datum}
use Rattle.asm_program.specs.declared.tables.Entry.{Entry}
use Rattle.asm_program.specs.declared.tables.Mapping.{Mapping}
use Rattle.asm_program.specs.Data.{datum_at}
use Rattle.asm_program.specs.Maps.{MapSaid, leaf_bits, map_said}

-- ---- entries: each leads to the table of the next level, and the last one to the page

-- whether an entry is that of this level for a map's page, under its root
abbrev pub is_entry_for : Mapping → Level → Entry → Bool
is_entry_for map level entry =
    ((scheme entry.map.paging).width == (scheme map.paging).width) && (entry.map.root == map.root)
    && (level_number entry.level == level_number level) && (page_of level entry.map.page == page_of level map.page)

-- the first of them
abbrev pub entry_for : Mapping → Level → List Entry → Option Entry
entry_for map level [] = None
entry_for map level (entry ∷ entries) = if is_entry_for map level entry then Some entry else entry_for map level entries

-- how far a map has come: the entries so far, where the next table stands, the table that it has reached, and its last entry
pub record MapWalk : Type 0 where
  pub entries : List Entry
  pub next : ℕ
  pub table : ℕ
  pub at : ℕ

-- a page for the table that an entry leads to; the last one leads to none
abbrev pub table_bytes : Level → ℕ
table_bytes Kilo = 0
table_bytes level = 4096

abbrev pub entry_address : (table : ℕ) → Level → (page : ℕ) → ℕ
entry_address table level page = (table + 8 * part level page) % 2 ^ 64

-- an entry that no map above has is made, with a table behind all others
abbrev pub walked_by : Mapping → Level → MapWalk → Option Entry → MapWalk
walked_by map level walk (Some entry) = record walk { table = entry.table; at = entry.at }
walked_by map level walk None = record {
  entries = walk.entries ++ record { map = map; level = level; at = entry_address walk.table level map.page; table = walk.next } ∷ [];
  next = (walk.next + table_bytes level) % 2 ^ 64;
  table = walk.next;
  at = entry_address walk.table level map.page;
}

abbrev pub walked : Mapping → MapWalk → List Level → MapWalk
walked map walk [] = walk
walked map walk (level ∷ levels) = walked map (walked_by map level walk (entry_for map level walk.entries)) levels

-- A map, from its root table down to its last entry.
abbrev pub mapped : Mapping → (next : ℕ) → List Entry → MapWalk
mapped map next entries =
    walked map (record { entries = entries; next = next; table = map.root; at = map.root }) (levels_from (scheme map.paging).root)

-- ---- words

-- the number of a physical page, and the low bits (Privileged 4.3.1)
abbrev pub entry_word : (address bits : ℕ) → ℕ
entry_word address bits = address / 4096 * 1024 + bits

-- a pointer to the next table, or the leaf
abbrev pub written_word : Level → (table leaf : ℕ) → ℕ
written_word Kilo table leaf = leaf
written_word level table leaf = entry_word table 1

-- the words of the entries that a part made
abbrev pub written_words : (statement leaf : ℕ) → List Entry → List Datum
written_words statement leaf [] = []
written_words statement leaf (entry ∷ entries) =
    if entry.map.statement == statement
    then datum_at entry.at 8 (written_word entry.level entry.table leaf) ∷ written_words statement leaf entries
    else written_words statement leaf entries

abbrev pub is_page : ℕ → Bool
is_page address = (address % 4096 == 0) && nat_lt address (2 ^ 56)

-- whether the root table and the memory are physical pages, and the page is one of this mode
abbrev pub is_fit : Mapping → (to : ℕ) → Bool
is_fit map to = is_page map.root && is_page to && (map.page % 4096 == 0) && is_valid_by map.paging map.page

abbrev pub is_kilo : Level → Bool
is_kilo Kilo = true
is_kilo level = false

-- whether a part made an entry that leads to a page
abbrev pub is_leaf_by : (statement : ℕ) → Entry → Bool
is_leaf_by statement entry = (entry.map.statement == statement) && is_kilo entry.level

-- whether an entry belongs to a map above, of another mode under the same root
abbrev pub is_of_another_mode : Mapping → Entry → Bool
is_of_another_mode map entry =
    nat_lt entry.map.statement map.statement && (entry.map.root == map.root)
    && not ((scheme entry.map.paging).width == (scheme map.paging).width)

-- whether no map above has the page, or its root by another mode
abbrev pub is_alone : Mapping → List Entry → Bool
is_alone map entries =
    list_any (is_leaf_by map.statement) entries && not (list_any (is_of_another_mode map) entries)

abbrev pub leaf_by : List Entry → (left : ℕ) → Mapping → (to bits : ℕ) → Result ℕ Fault
leaf_by entries left map to bits =
    if not (is_fit map to) then wrong_at OutOfRange left
    else (if is_alone map entries then Ok (entry_word to bits)
    else wrong_at MappedTwice left)

abbrev pub said_or : (left : ℕ) → Option MapSaid → Result MapSaid Fault
said_or left None = wrong_at BadOperands left
said_or left (Some said) = Ok said

abbrev pub flags_or : (left : ℕ) → Option ℕ → Result ℕ Fault
flags_or left None = wrong_at BadFlags left
flags_or left (Some bits) = Ok bits

-- the root table and the page of a map
abbrev pub mapping_in : Context → Paging → MapSaid → Result Mapping Fault
mapping_in scope paging said = do
  root ← value_of scope said.root
  page ← value_of scope said.page
  Ok (record { paging = paging; root = root; page = page; statement = scope.statement })

-- the leaf that a map says
abbrev pub said_leaf : List Entry → Context → Paging → (left : ℕ) → MapSaid → Result ℕ Fault
said_leaf entries scope paging left said = do
  map ← mapping_in scope paging said
  to ← value_of scope said.to
  bits ← flags_or left (leaf_bits said.end.flags)
  leaf_by entries left map to bits

-- The words that a map writes: those of its entries that no map above has.
unfoldable pub map_words : List Entry → Context → Paging → (left : ℕ) → List TokenSpot → Result (List Datum) Fault
map_words entries scope paging left operands = do
  said ← said_or left (map_said operands)
  leaf ← said_leaf entries scope paging left said
  Ok (written_words scope.statement leaf entries)
