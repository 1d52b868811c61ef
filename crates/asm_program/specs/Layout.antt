-- Where each part of a program stands, and its symbols.
use Rattle.std.specs.Prelude.{ℕ, Bool, not, ◌&&◌, if◌then◌else◌, List, [], ◌∷◌, ◌++◌, codes, is_some, Option, Some, None, Result, Ok, Err}
use Rattle.std.specs.Int.{is_in_range}
use Rattle.std.specs.List.{list_all}
use Rattle.asm_expressions.specs.declared.faults.Fault.{Fault}
use Rattle.asm_expressions.specs.declared.faults.Wrong.TheVariants.{BadOperands, DefinedTwice, UnknownSection}
use Rattle.asm_expressions.specs.Symbols.{Context, Named, symbol_named}
use Rattle.asm_expressions.specs.Values.{value_of, wrong_at}
use Rattle.asm_instructions.specs.Operands.{behind_comma, operand_front}
use Rattle.asm_instructions.specs.Steps.{◌>>=◌}
use Rattle.asm_tokens.specs.Numbers.{begins_with}
use Rattle.asm_tokens.specs.declared.marks.Mark.TheVariants.{Comma}
use Rattle.asm_tokens.specs.Readings.{TokenSpot}
use Rattle.asm_tokens.specs.Tokens.{Lexeme}
use Rattle.asm_tokens.specs.Tokens.Lexeme.{Mark, Word}
use Rattle.asm_program.specs.declared.directives.Directive.TheVariants.{Common, Enter, Equ, Map, Named as NamedSection, Org, Passed}
use Rattle.asm_program.specs.declared.sections.Counters.{Counters}
use Rattle.asm_program.specs.declared.sections.Section.{Section}
use Rattle.asm_program.specs.declared.sections.Section.TheVariants.{Absolute, Bss}
use Rattle.asm_program.specs.declared.tables.Entry.{Entry}
use Rattle.asm_program.specs.declared.tables.Mapping.{Mapping}
use Rattle.asm_program.specs.Forms.{PartForm, part_form}
use Rattle.asm_program.specs.Forms.PartForm.{Nothing, Labels, Directs, Instructs}
use Rattle.asm_program.specs.Maps.{MapEnding, map_said}
use Rattle.asm_program.specs.Moves.{behind_directive, behind_instruction, behind_org, moved_by, aligned_to}
use Rattle.asm_program.specs.Parts.{Piece}
use Rattle.asm_program.specs.Sections.{counter_of, section_of, with_counter}
use Rattle.asm_program.specs.Tables.{MapWalk, mapped, mapping_in, said_or}
use Rattle.sv39.specs.declared.paging.Paging.{Paging}

-- ---- what a part changes

-- nothing; where its section goes on; which section goes on; where `.org` goes on; a symbol; a symbol and where `.bss` goes on; or
-- page tables, and a symbol for the last entry
pub data PartChange : Type 0 where
  Stays : PartChange
  Moves : ℕ → PartChange
  Enters : Section → PartChange
  Goes : ℕ → PartChange
  Defines : Named → PartChange
  Reserves : Named → ℕ → PartChange
  Maps : Mapping → Option Named → PartChange

-- a local label's name is digits, and it can be defined again
abbrev pub is_digits : List ℕ → Bool
is_digits name = list_all (is_in_range 48 57) name

-- a symbol that no part above defines
abbrev pub symbol_of : Context → (name : List ℕ) → (left value : ℕ) → Result Named Fault
symbol_of scope name left value =
    if not (is_digits name) && is_some (symbol_named name scope.symbols) then wrong_at DefinedTwice left
    else Ok (record { name = name; value = value; statement = scope.statement })

abbrev pub defined : Context → (name : List ℕ) → (left value : ℕ) → Result PartChange Fault
defined scope name left value = do
  symbol ← symbol_of scope name left value
  Ok (Defines symbol)

abbrev pub equal_by : Context → (left : ℕ) → Lexeme → Lexeme → (at : ℕ) → List TokenSpot → Result PartChange Fault
equal_by scope left (Word name) (Mark Comma) at value = do
  n ← value_of scope value
  defined scope name at n
equal_by scope left first second at value = wrong_at BadOperands left

-- `.equ NAME, VALUE`
abbrev pub equal_to : Context → (left : ℕ) → List TokenSpot → Result PartChange Fault
equal_to scope left (first ∷ second ∷ value) = equal_by scope left first.lexeme second.lexeme first.left value
equal_to scope left operands = wrong_at BadOperands left

-- ---- sections

-- `.section` of such a name says nothing here
abbrev pub is_note : (word : List ℕ) → Bool
is_note word = begins_with (codes ".note.") word

abbrev pub entering : (left : ℕ) → Option Section → Result PartChange Fault
entering left None = wrong_at UnknownSection left
entering left (Some section) = Ok (Enters section)

abbrev pub section_by : (left : ℕ) → Lexeme → Result PartChange Fault
section_by left (Word word) = if is_note word then Ok Stays else entering left (section_of word)
section_by left lexeme = wrong_at BadOperands left

-- `.section NAME`, and what linkers ask for
abbrev pub section_named : (left : ℕ) → List TokenSpot → Result PartChange Fault
section_named left [] = wrong_at BadOperands left
section_named left (first ∷ operands) = section_by first.left first.lexeme

-- the alignment behind a size: 8 bytes if none is given (profile)
abbrev pub alignment_by : Context → Option (List TokenSpot) → Result ℕ Fault
alignment_by scope None = Ok 8
alignment_by scope (Some behind) = value_of scope behind

abbrev pub alignment_of : Context → List TokenSpot → Result ℕ Fault
alignment_of scope sizes = alignment_by scope (behind_comma sizes)

-- a symbol with so many bytes in `.bss`
abbrev pub reserved_name : Context → (bss : ℕ) → (name : List ℕ) → (left : ℕ) → List TokenSpot → Result PartChange Fault
reserved_name scope bss name left sizes = do
  size ← value_of scope (operand_front sizes)
  alignment ← alignment_of scope sizes
  at ← aligned_to bss alignment left
  next ← moved_by at 1 size left
  symbol ← symbol_of scope name left at
  Ok (Reserves symbol next)

abbrev pub reserved_by : Context → (bss left : ℕ) → Lexeme → Lexeme → (at : ℕ) → List TokenSpot → Result PartChange Fault
reserved_by scope bss left (Word name) (Mark Comma) at sizes = reserved_name scope bss name at sizes
reserved_by scope bss left first second at sizes = wrong_at BadOperands left

-- `.comm NAME, SIZE, ALIGNMENT`
abbrev pub reserved : Context → (bss left : ℕ) → List TokenSpot → Result PartChange Fault
reserved scope bss left (first ∷ second ∷ sizes) =
    reserved_by scope bss left first.lexeme second.lexeme first.left sizes
reserved scope bss left operands = wrong_at BadOperands left

-- ---- page tables

-- the name of a map's last entry, whose address isn't known yet
abbrev pub entry_name : Context → MapEnding → Option (List ℕ) → Result (Option Named) Fault
entry_name scope end None = Ok None
entry_name scope end (Some name) = do
  symbol ← symbol_of scope name end.left 0
  Ok (Some symbol)

-- `.map ROOT, PAGE, TO, FLAGS, NAME`
abbrev pub mapping : Context → Paging → (left : ℕ) → List TokenSpot → Result PartChange Fault
mapping scope paging left operands = do
  said ← said_or left (map_said operands)
  map ← mapping_in scope paging said
  symbol ← entry_name scope said.end said.end.name
  Ok (Maps map symbol)

-- ---- all parts

abbrev pub moving : Result ℕ Fault → Result PartChange Fault
moving next = do
  to ← next
  Ok (Moves to)

abbrev pub going : Result ℕ Fault → Result PartChange Fault
going next = do
  to ← next
  Ok (Goes to)

-- A label defines its name as the address where it stands, and `.equ` its name as its value. `.org` goes on at its address, and
-- `.text` and the like where their section does. Any other directive, and an instruction, moves on to the address behind it.
abbrev pub part_changes_by : Context → Counters → PartForm → (left : ℕ) → Result PartChange Fault
part_changes_by scope counters Nothing left = Ok Stays
part_changes_by scope counters (Labels name) left = defined scope name left scope.here
part_changes_by scope counters (Directs Equ operands) left = equal_to scope left operands
part_changes_by scope counters (Directs Org operands) left = going (behind_org scope counters.absolute left operands)
part_changes_by scope counters (Directs (Enter section) operands) left = Ok (Enters section)
part_changes_by scope counters (Directs NamedSection operands) left = section_named left operands
part_changes_by scope counters (Directs Common operands) left = reserved scope counters.bss left operands
part_changes_by scope counters (Directs (Map paging) operands) left = mapping scope paging left operands
part_changes_by scope counters (Directs Passed operands) left = Ok Stays
part_changes_by scope counters (Directs directive operands) left = moving (behind_directive scope directive left operands)
part_changes_by scope counters (Instructs form operands) left = moving (behind_instruction scope form left operands)

abbrev pub change_by : Context → Counters → Result (PartForm × ℕ) Fault → Result PartChange Fault
change_by scope counters (Err fault) = Err fault
change_by scope counters (Ok said) = part_changes_by scope counters said.0 said.1

-- What a part changes.
abbrev pub change_in : Context → Counters → Piece → Result PartChange Fault
change_in scope counters part = change_by scope counters (part_form part)

-- ---- where parts stand

-- how far parts reach: the section that goes on, where each goes on, the symbols that the parts define, the addresses that `.org`
-- left, and the entries of page tables
pub record PartsReach : Type 0 where
  pub section : Section
  pub counters : Counters
  pub symbols : List Named
  pub left : List ℕ
  pub entries : List Entry

abbrev pub next_address : PartsReach → ℕ
next_address from = counter_of from.counters from.section

-- before the first part, where sections begin here
abbrev pub before_parts : Counters → PartsReach
before_parts bases = record { section = Absolute; counters = bases; symbols = []; left = []; entries = [] }

-- what is known at a part, by what stands above it
abbrev pub seen_above : (number : ℕ) → PartsReach → Piece → Context
seen_above number from part =
    record { symbols = from.symbols; highs = []; statement = number; here = next_address from; end = part.end }

abbrev pub with_entry_name : List Named → (at : ℕ) → Option Named → List Named
with_entry_name symbols at None = symbols
with_entry_name symbols at (Some symbol) = symbols ++ record symbol { value = at } ∷ []

abbrev pub reached_by_map : PartsReach → MapWalk → Option Named → PartsReach
reached_by_map from walk symbol = record from {
  counters = record from.counters { tables = walk.next };
  symbols = with_entry_name from.symbols walk.at symbol;
  entries = walk.entries;
}

abbrev pub reached_with : PartsReach → PartChange → PartsReach
reached_with from Stays = from
reached_with from (Moves next) = record from { counters = with_counter from.counters from.section next }
reached_with from (Enters section) = record from { section = section }
reached_with from (Goes to) = record from {
  section = Absolute;
  counters = with_counter from.counters Absolute to;
  left = from.left ++ from.counters.absolute ∷ [];
}
reached_with from (Defines symbol) = record from { symbols = from.symbols ++ symbol ∷ [] }
reached_with from (Reserves symbol next) =
    record from { counters = with_counter from.counters Bss next; symbols = from.symbols ++ symbol ∷ [] }
reached_with from (Maps map symbol) = reached_by_map from (mapped map from.counters.tables from.entries) symbol

abbrev pub reached_by : PartsReach → Result PartChange Fault → Result PartsReach Fault
reached_by from (Err fault) = Err fault
reached_by from (Ok change) = Ok (reached_with from change)

-- How far parts reach with one part more; `number` is its number.
unfoldable pub reach_more : (number : ℕ) → PartsReach → Piece → Result PartsReach Fault
reach_more number from part = reached_by from (change_in (seen_above number from part) from.counters part)

-- where each section goes on
abbrev pub counters_in : Counters → List ℕ
counters_in counters =
    counters.absolute ∷ counters.text ∷ counters.rodata ∷ counters.variables ∷ counters.bss ∷ []

-- Where sections end: the addresses that `.org` left, and those where each section goes on at last.
abbrev pub ends_of : PartsReach → List ℕ
ends_of to = to.left ++ counters_in to.counters

-- a part where it stands: its number among the parts, and its address
pub record Standing : Type 0 where
  pub part : Piece
  pub number : ℕ
  pub at : ℕ

abbrev pub standing : (number : ℕ) → PartsReach → Piece → Standing
standing number from part = record { part = part; number = number; at = next_address from }
