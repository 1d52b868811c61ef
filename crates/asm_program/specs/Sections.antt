-- Sections of a program, and where they go on (GNU as, Sections; where each stands: profile).
use Rattle.std.specs.Prelude.{ℕ, ◌+◌, ◌-◌, ◌*◌, ◌/◌, ◌%◌, ◌^◌, nat_lt, Bool, true, ◌&&◌, ◌==◌, if◌then◌else◌, List, [], ◌∷◌, drop, length, map, Option, Some, None, option_and_then}
use Rattle.asm_tokens.specs.Numbers.{begins_with}
use Rattle.asm_program.specs.declared.sections.Counters.{Counters}
use Rattle.asm_program.specs.declared.sections.Section.{Section}
use Rattle.asm_program.specs.declared.sections.TheConstants.{SECTIONS}
use Rattle.asm_program.specs.declared.sections.Section.TheVariants.{Absolute, Text, Rodata, Data, Bss}

-- ---- their names

-- whether nothing is left of a word, or a dot and more
abbrev pub is_dotted_rest : (rest : List ℕ) → Bool
is_dotted_rest [] = true
is_dotted_rest (b ∷ rest) = b == 46

-- whether a word is this name, or goes on behind it with a dot: `.text.startup` belongs to `.text`
abbrev pub belongs_to : (name word : List ℕ) → Bool
belongs_to name word = begins_with name word && is_dotted_rest (drop (length name) word)

-- the section in the first row to whose name a word belongs
abbrev pub section_in : (word : List ℕ) → List (List ℕ × Section) → Option Section
section_in word [] = None
section_in word (row ∷ rows) = if belongs_to row.0 word then Some row.1 else section_in word rows

-- that of the table
unfoldable pub section_of : (word : List ℕ) → Option Section
section_of word = section_in word (map (λ row. (row.0.now, row.1)) SECTIONS)

-- ---- where they go on

abbrev pub counter_of : Counters → Section → ℕ
counter_of counters Absolute = counters.absolute
counter_of counters Text = counters.text
counter_of counters Rodata = counters.rodata
counter_of counters Data = counters.variables
counter_of counters Bss = counters.bss

abbrev pub with_counter : Counters → Section → (next : ℕ) → Counters
with_counter counters Absolute next = record counters { absolute = next }
with_counter counters Text next = record counters { text = next }
with_counter counters Rodata next = record counters { rodata = next }
with_counter counters Data next = record counters { variables = next }
with_counter counters Bss next = record counters { bss = next }

-- each section at 0
abbrev pub zeros : Counters
zeros = record { absolute = 0; text = 0; rodata = 0; variables = 0; bss = 0; tables = 0 }

-- ---- where they begin

-- the first page behind so many bytes, within the address space
abbrev pub page_behind : (at size : ℕ) → Option ℕ
page_behind at size =
    if nat_lt (at + size + 4095) (2 ^ 64) then Some ((at + size + 4095) / 4096 * 4096) else None

infixl 10 ◌>>=◌
abbrev pub ◌>>=◌ : {A B : Type 0} → Option A → (A → Option B) → Option B
o >>= f = option_and_then f o

-- the first page behind so many bytes, around the address space
abbrev pub page_around : (at size : ℕ) → ℕ
page_around at size = ((at + size) % 2 ^ 64 + 4095) % 2 ^ 64 / 4096 * 4096

-- Where sections of these sizes begin: each on the first page behind the one before it, in this order; and where page tables begin,
-- behind all others.
abbrev pub bases_of : (sizes : Counters) → Option Counters
bases_of sizes = do
  text ← page_behind sizes.absolute 0
  rodata ← page_behind text sizes.text
  variables ← page_behind rodata sizes.rodata
  bss ← page_behind variables sizes.variables
  Some (record {
    absolute = 0;
    text = text;
    rodata = rodata;
    variables = variables;
    bss = bss;
    tables = page_around bss sizes.bss;
  })

abbrev pub length_of : (from to : ℕ) → ℕ
length_of from to = (to + (2 ^ 64 - from)) % 2 ^ 64

-- whether sections that begin at these bases and end here have these sizes
abbrev pub are_settled : (bases sizes ends : Counters) → Bool
are_settled bases sizes ends =
    (ends.absolute == sizes.absolute)
    && (length_of bases.text ends.text == sizes.text)
    && (length_of bases.rodata ends.rodata == sizes.rodata)
    && (length_of bases.variables ends.variables == sizes.variables)
    && (length_of bases.bss ends.bss == sizes.bss)
