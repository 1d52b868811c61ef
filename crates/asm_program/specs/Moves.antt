-- How far directives and instructions reach (GNU as, .org, .align, .balign, .space; RISC-V-Directives).
use Rattle.std.specs.Prelude.{ℕ, ◌+◌, ◌-◌, ◌*◌, ◌%◌, ◌^◌, nat_le, nat_lt, ◌||◌, ◌==◌, if◌then◌else◌, List, [], ◌∷◌, Result, Ok}
use Rattle.asm_expressions.specs.declared.faults.Fault.{Fault}
use Rattle.asm_expressions.specs.declared.faults.Wrong.TheVariants.{Backwards, OutOfRange}
use Rattle.asm_expressions.specs.Symbols.{Context}
use Rattle.asm_expressions.specs.Values.{value_of, wrong_at}
use Rattle.asm_instructions.specs.Sizes.{count_of}
use Rattle.asm_instructions.specs.Steps.{◌>>=◌}
use Rattle.asm_mnemonics.specs.declared.forms.OperandForm.{OperandForm}
use Rattle.asm_tokens.specs.Readings.{TokenSpot}
use Rattle.asm_tokens.specs.Statements.{is_comma}
use Rattle.asm_program.specs.declared.directives.Directive.{Directive}
use Rattle.asm_program.specs.declared.directives.Directive.TheVariants.{Ascii, Data, Space, Align, Balign}
use Rattle.asm_program.specs.Strings.{string_size}

-- the address behind so many pieces of a size, within the address space
abbrev pub moved_by : (here size count left : ℕ) → Result ℕ Fault
moved_by here size count left =
    if nat_lt (here + size * count) (2 ^ 64) then Ok (here + size * count) else wrong_at Backwards left

-- the next multiple; of 0 the address itself
abbrev pub aligned_to : (here size left : ℕ) → Result ℕ Fault
aligned_to here size left =
    if (size == 0) || (here % size == 0) then Ok here else moved_by here 1 (size - here % size) left

abbrev pub commas : List TokenSpot → ℕ
commas [] = 0
commas (placed ∷ tokens) = (if is_comma placed.lexeme then 1 else 0) + commas tokens

-- how many numbers there are: one more than commas, or none
abbrev pub how_many_numbers : List TokenSpot → ℕ
how_many_numbers [] = 0
how_many_numbers (placed ∷ tokens) = commas (placed ∷ tokens) + 1

-- an address that isn't lower than that behind the `.org` before
abbrev pub not_before : (before left to : ℕ) → Result ℕ Fault
not_before before left to = if nat_lt to before then wrong_at Backwards left else Ok to

abbrev pub behind_org : Context → (before left : ℕ) → List TokenSpot → Result ℕ Fault
behind_org scope before left operands = do
  to ← value_of scope operands
  not_before before left to

-- the next multiple of a power of 2
abbrev pub up_to_power : (here left bits : ℕ) → Result ℕ Fault
up_to_power here left bits = if nat_le 64 bits then wrong_at OutOfRange left else aligned_to here (2 ^ bits) left

-- The address behind a directive that moves on.
abbrev pub behind_directive : Context → Directive → (left : ℕ) → List TokenSpot → Result ℕ Fault
behind_directive scope (Data size) left operands = moved_by scope.here size (how_many_numbers operands) left
behind_directive scope (Ascii is_ended) left operands = do
  size ← string_size is_ended left operands
  moved_by scope.here 1 size left
behind_directive scope Space left operands = do
  size ← value_of scope operands
  moved_by scope.here 1 size left
behind_directive scope Align left operands = do
  bits ← value_of scope operands
  up_to_power scope.here left bits
behind_directive scope Balign left operands = do
  size ← value_of scope operands
  aligned_to scope.here size left
behind_directive scope directive left operands = Ok scope.here

-- The address behind an instruction, which takes 4 bytes for each that the assembler writes.
abbrev pub behind_instruction : Context → OperandForm → (left : ℕ) → List TokenSpot → Result ℕ Fault
behind_instruction scope form left operands = do
  count ← count_of scope form operands
  moved_by scope.here 4 count left
