-- How many instructions the assembler writes for one of the text, without relaxation and compression.
use Rattle.std.specs.Prelude.{ℕ, List, Option, Some, None, Result, Ok}
use Rattle.asm_expressions.specs.declared.faults.Fault.{Fault}
use Rattle.asm_expressions.specs.declared.faults.Wrong.TheVariants.{NoValue}
use Rattle.asm_expressions.specs.Symbols.{Context}
use Rattle.asm_expressions.specs.Values.{value_of, wrong_at}
use Rattle.asm_mnemonics.specs.declared.forms.OperandForm.{OperandForm}
use Rattle.asm_mnemonics.specs.declared.forms.OperandForm.TheVariants.{Call, Extended, Load, LoadAddress, LoadImmediate, StoreDouble, StoreNarrow, Tail}
use Rattle.asm_tokens.specs.Readings.{TokenSpot}
use Rattle.asm_instructions.specs.Operands.{base_in, behind_comma}
use Rattle.asm_instructions.specs.Ranges.{li_count}
use Rattle.asm_instructions.specs.Steps.{◌>>=◌}

abbrev pub li_size_by : Context → (second : Option (List TokenSpot)) → Result ℕ Fault
li_size_by scope None = wrong_at NoValue scope.end
li_size_by scope (Some second) = do
  value ← value_of scope second
  Ok (li_count value)

-- `li` takes as many as its value, the second operand, needs
abbrev pub li_size : Context → List TokenSpot → Result ℕ Fault
li_size scope tokens = li_size_by scope (behind_comma tokens)

abbrev pub by_base : Option (List TokenSpot × ℕ) → ℕ
by_base None = 2
by_base (Some base) = 1

-- an access at an offset from a register takes one, and one at a symbol two
abbrev pub near_or_far : List TokenSpot → ℕ
near_or_far tokens = by_base (base_in tokens)

-- How many instructions a form and its operands take.
abbrev pub count_of : Context → OperandForm → List TokenSpot → Result ℕ Fault
count_of scope LoadImmediate tokens = li_size scope tokens
count_of scope LoadAddress tokens = Ok 2
count_of scope Call tokens = Ok 2
count_of scope Tail tokens = Ok 2
count_of scope (Extended op bits) tokens = Ok 2
count_of scope (Load kind) tokens = Ok (near_or_far tokens)
count_of scope StoreDouble tokens = Ok (near_or_far tokens)
count_of scope (StoreNarrow name) tokens = Ok (near_or_far tokens)
count_of scope form tokens = Ok 1
