-- How far the symbols of AUIPCs are (RISC-V psABI, PC-Relative Symbol Addresses).
use Rattle.std.specs.Prelude.{ℕ, List, codes, Option, None, option_and_then, Result, Ok, Err}
use Rattle.asm_expressions.specs.declared.faults.Fault.{Fault}
use Rattle.asm_expressions.specs.Symbols.{Context}
use Rattle.asm_expressions.specs.Values.{value_of}
use Rattle.asm_mnemonics.specs.declared.forms.OperandForm.{OperandForm}
use Rattle.asm_mnemonics.specs.declared.forms.OperandForm.TheVariants.{Auipc}
use Rattle.asm_tokens.specs.Readings.{TokenSpot}
use Rattle.asm_instructions.specs.Operands.{behind_comma}
use Rattle.asm_instructions.specs.Pcrel.{behind_name, near_distance}

abbrev pub distance_if : (here : ℕ) → Result ℕ Fault → Option ℕ
distance_if here (Err fault) = None
distance_if here (Ok to) = near_distance here to

abbrev pub symbol_distance : Context → List TokenSpot → Option ℕ
symbol_distance scope symbol = distance_if scope.here (value_of scope symbol)

-- the distance of the symbol of `%pcrel_hi(..)`, the second operand
abbrev pub second_distance : Context → List TokenSpot → Option ℕ
second_distance scope operands =
    option_and_then (symbol_distance scope) (option_and_then (behind_name (codes "pcrel_hi")) (behind_comma operands))

-- How far the symbol of an AUIPC with `%pcrel_hi(..)` is from it. No other instruction has such a distance.
abbrev pub high_distance : Context → OperandForm → List TokenSpot → Option ℕ
high_distance scope Auipc operands = second_distance scope operands
high_distance scope form operands = None
