-- What the operands of a form can be beside registers, expressions, and offsets with their bases.
use Rattle.std.specs.Prelude.{ℕ, ◌-◌, Bool, false, if◌then◌else◌, List, [], ◌∷◌, codes, drop, length, take, Result}
use Rattle.std.specs.Str.{bytes_eq}
use Rattle.asm_expressions.specs.declared.faults.Fault.{Fault}
use Rattle.asm_expressions.specs.Symbols.{Context}
use Rattle.asm_expressions.specs.Values.{value_of}
use Rattle.asm_mnemonics.specs.declared.forms.OperandForm.{OperandForm}
use Rattle.asm_mnemonics.specs.declared.forms.OperandForm.TheVariants.{Auipc, Call, Csr, CsrImmediate, Fetch, Goto, Immediate, Jal, Jalr, JumpRegister, Load, ReadCsr, StoreDouble, StoreNarrow, Tail, WriteCsr, WriteCsrImmediate}
use Rattle.asm_tokens.specs.declared.marks.Mark.TheVariants.{At}
use Rattle.asm_tokens.specs.Readings.{TokenSpot}
use Rattle.asm_tokens.specs.Tokens.{Lexeme}
use Rattle.asm_tokens.specs.Tokens.Lexeme.{Mark, Word}
use Rattle.asm_instructions.specs.declared.taken.Takes.{Takes}
use Rattle.asm_instructions.specs.declared.taken.Takes.TheVariants.{Csrs, HighParts, LowOffsets, LowParts, Plt, Values}
use Rattle.asm_instructions.specs.Pcrel.{high_value, low_value}

-- CSRs by the CSR instructions, `symbol@plt` by calls and jumps, `%pcrel_hi(..)` by AUIPC, and `%pcrel_lo(..)` where 12 bits are
-- added to a register
abbrev pub takes_of : OperandForm → Takes
takes_of (Csr how) = Csrs
takes_of (CsrImmediate how) = Csrs
takes_of ReadCsr = Csrs
takes_of (WriteCsr how) = Csrs
takes_of (WriteCsrImmediate how) = Csrs
takes_of Jal = Plt
takes_of Goto = Plt
takes_of Call = Plt
takes_of Tail = Plt
takes_of Auipc = HighParts
takes_of (Immediate op) = LowParts
takes_of Jalr = LowParts
takes_of JumpRegister = LowOffsets
takes_of (Load kind) = LowOffsets
takes_of StoreDouble = LowOffsets
takes_of (StoreNarrow name) = LowOffsets
takes_of Fetch = LowOffsets
takes_of form = Values

-- ---- `symbol@plt`: the symbol itself, since nothing is linked dynamically (RISC-V psABI, Procedure Calls; GNU as; behind `jal` and
-- `j`: profile)

abbrev pub is_plt_of : Lexeme → Lexeme → Bool
is_plt_of (Mark At) (Word word) = bytes_eq word (codes "plt")
is_plt_of first second = false

-- whether tokens are `@plt`
abbrev pub is_plt : List TokenSpot → Bool
is_plt (first ∷ second ∷ []) = is_plt_of first.lexeme second.lexeme
is_plt tokens = false

-- the tokens without `@plt` at their end
abbrev pub without_plt : List TokenSpot → List TokenSpot
without_plt tokens = if is_plt (drop (length tokens - 2) tokens) then take (length tokens - 2) tokens else tokens

-- ---- values

-- The value of an operand that is no register and has no base.
abbrev pub taken_value : Context → Takes → List TokenSpot → Result ℕ Fault
taken_value scope Plt tokens = value_of scope (without_plt tokens)
taken_value scope HighParts tokens = high_value scope tokens
taken_value scope LowParts tokens = low_value scope tokens
taken_value scope takes tokens = value_of scope tokens

-- The value of an offset before a base.
abbrev pub taken_offset : Context → Takes → List TokenSpot → Result ℕ Fault
taken_offset scope LowParts tokens = low_value scope tokens
taken_offset scope LowOffsets tokens = low_value scope tokens
taken_offset scope takes tokens = value_of scope tokens
