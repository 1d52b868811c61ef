-- Operands of instructions, as their tokens say (RISC-V Assembly Programmer's Manual).
use Rattle.std.specs.Prelude.{ℕ, suc, ◌+◌, ◌-◌, nat_lt, if◌then◌else◌, List, [], ◌∷◌, drop, length, take, Option, Some, None, Result, Ok, option_map}
use Rattle.asm_tokens.specs.declared.marks.Mark.TheVariants.{Open, Close}
use Rattle.asm_tokens.specs.Readings.{TokenSpot}
use Rattle.asm_tokens.specs.Registers.{register_in}
use Rattle.asm_tokens.specs.Statements.{is_comma}
use Rattle.asm_tokens.specs.Tokens.{Lexeme}
use Rattle.asm_tokens.specs.Tokens.Lexeme.{Word, Mark}
use Rattle.asm_expressions.specs.declared.faults.Fault.{Fault}
use Rattle.asm_expressions.specs.Symbols.{Context}
use Rattle.asm_instructions.specs.declared.operands.Operand.{Operand}
use Rattle.asm_instructions.specs.declared.operands.Operand.TheVariants.{Register, Value, Memory, Csr}
use Rattle.asm_instructions.specs.declared.operands.Operands.{Operands}
use Rattle.asm_instructions.specs.declared.operands.Operands.TheVariants.{Nothing, One, Two, Three}
use Rattle.asm_instructions.specs.declared.taken.Takes.{Takes}
use Rattle.asm_instructions.specs.declared.taken.Takes.TheVariants.{Csrs}
use Rattle.asm_instructions.specs.Csrs.{csr_named}
use Rattle.asm_instructions.specs.Steps.{◌>>=◌}
use Rattle.asm_instructions.specs.Taken.{taken_offset, taken_value}

-- ---- one word: a register, or a CSR where the instruction takes one

abbrev pub word_of_token : Lexeme → Option (List ℕ)
word_of_token (Word word) = Some word
word_of_token lexeme = None

abbrev pub only_word : List TokenSpot → Option (List ℕ)
only_word (only ∷ []) = word_of_token only.lexeme
only_word tokens = None

abbrev pub csr_operand : Takes → (word : List ℕ) → Option Operand
csr_operand Csrs word = option_map Csr (csr_named word)
csr_operand takes word = None

abbrev pub named_operand : Takes → (word : List ℕ) → Option ℕ → Option Operand
named_operand takes word None = csr_operand takes word
named_operand takes word (Some register) = Some (Register register)

abbrev pub operand_by_word : Takes → Option (List ℕ) → Option Operand
operand_by_word takes None = None
operand_by_word takes (Some word) = named_operand takes word (register_in word)

abbrev pub word_operand : Takes → List TokenSpot → Option Operand
word_operand takes tokens = operand_by_word takes (only_word tokens)

-- ---- a base: a register in parentheses

abbrev pub base_of : Lexeme → Lexeme → Lexeme → Option ℕ
base_of (Mark Open) (Word word) (Mark Close) = register_in word
base_of first second third = None

abbrev pub base_behind : List TokenSpot → Option ℕ
base_behind (first ∷ second ∷ third ∷ []) =
    base_of first.lexeme second.lexeme third.lexeme
base_behind tokens = None

-- the tokens before the last three
abbrev pub before_base : List TokenSpot → List TokenSpot
before_base tokens = take (length tokens - 3) tokens

-- the base that tokens end with, behind the tokens before it
abbrev pub base_in : List TokenSpot → Option (List TokenSpot × ℕ)
base_in tokens =
    option_map (λ register. (before_base tokens, register)) (base_behind (drop (length tokens - 3) tokens))

-- ---- operands

abbrev pub offset_of : Context → Takes → List TokenSpot → Result ℕ Fault
offset_of scope takes [] = Ok 0
offset_of scope takes (placed ∷ tokens) = taken_offset scope takes (placed ∷ tokens)

abbrev pub expression : Context → Takes → List TokenSpot → Result Operand Fault
expression scope takes tokens = do
  value ← taken_value scope takes tokens
  Ok (Value value)

abbrev pub operand_by_base : Context → Takes → List TokenSpot → Option (List TokenSpot × ℕ) → Result Operand Fault
operand_by_base scope takes tokens None = expression scope takes tokens
operand_by_base scope takes tokens (Some found) = do
  offset ← offset_of scope takes found.0
  Ok (Memory offset found.1)

abbrev pub operand_unless_named : Context → Takes → List TokenSpot → Option Operand → Result Operand Fault
operand_unless_named scope takes tokens None = operand_by_base scope takes tokens (base_in tokens)
operand_unless_named scope takes tokens (Some named) = Ok named

-- An operand: a register or a CSR, an offset with its base, or a value.
abbrev pub operand_in : Context → Takes → List TokenSpot → Result Operand Fault
operand_in scope takes tokens = operand_unless_named scope takes tokens (word_operand takes tokens)

-- ---- up to three operands, with commas between them

-- the number of tokens before the first comma
abbrev pub before_comma : List TokenSpot → ℕ
before_comma [] = 0
before_comma (placed ∷ tokens) = if is_comma placed.lexeme then 0 else suc (before_comma tokens)

-- those tokens
abbrev pub operand_front : List TokenSpot → List TokenSpot
operand_front tokens = take (before_comma tokens) tokens

-- those behind the comma, if there is one
abbrev pub behind_comma : List TokenSpot → Option (List TokenSpot)
behind_comma tokens =
    if nat_lt (before_comma tokens) (length tokens) then Some (drop (before_comma tokens + 1) tokens) else None

abbrev pub third_if : Context → Takes → (first second : Operand) → Option (List TokenSpot) → Result Operands Fault
third_if scope takes first second None = Ok (Two first second)
third_if scope takes first second (Some behind) = do
  third ← operand_in scope takes behind
  Ok (Three first second third)

-- the first operand, and those behind its comma
abbrev pub more_operands : Context → Takes → Operand → List TokenSpot → Result Operands Fault
more_operands scope takes first tokens = do
  second ← operand_in scope takes (operand_front tokens)
  third_if scope takes first second (behind_comma tokens)

abbrev pub more_operands_if : Context → Takes → Operand → Option (List TokenSpot) → Result Operands Fault
more_operands_if scope takes first None = Ok (One first)
more_operands_if scope takes first (Some behind) = more_operands scope takes first behind

-- The operands that tokens behind a mnemonic are.
abbrev pub operands_in : Context → Takes → List TokenSpot → Result Operands Fault
operands_in scope takes [] = Ok Nothing
operands_in scope takes (placed ∷ tokens) = do
  first ← operand_in scope takes (operand_front (placed ∷ tokens))
  more_operands_if scope takes first (behind_comma (placed ∷ tokens))
