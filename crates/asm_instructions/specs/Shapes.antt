-- Shapes of operands (RISC-V Assembly Programmer's Manual).
use Rattle.std.specs.Prelude.{ℕ, nat_lt, if◌then◌else◌, Option, Some, None, option_and_then, option_map}
use Rattle.asm_instructions.specs.declared.operands.CsrName.{CsrName}
use Rattle.asm_instructions.specs.declared.operands.Operand.{Operand}
use Rattle.asm_instructions.specs.declared.operands.Operand.TheVariants.{Register, Value, Memory, Csr}
use Rattle.asm_instructions.specs.declared.operands.Operands.{Operands}
use Rattle.asm_instructions.specs.declared.operands.Operands.TheVariants.{One, Two, Three}

infixl 10 ◌>>=◌
abbrev pub ◌>>=◌ : {A B : Type 0} → Option A → (A → Option B) → Option B
o >>= f = option_and_then f o

-- ---- what an operand is

-- the register of a number
abbrev pub register_at : ℕ → Option ℕ
register_at number = if nat_lt number 32 then Some number else None

abbrev pub register_of : Operand → Option ℕ
register_of (Register number) = register_at number
register_of operand = None

abbrev pub plain_value : Operand → Option ℕ
plain_value (Value value) = Some value
plain_value operand = None

-- an offset, and its base
abbrev pub memory_of : Operand → Option (ℕ × ℕ)
memory_of (Memory offset number) = option_map (λ register. (offset, register)) (register_at number)
memory_of operand = None

abbrev pub csr_of : Operand → Option CsrName
csr_of (Csr name) = Some name
csr_of operand = None

-- ---- operands, by what they are: `rd, rs1, rs2` and so on

abbrev pub three_registers : Operands → Option (ℕ × ℕ × ℕ)
three_registers (Three first second third) = do
  a ← register_of first
  b ← register_of second
  c ← register_of third
  Some (a, b, c)
three_registers operands = None

abbrev pub two_registers : Operands → Option (ℕ × ℕ)
two_registers (Two first second) = do
  a ← register_of first
  b ← register_of second
  Some (a, b)
two_registers operands = None

abbrev pub one_register : Operands → Option ℕ
one_register (One first) = register_of first
one_register operands = None

abbrev pub one_value : Operands → Option ℕ
one_value (One first) = plain_value first
one_value operands = None

abbrev pub registers_value : Operands → Option (ℕ × ℕ × ℕ)
registers_value (Three first second third) = do
  a ← register_of first
  b ← register_of second
  n ← plain_value third
  Some (a, b, n)
registers_value operands = None

abbrev pub register_value : Operands → Option (ℕ × ℕ)
register_value (Two first second) = do
  a ← register_of first
  n ← plain_value second
  Some (a, n)
register_value operands = None

abbrev pub register_value_register : Operands → Option (ℕ × ℕ × ℕ)
register_value_register (Three first second third) = do
  a ← register_of first
  n ← plain_value second
  b ← register_of third
  Some (a, n, b)
register_value_register operands = None

-- a register, an offset, and its base
abbrev pub register_memory : Operands → Option (ℕ × ℕ × ℕ)
register_memory (Two first second) = do
  a ← register_of first
  m ← memory_of second
  Some (a, m.0, m.1)
register_memory operands = None

abbrev pub registers_memory : Operands → Option (ℕ × ℕ × ℕ × ℕ)
registers_memory (Three first second third) = do
  a ← register_of first
  b ← register_of second
  m ← memory_of third
  Some (a, b, m.0, m.1)
registers_memory operands = None
