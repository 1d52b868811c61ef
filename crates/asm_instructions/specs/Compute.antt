-- Rules of instructions that compute (RISC-V Assembly Programmer's Manual, Pseudoinstructions; unprivileged ISA 20191213, 2.4, 5.2, 25).
use Rattle.std.specs.Prelude.{ℕ, ℤ, pos, ◌^◌, nat_le, if◌then◌else◌, Option, Result, Ok, Err, ok_or}
use Rattle.asm_expressions.specs.declared.faults.Wrong.{Wrong}
use Rattle.asm_expressions.specs.declared.faults.Wrong.TheVariants.{BadOperands, OutOfRange, OutOfReach}
use Rattle.rv64_alu.specs.declared.alu.AluOp.{AluOp}
use Rattle.rv64_alu.specs.declared.alu.AluOp.TheVariants.{Add, Sll, Word}
use Rattle.rv64_alu.specs.Immediates.{auipc, lui}
use Rattle.rv64_instructions.specs.declared.instruction.Instruction.TheVariants.{Compute, ComputeImmediate, Value}
use Rattle.asm_instructions.specs.declared.made.Made.{Made}
use Rattle.asm_instructions.specs.declared.made.Made.TheVariants.{One, Pair, Times}
use Rattle.asm_instructions.specs.declared.operands.Operands.{Operands}
use Rattle.asm_instructions.specs.declared.operands.Operands.TheVariants.{Nothing}
use Rattle.asm_instructions.specs.Ranges.{far_base, far_low, is_far, li_count, short_of}
use Rattle.asm_instructions.specs.Steps.{◌>>=◌}
use Rattle.asm_instructions.specs.Shapes.{register_value, registers_value, three_registers, two_registers}

-- what stands there, if the operands are of this shape
abbrev pub shaped : {A : Type 0} → Option A → Result A Wrong
shaped shape = ok_or shape BadOperands

-- ---- registers, immediates and shifts

abbrev pub registers_rule : AluOp → Operands → Result Made Wrong
registers_rule op operands = do
  r ← shaped (three_registers operands)
  Ok (One (Compute op r.0 r.1 r.2))

-- with the second register first: `sgt`
abbrev pub turned_registers_rule : AluOp → Operands → Result Made Wrong
turned_registers_rule op operands = do
  r ← shaped (three_registers operands)
  Ok (One (Compute op r.0 r.2 r.1))

abbrev pub immediate_rule : AluOp → Operands → Result Made Wrong
immediate_rule op operands = do
  r ← shaped (registers_value operands)
  imm ← ok_or (short_of r.2) OutOfRange
  Ok (One (ComputeImmediate op r.0 r.1 imm))

abbrev pub shift_bits : AluOp → ℕ
shift_bits (Word op) = 32
shift_bits op = 64

abbrev pub shift_rule : AluOp → Operands → Result Made Wrong
shift_rule op operands = do
  r ← shaped (registers_value operands)
  (if nat_le (shift_bits op) r.2 then Err OutOfRange else Ok (One (ComputeImmediate op r.0 r.1 (pos r.2))))

-- ---- values: LUI and AUIPC take 20 bits

abbrev pub lui_rule : Operands → Result Made Wrong
lui_rule operands = do
  r ← shaped (register_value operands)
  (if nat_le (2 ^ 20) r.1 then Err OutOfRange else Ok (One (Value r.0 (lui r.1))))

abbrev pub auipc_rule : (here : ℕ) → Operands → Result Made Wrong
auipc_rule here operands = do
  r ← shaped (register_value operands)
  (if nat_le (2 ^ 20) r.1 then Err OutOfRange else Ok (One (Value r.0 (auipc here r.1))))

-- AUIPC, and ADDI of the rest
abbrev pub la_rule : (here : ℕ) → Operands → Result Made Wrong
la_rule here operands = do
  r ← shaped (register_value operands)
  (if is_far here r.1 then Err OutOfReach
      else Ok (Pair (Value r.0 (far_base here r.1)) (ComputeImmediate Add r.0 r.0 (far_low here r.1))))

abbrev pub li_rule : Operands → Result Made Wrong
li_rule operands = do
  r ← shaped (register_value operands)
  Ok (Times (li_count r.1) (Value r.0 r.1))

abbrev pub nop_rule : Operands → Result Made Wrong
nop_rule Nothing = Ok (One (ComputeImmediate Add 0 0 (pos 0)))
nop_rule operands = Err BadOperands

-- ---- an operation on one register: with an immediate, behind x0, or before it

abbrev pub fixed_immediate_rule : AluOp → (immediate : ℤ) → Operands → Result Made Wrong
fixed_immediate_rule op immediate operands = do
  r ← shaped (two_registers operands)
  Ok (One (ComputeImmediate op r.0 r.1 immediate))

abbrev pub from_zero_rule : AluOp → Operands → Result Made Wrong
from_zero_rule op operands = do
  r ← shaped (two_registers operands)
  Ok (One (Compute op r.0 0 r.1))

abbrev pub with_zero_rule : AluOp → Operands → Result Made Wrong
with_zero_rule op operands = do
  r ← shaped (two_registers operands)
  Ok (One (Compute op r.0 r.1 0))

-- a part of a register: a shift to the left, and one back
abbrev pub extended_rule : AluOp → (bits : ℤ) → Operands → Result Made Wrong
extended_rule op bits operands = do
  r ← shaped (two_registers operands)
  Ok (Pair (ComputeImmediate Sll r.0 r.1 bits) (ComputeImmediate op r.0 r.0 bits))
