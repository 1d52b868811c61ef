-- Rules of instructions that access memory (unprivileged ISA 20191213, 2.6, 5.3, 8.4; RISC-V Assembly Programmer's Manual).
use Rattle.std.specs.Prelude.{ℕ, ℤ, pos, ◌==◌, if◌then◌else◌, Option, Some, None, Result, Ok, Err, ok_or}
use Rattle.amo.specs.declared.name.AmoName.{AmoName}
use Rattle.asm_expressions.specs.declared.faults.Wrong.{Wrong}
use Rattle.asm_expressions.specs.declared.faults.Wrong.TheVariants.{BadOperands, OutOfRange, OutOfReach}
use Rattle.rv64_alu.specs.declared.load.LoadKind.{LoadKind}
use Rattle.rv64_instructions.specs.declared.instruction.Instruction.{Instruction}
use Rattle.rv64_instructions.specs.declared.instruction.Instruction.TheVariants.{Amo, Fetch, Load, StoreDouble, Value}
use Rattle.asm_instructions.specs.declared.made.Made.{Made}
use Rattle.asm_instructions.specs.declared.made.Made.TheVariants.{One, Pair}
use Rattle.asm_instructions.specs.declared.memory.StoreSize.{StoreSize}
use Rattle.asm_instructions.specs.declared.memory.StoreSize.TheVariants.{Double, Narrow}
use Rattle.asm_instructions.specs.declared.operands.Operands.{Operands}
use Rattle.asm_instructions.specs.Compute.{shaped}
use Rattle.asm_instructions.specs.Steps.{◌>>=◌}
use Rattle.asm_instructions.specs.Ranges.{far_base, far_low, is_far, short_of}
use Rattle.asm_instructions.specs.Shapes.{register_memory, register_value, register_value_register, registers_memory}

-- ---- loads: `rd, offset(rs1)`, or at a symbol by AUIPC

abbrev pub near_load : LoadKind → (rd offset rs1 : ℕ) → Result Made Wrong
near_load kind rd offset rs1 = do
  n ← ok_or (short_of offset) OutOfRange
  Ok (One (Load kind rd rs1 n))

abbrev pub far_load : LoadKind → (here : ℕ) → Operands → Result Made Wrong
far_load kind here operands = do
  r ← shaped (register_value operands)
  (if is_far here r.1 then Err OutOfReach
      else Ok (Pair (Value r.0 (far_base here r.1)) (Load kind r.0 r.0 (far_low here r.1))))

abbrev pub load_by : LoadKind → (here : ℕ) → Operands → Option (ℕ × ℕ × ℕ) → Result Made Wrong
load_by kind here operands None = far_load kind here operands
load_by kind here operands (Some near) = near_load kind near.0 near.1 near.2

abbrev pub load_rule : LoadKind → (here : ℕ) → Operands → Result Made Wrong
load_rule kind here operands = load_by kind here operands (register_memory operands)

-- ---- stores: `rs2, offset(rs1)`, or at a symbol by AUIPC to a register of its own

abbrev pub store_of : StoreSize → (rs2 rs1 : ℕ) → (offset : ℤ) → Instruction
store_of Double rs2 rs1 offset = StoreDouble rs2 rs1 offset
store_of (Narrow name) rs2 rs1 offset = Amo name 0 rs2 rs1 offset

abbrev pub near_store : StoreSize → (rs2 offset rs1 : ℕ) → Result Made Wrong
near_store size rs2 offset rs1 = do
  n ← ok_or (short_of offset) OutOfRange
  Ok (One (store_of size rs2 rs1 n))

abbrev pub far_store : StoreSize → (here : ℕ) → Operands → Result Made Wrong
far_store size here operands = do
  r ← shaped (register_value_register operands)
  (if is_far here r.1 then Err OutOfReach
      else Ok (Pair (Value r.2 (far_base here r.1)) (store_of size r.0 r.2 (far_low here r.1))))

abbrev pub store_by : StoreSize → (here : ℕ) → Operands → Option (ℕ × ℕ × ℕ) → Result Made Wrong
store_by size here operands None = far_store size here operands
store_by size here operands (Some near) = near_store size near.0 near.1 near.2

abbrev pub store_rule : StoreSize → (here : ℕ) → Operands → Result Made Wrong
store_rule size here operands = store_by size here operands (register_memory operands)

-- ---- AMOs, whose address has no offset; and fetches as values

abbrev pub amo_rule : AmoName → Operands → Result Made Wrong
amo_rule name operands = do
  r ← shaped (registers_memory operands)
  (if r.2 == 0 then Ok (One (Amo name r.0 r.1 r.3 (pos 0))) else Err BadOperands)

abbrev pub fetch_rule : Operands → Result Made Wrong
fetch_rule operands = do
  r ← shaped (register_memory operands)
  n ← ok_or (short_of r.1) OutOfRange
  Ok (One (Fetch r.0 r.2 n))
