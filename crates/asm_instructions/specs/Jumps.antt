-- Rules of branches and jumps (unprivileged ISA 20191213, 2.5, 25; RISC-V Assembly Programmer's Manual, Pseudoinstructions).
use Rattle.std.specs.Prelude.{ℕ, pos, ◌^◌, Bool, if◌then◌else◌, Option, Some, None, Result, Ok, Err, ok_or}
use Rattle.asm_expressions.specs.declared.faults.Wrong.{Wrong}
use Rattle.asm_expressions.specs.declared.faults.Wrong.TheVariants.{BadOperands, OutOfRange, OutOfReach}
use Rattle.rv64_alu.specs.declared.comparison.Comparison.{Comparison}
use Rattle.rv64_instructions.specs.declared.instruction.Instruction.TheVariants.{Branch, Jump, JumpRegister, Value}
use Rattle.asm_instructions.specs.declared.made.Made.{Made}
use Rattle.asm_instructions.specs.declared.made.Made.TheVariants.{One, Pair}
use Rattle.asm_instructions.specs.declared.operands.Operand.{Operand}
use Rattle.asm_instructions.specs.declared.operands.Operands.{Operands}
use Rattle.asm_instructions.specs.declared.operands.Operands.TheVariants as by
use Rattle.asm_instructions.specs.Compute.{shaped}
use Rattle.asm_instructions.specs.Steps.{◌>>=◌}
use Rattle.asm_instructions.specs.Ranges.{far_base, far_low, is_far, is_within_reach, short_of}
use Rattle.asm_instructions.specs.Shapes.{memory_of, one_value, register_of, register_value, plain_value}

-- ---- branches: their targets are less than 4 KiB away

abbrev pub branch : Comparison → (rs1 rs2 here to : ℕ) → Result Made Wrong
branch when rs1 rs2 here to = if is_within_reach (2 ^ 12) here to then Ok (One (Branch when rs1 rs2 to)) else Err OutOfReach

abbrev pub turned_branch : Comparison → (is_turned : Bool) → (rs1 rs2 here to : ℕ) → Result Made Wrong
turned_branch when is_turned rs1 rs2 here to =
    if is_turned then branch when rs2 rs1 here to else branch when rs1 rs2 here to

abbrev pub branch_rule : Comparison → (is_turned : Bool) → (here : ℕ) → Operands → Result Made Wrong
branch_rule when is_turned here (by.Three first second third) = do
  a ← shaped (register_of first)
  b ← shaped (register_of second)
  to ← shaped (plain_value third)
  turned_branch when is_turned a b here to
branch_rule when is_turned here operands = Err BadOperands

-- with 0 as the second register, or turned as the first
abbrev pub branch_zero_rule : Comparison → (is_turned : Bool) → (here : ℕ) → Operands → Result Made Wrong
branch_zero_rule when is_turned here operands = do
  r ← shaped (register_value operands)
  turned_branch when is_turned r.0 0 here r.1

-- ---- JAL: its target is less than 1 MiB away, and it links to ra if nothing else is said

abbrev pub jump : (rd here to : ℕ) → Result Made Wrong
jump rd here to = if is_within_reach (2 ^ 20) here to then Ok (One (Jump rd to)) else Err OutOfReach

abbrev pub jal_by : (here : ℕ) → Operands → Option ℕ → Result Made Wrong
jal_by here operands (Some to) = jump 1 here to
jal_by here operands None = do
  r ← shaped (register_value operands)
  jump r.0 here r.1

abbrev pub jal_rule : (here : ℕ) → Operands → Result Made Wrong
jal_rule here operands = jal_by here operands (one_value operands)

abbrev pub goto_rule : (here : ℕ) → Operands → Result Made Wrong
goto_rule here operands = do
  to ← shaped (one_value operands)
  jump 0 here to

-- ---- JALR

abbrev pub jalr : (rd offset rs1 : ℕ) → Result Made Wrong
jalr rd offset rs1 = do
  n ← ok_or (short_of offset) OutOfRange
  Ok (One (JumpRegister rd rs1 n))

abbrev pub base_unless_register : Operand → Option ℕ → Option (ℕ × ℕ)
base_unless_register operand (Some rs1) = Some (0, rs1)
base_unless_register operand None = memory_of operand

-- the offset and the base that an operand is; a register alone has the offset 0
abbrev pub offset_and_base : Operand → Option (ℕ × ℕ)
offset_and_base operand = base_unless_register operand (register_of operand)

abbrev pub linked : (rd : ℕ) → Option (ℕ × ℕ) → Option (ℕ × ℕ × ℕ)
linked rd None = None
linked rd (Some place) = Some (rd, place.0, place.1)

abbrev pub linked_by : Option ℕ → Operand → Option (ℕ × ℕ × ℕ)
linked_by None second = None
linked_by (Some rd) second = linked rd (offset_and_base second)

abbrev pub listed : Option ℕ → Option ℕ → Option ℕ → Option (ℕ × ℕ × ℕ)
listed None rs1 offset = None
listed (Some rd) None offset = None
listed (Some rd) (Some rs1) None = None
listed (Some rd) (Some rs1) (Some offset) = Some (rd, offset, rs1)

-- the link, the offset and the base: `rs1` or `offset(rs1)`, with `rd` before it, or `rd, rs1, offset`
abbrev pub jalr_place : Operands → Option (ℕ × ℕ × ℕ)
jalr_place by.Nothing = None
jalr_place (by.One first) = linked 1 (offset_and_base first)
jalr_place (by.Two first second) = linked_by (register_of first) second
jalr_place (by.Three first second third) = listed (register_of first) (register_of second) (plain_value third)

abbrev pub jalr_rule : Operands → Result Made Wrong
jalr_rule operands = do
  r ← shaped (jalr_place operands)
  jalr r.0 r.1 r.2

abbrev pub jr_rule : Operands → Result Made Wrong
jr_rule (by.One first) = do
  r ← shaped (offset_and_base first)
  jalr 0 r.0 r.1
jr_rule operands = Err BadOperands

abbrev pub return_rule : Operands → Result Made Wrong
return_rule by.Nothing = Ok (One (JumpRegister 0 1 (pos 0)))
return_rule operands = Err BadOperands

-- ---- calls: AUIPC and JALR by a register

abbrev pub far_jump : (rd base here to : ℕ) → Result Made Wrong
far_jump rd base here to =
    if is_far here to then Err OutOfReach
    else Ok (Pair (Value base (far_base here to)) (JumpRegister rd base (far_low here to)))

abbrev pub call_from : (here : ℕ) → Operands → Option ℕ → Result Made Wrong
call_from here operands (Some to) = far_jump 1 1 here to
call_from here operands None = do
  r ← shaped (register_value operands)
  far_jump r.0 6 here r.1

-- by ra if it links there, and by t1 if it links to another register
abbrev pub call_rule : (here : ℕ) → Operands → Result Made Wrong
call_rule here operands = call_from here operands (one_value operands)

abbrev pub tail_rule : (here : ℕ) → Operands → Result Made Wrong
tail_rule here operands = do
  to ← shaped (one_value operands)
  far_jump 0 6 here to
