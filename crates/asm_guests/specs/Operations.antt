-- The operation of the board that an instruction is (SBI 3; unprivileged ISA 20191213, 2.6; Privileged 3.3, 4.1, 4.2).
use Rattle.std.specs.Prelude.{ℕ, ◌-◌, ◌%◌, ◌==◌, if◌then◌else◌, [], ◌∷◌, Option, Some, None}
use Rattle.sbi_abi.specs.declared.call.Regs.{Regs}
use Rattle.amo.specs.declared.name.AmoName.{AmoName}
use Rattle.amo.specs.declared.name.AmoName.TheVariants.{Cas}
use Rattle.amo.specs.Names.{made_of}
use Rattle.board_terms.specs.declared.op.Op.{Op}
use Rattle.board_terms.specs.declared.op.Op.TheVariants as ops
use Rattle.rv64_alu.specs.Immediates.{immediate}
use Rattle.rv64_alu.specs.Loads.{load_size}
use Rattle.rv64_instructions.specs.declared.csr.Csr.{Csr}
use Rattle.rv64_instructions.specs.declared.csr.Csr.TheVariants.{Sstatus, Sie, Satp}
use Rattle.rv64_instructions.specs.declared.instruction.Instruction.{Instruction}
use Rattle.rv64_instructions.specs.declared.instruction.Instruction.TheVariants as does
use Rattle.asm_guests.specs.Csrs.{csr_value, has_bit_at, operand, written_value}
use Rattle.asm_guests.specs.Local.{address}
use Rattle.asm_guests.specs.declared.state.GuestState.{GuestState}
use Rattle.asm_guests.specs.States.{value_held}

-- The address of the word of 8 bytes around an address that is naturally aligned. Any other address is loaded as it is, and so
-- the board answers a fault.
abbrev pub word_around : (size at : ℕ) → ℕ
word_around size at = if at % size == 0 then at - at % 8 else at

-- a7, a6, and a0 to a5 (SBI 3, Binary Encoding)
abbrev pub call_registers : GuestState → Regs
call_registers s = record {
  eid = value_held s 17;
  fid = value_held s 16;
  a =
      value_held s 10 ∷ value_held s 11 ∷ value_held s 12 ∷ value_held s 13 ∷ value_held s 14 ∷ value_held s 15 ∷ [];
}

-- the value of a register, or nothing for x0, by the register's number (Privileged 4.2.1)
abbrev pub unless_zero : GuestState → (register : ℕ) → Option ℕ
unless_zero s r = if r == 0 then None else Some (value_held s r)

-- the write of a CSR that the board has
abbrev pub csr_op : Csr → (value : ℕ) → Option Op
csr_op Sstatus value = Some (ops.WriteSstatusSie (has_bit_at value 1))
csr_op Sie value = Some (ops.WriteSie value)
csr_op Satp value = Some (ops.WriteSatp value)
csr_op csr value = None

-- a compare-and-swap expects what its result's register holds (Zacas)
abbrev pub amo_expected : GuestState → AmoName → (rd rs2 : ℕ) → ℕ
amo_expected s Cas rd rs2 = value_held s rd
amo_expected s name rd rs2 = value_held s rs2

-- an AMO, or a store of 1, 2 or 4 bytes, at an address
abbrev pub amo_op : GuestState → AmoName → (rd rs2 at : ℕ) → Op
amo_op s name rd rs2 at = ops.Amo at (made_of name (amo_expected s name rd rs2) (value_held s rs2))

-- The operation of an instruction, if it isn't local.
abbrev pub op_by : Instruction → GuestState → Option Op
op_by (does.Load kind rd rs1 offset) s = Some (ops.Load (word_around (load_size kind) (address s rs1 (immediate offset))))
op_by (does.StoreDouble rs2 rs1 offset) s = Some (ops.Store (address s rs1 (immediate offset)) (value_held s rs2))
op_by (does.Amo name rd rs2 rs1 offset) s = Some (amo_op s name rd rs2 (address s rs1 (immediate offset)))
op_by (does.Fetch rd rs1 offset) s = Some (ops.Fetch (address s rs1 (immediate offset)))
op_by (does.Csr how csr rd from) s = csr_op csr (written_value how (csr_value csr s.csrs) (operand from s))
op_by (does.ReadSip rd) s = Some ops.ReadSip
op_by (does.ClearSip from) s = Some ops.ClearSsip
op_by does.FenceI s = Some ops.FenceI
op_by (does.SfenceVma rs1 rs2) s = Some (ops.Sfence (unless_zero s rs1) (unless_zero s rs2))
op_by does.Wfi s = Some ops.Wfi
op_by does.Ecall s = Some (ops.Ecall (call_registers s))
op_by does.Sret s = Some (ops.WriteSstatusSie s.csrs.interrupts_before)
op_by instruction s = None
