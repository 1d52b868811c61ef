-- CSRs as instructions read and write them (unprivileged ISA 20191213, 9.1; Privileged 4.1).
use Rattle.std.specs.Prelude.{ℕ, ◌+◌, ◌-◌, ◌^◌, Bool, true, false, ◌==◌, if◌then◌else◌, Some, unwrap_or, bit_and, bit_or}
use Rattle.std.specs.Int.{bit_at}
use Rattle.sv39.specs.declared.paging.Spaces.{Spaces}
use Rattle.sv39.specs.Satp.{satp_written}
use Rattle.rv64_instructions.specs.declared.csr.Csr.{Csr}
use Rattle.rv64_instructions.specs.declared.csr.Csr.TheVariants.{Sstatus, Sie, Stvec, Sscratch, Sepc, Scause, Stval, Satp}
use Rattle.rv64_instructions.specs.declared.csr.CsrHow.{CsrHow}
use Rattle.rv64_instructions.specs.declared.csr.CsrHow.TheVariants.{Write, Set, Clear}
use Rattle.rv64_instructions.specs.declared.csr.CsrSource.{CsrSource}
use Rattle.rv64_instructions.specs.declared.csr.CsrSource.TheVariants.{Register, Immediate}
use Rattle.asm_guests.specs.declared.csrs.GuestCsrs.{GuestCsrs}
use Rattle.asm_guests.specs.declared.state.GuestState.{GuestState}
use Rattle.asm_guests.specs.States.{passed, known, with_register, value_held}

-- ---- the bits of sstatus: SIE is bit 1, SPIE bit 5, SPP bit 8 (Privileged 4.1.1)

-- what a bit is worth, if it is set
abbrev pub bit_if : Bool → (worth : ℕ) → ℕ
bit_if is_set worth = if is_set then worth else 0

abbrev pub has_bit_at : (value place : ℕ) → Bool
has_bit_at value place = bit_at value place == 1

abbrev pub sstatus_of : GuestCsrs → ℕ
sstatus_of csrs = bit_if csrs.interrupts 2 + bit_if csrs.interrupts_before 32 + bit_if csrs.from_supervisor 256

-- the bits that sie keeps: SSIE is bit 1, STIE bit 5 (Privileged 4.1.3)
abbrev pub kept_sie : ℕ → ℕ
kept_sie value = bit_if (has_bit_at value 1) 2 + bit_if (has_bit_at value 5) 32

-- ---- reading

-- the value of a CSR; stvec is 0 before it is written
abbrev pub csr_value : Csr → GuestCsrs → ℕ
csr_value Sstatus csrs = sstatus_of csrs
csr_value Sie csrs = csrs.sie
csr_value Stvec csrs = unwrap_or csrs.stvec 0
csr_value Sscratch csrs = csrs.sscratch
csr_value Sepc csrs = csrs.sepc
csr_value Scause csrs = csrs.scause
csr_value Stval csrs = csrs.stval
csr_value Satp csrs = csrs.satp

-- ---- writing

-- the value of the operand
abbrev pub operand : CsrSource → GuestState → ℕ
operand (Register r) s = value_held s r
operand (Immediate n) s = n

-- what an instruction writes, from the old value and its operand
abbrev pub written_value : CsrHow → (old operand : ℕ) → ℕ
written_value Write old operand = operand
written_value Set old operand = bit_or old operand
written_value Clear old operand = bit_and old (2 ^ 64 - 1 - operand)

-- The CSRs after a write; satp and sie keep what the board keeps, and sepc no bit below 2 (Privileged 4.1.3, 4.1.7, 4.1.11; WARL).
abbrev pub csr_written : Spaces → Csr → (value : ℕ) → GuestCsrs → GuestCsrs
csr_written spaces Sstatus value csrs = record csrs {
  interrupts = has_bit_at value 1;
  interrupts_before = has_bit_at value 5;
  from_supervisor = has_bit_at value 8;
}
csr_written spaces Sie value csrs = record csrs { sie = kept_sie value }
csr_written spaces Stvec value csrs = record csrs { stvec = Some value }
csr_written spaces Sscratch value csrs = record csrs { sscratch = value }
csr_written spaces Sepc value csrs = record csrs { sepc = bit_and value (2 ^ 64 - 4) }
csr_written spaces Scause value csrs = record csrs { scause = value }
csr_written spaces Stval value csrs = record csrs { stval = value }
csr_written spaces Satp value csrs = record csrs { satp = satp_written spaces csrs.satp value }

-- whether the board has the CSR: a write is an operation of the board
abbrev pub is_board_csr : Csr → Bool
is_board_csr Sstatus = true
is_board_csr Sie = true
is_board_csr Satp = true
is_board_csr csr = false

-- The state passed a CSR instruction that writes: the CSR is written, and the register gets its old value.
abbrev pub csr_done : Spaces → CsrHow → Csr → (register : ℕ) → CsrSource → GuestState → GuestState
csr_done spaces how csr rd from s = passed (with_register
    (record s { csrs = csr_written spaces csr (written_value how (csr_value csr s.csrs) (operand from s)) s.csrs }) rd
    (known (csr_value csr s.csrs)))
