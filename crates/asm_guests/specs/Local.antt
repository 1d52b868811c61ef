-- Local instructions: those that a guest does alone, between two operations of the board (unprivileged ISA 20191213, 2, 5, 7, 9.1).
use Rattle.std.specs.Prelude.{ℕ, ◌-◌, ◌%◌, Bool, true, ◌&&◌, ◌==◌, if◌then◌else◌}
use Rattle.std.specs.Int.{w64}
use Rattle.sv39.specs.declared.paging.Spaces.{Spaces}
use Rattle.rv64_alu.specs.declared.comparison.Comparison.{Comparison}
use Rattle.rv64_alu.specs.Comparisons.{is_taken}
use Rattle.rv64_alu.specs.Functions.{low_sum}
use Rattle.rv64_alu.specs.Immediates.{immediate}
use Rattle.rv64_alu.specs.Table.{computed}
use Rattle.rv64_instructions.specs.CsrSources.{writes_csr}
use Rattle.rv64_instructions.specs.declared.csr.Csr.{Csr}
use Rattle.rv64_instructions.specs.declared.csr.CsrHow.{CsrHow}
use Rattle.rv64_instructions.specs.declared.csr.CsrSource.{CsrSource}
use Rattle.rv64_instructions.specs.declared.instruction.Instruction.{Instruction}
use Rattle.rv64_instructions.specs.declared.instruction.Instruction.TheVariants.{Compute, ComputeImmediate, Value, Branch, Jump, JumpRegister, Csr as OnCsr, ClearSip, Fence, Ebreak}
use Rattle.asm_guests.specs.declared.local.Did.{Did}
use Rattle.asm_guests.specs.declared.local.Did.TheVariants.{Stepped, Waits as Waited, Ended}
use Rattle.asm_guests.specs.declared.state.GuestState.{GuestState}
use Rattle.asm_guests.specs.Csrs.{csr_done, csr_value, has_bit_at, is_board_csr, operand}
use Rattle.asm_guests.specs.States.{passed, goes_to, known, knows, with_register, value_held}

-- what an instruction is for its guest: a local step, an operation of the board, or the guest's end
pub data LocalTurn : Type 0 where
  Steps : GuestState → LocalTurn
  Waits : GuestState → LocalTurn
  Ends : GuestState → LocalTurn

-- the turn of an instruction that was done so far, with the state passed it
abbrev pub local_turn_of : Did → GuestState → LocalTurn
local_turn_of Stepped s = Steps s
local_turn_of Waited s = Waits s
local_turn_of Ended s = Ends s

-- the state passed an instruction that writes a register; the value is known if what it comes from is
abbrev pub puts : (register value : ℕ) → (is_known : Bool) → GuestState → GuestState
puts rd n is_known s = passed (with_register s rd (record { value = n; is_known = is_known }))

-- the address that a register's value and an offset make
abbrev pub address : GuestState → (base offset : ℕ) → ℕ
address s base offset = low_sum w64 (value_held s base) offset

-- a branch, which ends a guest if it leads to itself
abbrev pub branches : Comparison → (rs1 rs2 to : ℕ) → GuestState → LocalTurn
branches when rs1 rs2 to s =
    if is_taken when (value_held s rs1) (value_held s rs2) then (if to == s.pc then Ends s else Steps (goes_to s to))
    else Steps (passed s)

-- a jump that links, which ends a guest if it leads to itself
abbrev pub jumps : GuestState → (register to : ℕ) → LocalTurn
jumps s rd to = if to == s.pc then Ends s else Steps (goes_to (with_register s rd (known (low_sum w64 s.pc 4))) to)

-- a CSR instruction: a read alone, or a write to a CSR that the board doesn't have, is local
abbrev pub csr_turn : Spaces → CsrHow → Csr → (register : ℕ) → CsrSource → GuestState → LocalTurn
csr_turn spaces how csr rd from s =
    if writes_csr how from then (if is_board_csr csr then Waits s else Steps (csr_done spaces how csr rd from s))
    else Steps (puts rd (csr_value csr s.csrs) true s)

-- a clearing of sip: an operation if its operand has SSIP's bit, 1 (Privileged 4.1.3)
abbrev pub sip_turn : CsrSource → GuestState → LocalTurn
sip_turn from s = if has_bit_at (operand from s) 1 then Waits s else Steps (passed s)

-- JALR: its target has bit 0 cleared, and its base is read before it links (unprivileged ISA 2.5)
abbrev pub target : GuestState → (base offset : ℕ) → ℕ
target s base offset = address s base offset - address s base offset % 2

-- What an instruction is for a guest in this state.
abbrev pub local_turn : Spaces → Instruction → GuestState → LocalTurn
local_turn spaces (Compute op rd rs1 rs2) s =
    Steps (puts rd (computed op (value_held s rs1) (value_held s rs2)) (knows s rs1 && knows s rs2) s)
local_turn spaces (ComputeImmediate op rd rs1 imm) s =
    Steps (puts rd (computed op (value_held s rs1) (immediate imm)) (knows s rs1) s)
local_turn spaces (Value rd n) s = Steps (puts rd n true s)
local_turn spaces (Branch when rs1 rs2 to) s = branches when rs1 rs2 to s
local_turn spaces (Jump rd to) s = jumps s rd to
local_turn spaces (JumpRegister rd rs1 offset) s = jumps s rd (target s rs1 (immediate offset))
local_turn spaces (OnCsr how csr rd from) s = csr_turn spaces how csr rd from s
local_turn spaces (ClearSip from) s = sip_turn from s
local_turn spaces Fence s = Steps (passed s)
local_turn spaces Ebreak s = Ends s
local_turn spaces instruction s = Waits s
