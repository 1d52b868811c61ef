-- Instructions that an unknown value decides (profile).
use Rattle.std.specs.Prelude.{ℕ, zero, suc, ◌+◌, Bool, false, not, ◌||◌, if◌then◌else◌, Option, Some, None}
use Rattle.amo.specs.declared.name.AmoName.{AmoName}
use Rattle.amo.specs.declared.name.AmoName.TheVariants.{Cas}
use Rattle.board_terms.specs.declared.reply.Reply.{Reply}
use Rattle.sbi_abi.specs.declared.call.Call.{Call}
use Rattle.sbi_abi.specs.declared.call.Call.TheVariants as calls
use Rattle.sbi_abi.specs.declared.call.base.BaseCall.TheVariants.{ProbeExtension}
use Rattle.sbi_abi.specs.declared.call.hsm.HsmCall.TheVariants.{HartStop, HartGetStatus}
use Rattle.sbi_abi.specs.declared.call.rfence.RfenceCall.TheVariants.{RemoteFenceI, RemoteSfenceVma}
use Rattle.sbi_abi.specs.Calls.{call_of}
use Rattle.rv64_instructions.specs.declared.csr.CsrSource.{CsrSource}
use Rattle.rv64_instructions.specs.declared.csr.CsrSource.TheVariants.{Register, Immediate}
use Rattle.rv64_instructions.specs.declared.instruction.Instruction.{Instruction}
use Rattle.rv64_instructions.specs.declared.instruction.Instruction.TheVariants as does
use Rattle.asm_guests.specs.declared.guest.AsmGuest.{AsmGuest}
use Rattle.asm_guests.specs.declared.guest.AsmGuest.TheVariants.{Before, Trapping}
use Rattle.asm_guests.specs.declared.state.GuestState.{GuestState}
use Rattle.asm_guests.specs.Guests.{most_steps}
use Rattle.asm_guests.specs.Listings.{Listing}
use Rattle.asm_guests.specs.Local.{LocalTurn, local_turn}
use Rattle.asm_guests.specs.Local.LocalTurn.{Ends, Steps, Waits}
use Rattle.asm_guests.specs.Operations.{call_registers}
use Rattle.asm_guests.specs.Replies.{Behind, reply_taken, trap_taken}
use Rattle.asm_guests.specs.Replies.Behind.{GoesOn}
use Rattle.asm_guests.specs.States.{knows}

-- whether the value of a register is unknown
abbrev pub lacks : GuestState → (register : ℕ) → Bool
lacks s r = not (knows s r)

-- ---- calls: a7, a6, and the arguments, from a0 on, that the call has

-- how many arguments a call has (SBI 4 to 10)
abbrev pub argument_count : Call → ℕ
argument_count (calls.Base (ProbeExtension id)) = 1
argument_count (calls.Base call) = 0
argument_count (calls.Time call) = 1
argument_count (calls.Ipi call) = 2
argument_count (calls.Rfence (RemoteFenceI mask base)) = 2
argument_count (calls.Rfence (RemoteSfenceVma mask base start size)) = 4
argument_count (calls.Rfence call) = 5
argument_count (calls.Hsm HartStop) = 0
argument_count (calls.Hsm (HartGetStatus hart)) = 1
argument_count (calls.Hsm call) = 3
argument_count (calls.Srst call) = 2
argument_count calls.Unsupported = 0

abbrev pub lacks_argument : GuestState → (count : ℕ) → Bool
lacks_argument s zero = false
lacks_argument s (suc n) = lacks_argument s n || lacks s (10 + n)

abbrev pub lacks_call : GuestState → Bool
lacks_call s = lacks s 17 || lacks s 16 || lacks_argument s (argument_count (call_of (call_registers s)))

-- ---- instructions

abbrev pub lacks_operand : CsrSource → GuestState → Bool
lacks_operand (Register r) s = lacks s r
lacks_operand (Immediate n) s = false

-- a compare-and-swap compares what its result's register holds (Zacas)
abbrev pub lacks_for_amo : AmoName → (rd rs1 : ℕ) → GuestState → Bool
lacks_for_amo Cas rd rs1 s = lacks s rd || lacks s rs1
lacks_for_amo name rd rs1 s = lacks s rs1

-- Whether an unknown value decides what an instruction does: where it goes, which address it accesses, what a CSR gets, or what a call
-- asks for. A value that is stored, or put into a register, decides nothing there.
abbrev pub is_by_unknown : Instruction → GuestState → Bool
is_by_unknown (does.Branch when rs1 rs2 to) s = lacks s rs1 || lacks s rs2
is_by_unknown (does.JumpRegister rd rs1 offset) s = lacks s rs1
is_by_unknown (does.Load kind rd rs1 offset) s = lacks s rs1
is_by_unknown (does.StoreDouble rs2 rs1 offset) s = lacks s rs1
is_by_unknown (does.Amo name rd rs2 rs1 offset) s = lacks_for_amo name rd rs1 s
is_by_unknown (does.Fetch rd rs1 offset) s = lacks s rs1
is_by_unknown (does.Csr how csr rd from) s = lacks_operand from s
is_by_unknown (does.ClearSip from) s = lacks_operand from s
is_by_unknown (does.SfenceVma rs1 rs2) s = lacks s rs1 || lacks s rs2
is_by_unknown does.Ecall s = lacks_call s
is_by_unknown instruction s = false

-- ---- guests

abbrev pub unknown_by_turn : LocalTurn → (later : GuestState → Option ℕ) → Option ℕ
unknown_by_turn (Steps s) later = later s
unknown_by_turn (Waits s) later = None
unknown_by_turn (Ends s) later = None

abbrev pub unknown_at : Listing → Option Instruction → GuestState → (later : GuestState → Option ℕ) → Option ℕ
unknown_at code None s later = None
unknown_at code (Some instruction) s later =
    if is_by_unknown instruction s then Some s.pc else unknown_by_turn (local_turn code.spaces instruction s) later

-- the address of the first such instruction from a state on, among at most n
abbrev pub first_unknown : Listing → (n : ℕ) → GuestState → Option ℕ
first_unknown code zero s = None
first_unknown code (suc n) s = unknown_at code (code.instruction s.pc) s (first_unknown code n)

-- The address of the first instruction from a state on that an unknown value decides, up to the next operation, which counts.
abbrev pub first_unknown_from : Listing → GuestState → Option ℕ
first_unknown_from code s = first_unknown code most_steps s

abbrev pub unknown_behind : Listing → Behind → Option ℕ
unknown_behind code (GoesOn s) = first_unknown_from code s
unknown_behind code behind = None

abbrev pub unknown_passed : Listing → Option Instruction → GuestState → Reply → Option ℕ
unknown_passed code None s reply = None
unknown_passed code (Some instruction) s reply = unknown_behind code (reply_taken code.spaces instruction s reply)

-- The address of the first instruction behind a guest's operation with this reply that an unknown value decides, up to its next
-- operation, which counts.
abbrev pub unknown_after : Listing → AsmGuest → Reply → Option ℕ
unknown_after code (Before s) reply = unknown_passed code (code.instruction s.pc) s reply
unknown_after code (Trapping s) reply = first_unknown_from code (trap_taken s)
unknown_after code guest reply = None
