-- What the reply to an operation makes of a guest (SBI 3; Privileged 3.3.2, 4.1.1, 4.1.7).
use Rattle.std.specs.Prelude.{ℕ, ◌-◌, ◌%◌, true, false, if◌then◌else◌, Option, Some, None}
use Rattle.std.specs.Int.{cast_unsigned, w64}
use Rattle.sv39.specs.Causes.{cause_number}
use Rattle.sv39.specs.declared.paging.Spaces.{Spaces}
use Rattle.board_terms.specs.declared.reply.Reply.{Reply}
use Rattle.board_terms.specs.declared.reply.Reply.TheVariants as replies
use Rattle.rv64_alu.specs.Immediates.{immediate}
use Rattle.rv64_alu.specs.Loads.{loaded}
use Rattle.rv64_instructions.specs.declared.instruction.Instruction.{Instruction}
use Rattle.rv64_instructions.specs.declared.instruction.Instruction.TheVariants as does
use Rattle.asm_guests.specs.declared.guest.Lost.{Lost}
use Rattle.asm_guests.specs.declared.guest.Lost.TheVariants.{NoHandler, UserMode}
use Rattle.asm_guests.specs.declared.csrs.GuestCsrs.{GuestCsrs}
use Rattle.asm_guests.specs.declared.replies.Came.{Came}
use Rattle.asm_guests.specs.declared.replies.Came.TheVariants as came_as
use Rattle.asm_guests.specs.declared.state.GuestState.{GuestState}
use Rattle.asm_guests.specs.Csrs.{csr_done}
use Rattle.asm_guests.specs.Local.{address, puts}
use Rattle.asm_guests.specs.States.{passed, goes_to, known, with_register}

-- a guest passed an operation: it goes on; its trap is taken once sstatus.SIE is 0; it is through; or it is lost
pub data Behind : Type 0 where
  GoesOn : GuestState → Behind
  Traps : GuestState → Behind
  Leaves : Behind
  Strays : Lost → Behind

-- how a guest came on, with the state passed it
abbrev pub came : Came → GuestState → Behind
came came_as.GoesOn s = GoesOn s
came came_as.Traps s = Traps s
came came_as.Leaves s = Leaves
came (came_as.Strays lost) s = Strays lost

-- the state with what a call returns, in a0 and a1 (SBI 3, Binary Encoding)
abbrev pub returned : (error value : ℕ) → GuestState → GuestState
returned error value s = passed (with_register (with_register s 10 (known error)) 11 (known value))

-- ---- traps (Privileged 3.3, 4.1.1)

-- the CSRs passed a trap; SIE goes to 0 by an operation of its own
abbrev pub trapped_csrs : (cause value pc : ℕ) → GuestCsrs → GuestCsrs
trapped_csrs cause value pc csrs = record csrs {
  interrupts_before = csrs.interrupts;
  from_supervisor = true;
  sepc = pc;
  scause = cause;
  stval = value;
}

-- at the handler; the mode of stvec is direct or vectored, and exceptions go to its base (Privileged 4.1.2)
abbrev pub at_handler : GuestState → (stvec : ℕ) → GuestState
at_handler s stvec = goes_to s (stvec - stvec % 4)

abbrev pub trap_by : Option ℕ → (cause value : ℕ) → GuestState → Behind
trap_by None cause value s = Strays NoHandler
trap_by (Some stvec) cause value s =
    let later = at_handler (record s { csrs = trapped_csrs cause value s.pc s.csrs }) stvec in
    if s.csrs.interrupts then Traps later else GoesOn later

-- the state when the operation that clears SIE of a trap is done
abbrev pub trap_taken : GuestState → GuestState
trap_taken s = record s { csrs = record s.csrs { interrupts = false } }

-- SRET: SIE is SPIE, which becomes 1; SPP becomes 0 (Privileged 3.3.2)
abbrev pub sret : GuestState → Behind
sret s =
    if s.csrs.from_supervisor then GoesOn (goes_to (record s {
      csrs = record s.csrs { interrupts = s.csrs.interrupts_before; interrupts_before = true; from_supervisor = false };
    }) s.csrs.sepc)
    else Strays UserMode

-- ---- replies

-- A call: it returns; it waits, and then returns 0 and 0; or it doesn't return.
abbrev pub call_returned : GuestState → Reply → Behind
call_returned s (replies.Ret ret) = GoesOn (returned (cast_unsigned w64 ret.error) ret.value s)
call_returned s replies.Waiting = GoesOn (returned 0 0 s)
call_returned s reply = Leaves

-- The value that was read goes into a register: of a load its part of the word.
abbrev pub value_taken : Instruction → GuestState → (word : ℕ) → Behind
value_taken (does.Load kind rd rs1 offset) s word =
    GoesOn (puts rd (loaded kind (address s rs1 (immediate offset)) word) true s)
value_taken (does.Amo name rd rs2 rs1 offset) s word = GoesOn (puts rd word true s)
value_taken (does.Fetch rd rs1 offset) s word = GoesOn (puts rd word true s)
value_taken (does.ReadSip rd) s word = GoesOn (puts rd word true s)
value_taken instruction s word = GoesOn (passed s)

-- A fault of an access is a trap with its address.
abbrev pub fault_by : Instruction → GuestState → (cause : ℕ) → Behind
fault_by (does.Load kind rd rs1 offset) s cause = trap_by s.csrs.stvec cause (address s rs1 (immediate offset)) s
fault_by (does.StoreDouble rs2 rs1 offset) s cause = trap_by s.csrs.stvec cause (address s rs1 (immediate offset)) s
fault_by (does.Amo name rd rs2 rs1 offset) s cause = trap_by s.csrs.stvec cause (address s rs1 (immediate offset)) s
fault_by (does.Fetch rd rs1 offset) s cause = trap_by s.csrs.stvec cause (address s rs1 (immediate offset)) s
fault_by instruction s cause = GoesOn (passed s)

-- The reply to an access, or to another operation, of which nothing is kept.
abbrev pub access_by : Instruction → GuestState → Reply → Behind
access_by instruction s (replies.Value word) = value_taken instruction s word
access_by instruction s (replies.Fault cause) = fault_by instruction s (cause_number cause)
access_by instruction s reply = GoesOn (passed s)

-- What a reply makes of a guest that did the operation of its instruction.
abbrev pub reply_taken : Spaces → Instruction → GuestState → Reply → Behind
reply_taken spaces does.Ecall s reply = call_returned s reply
reply_taken spaces (does.Csr how csr rd from) s reply = GoesOn (csr_done spaces how csr rd from s)
reply_taken spaces does.Sret s reply = sret s
reply_taken spaces instruction s reply = access_by instruction s reply
