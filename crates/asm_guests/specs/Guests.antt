-- What guests of instructions do: the next operation, and the state behind its reply (profile).
use Rattle.std.specs.Prelude.{ℕ, zero, suc, false, if◌then◌else◌, List, [], ◌∷◌, Option, Some, None}
use Rattle.board_terms.specs.declared.op.Op.{Op}
use Rattle.board_terms.specs.declared.op.Op.TheVariants.{WriteSstatusSie}
use Rattle.board_terms.specs.declared.reply.Reply.{Reply}
use Rattle.rv64_instructions.specs.declared.instruction.Instruction.{Instruction}
use Rattle.asm_guests.specs.declared.guest.Lost.TheVariants.{NoInstruction, Endless}
use Rattle.asm_guests.specs.Listings.{Listing}
use Rattle.asm_guests.specs.Local.{LocalTurn, local_turn}
use Rattle.asm_guests.specs.Local.LocalTurn.{Ends, Steps, Waits}
use Rattle.asm_guests.specs.Operations.{op_by}
use Rattle.asm_guests.specs.Replies.{Behind, reply_taken, trap_taken}
use Rattle.asm_guests.specs.Replies.Behind.{GoesOn, Leaves, Strays, Traps}
use Rattle.asm_guests.specs.declared.guest.AsmGuest.{AsmGuest}
use Rattle.asm_guests.specs.declared.guest.AsmGuest.TheVariants.{Nowhere, Before, Trapping, Through, Astray}
use Rattle.asm_guests.specs.declared.state.GuestState.{GuestState}
use Rattle.asm_guests.specs.States.{entered, none_known}

-- The most local steps without an operation.
unfoldable pub most_steps : ℕ
most_steps = 100000

-- ---- ends

-- through, in this state, whose registers are kept if the program's guests keep them
abbrev pub at_end : Listing → GuestState → AsmGuest
at_end code s = Through (if code.keeps then s.registers else none_known)

-- ---- local steps are done at once

abbrev pub by_turn : Listing → LocalTurn → (later : GuestState → AsmGuest) → AsmGuest
by_turn code (Steps s) later = later s
by_turn code (Waits s) later = Before s
by_turn code (Ends s) later = at_end code s

-- without an instruction a guest is through at the end of a section, and lost anywhere else
abbrev pub without_instruction : Listing → GuestState → AsmGuest
without_instruction code s = if code.is_end s.pc then at_end code s else Astray NoInstruction s.pc

abbrev pub fetched : Listing → Option Instruction → GuestState → (later : GuestState → AsmGuest) → AsmGuest
fetched code None s later = without_instruction code s
fetched code (Some instruction) s later = by_turn code (local_turn code.spaces instruction s) later

-- The guest from a state on, if it does at most n local steps before an operation or its end.
abbrev pub settled : Listing → (n : ℕ) → GuestState → AsmGuest
settled code zero s = Astray Endless s.pc
settled code (suc n) s = fetched code (code.instruction s.pc) s (settled code n)

abbrev pub settled_from : Listing → GuestState → AsmGuest
settled_from code s = settled code most_steps s

-- ---- operations

abbrev pub instruction_op : Option Instruction → GuestState → Option Op
instruction_op None s = None
instruction_op (Some instruction) s = op_by instruction s

-- The next operation of a guest: that of its instruction, or the one that clears sstatus.SIE for its trap.
abbrev pub next_by : Listing → AsmGuest → Option Op
next_by code Nowhere = None
next_by code (Before s) = instruction_op (code.instruction s.pc) s
next_by code (Trapping s) = Some (WriteSstatusSie false)
next_by code (Through registers) = None
next_by code (Astray lost at) = None

abbrev pub went : Listing → (at : ℕ) → Behind → AsmGuest
went code at (GoesOn s) = settled_from code s
went code at (Traps s) = Trapping s
went code at Leaves = Through none_known
went code at (Strays lost) = Astray lost at

abbrev pub after_instruction : Listing → Option Instruction → GuestState → Reply → AsmGuest
after_instruction code None s reply = Astray NoInstruction s.pc
after_instruction code (Some instruction) s reply = went code s.pc (reply_taken code.spaces instruction s reply)

-- The guest behind an operation with this reply.
abbrev pub guest_after : Listing → AsmGuest → Reply → AsmGuest
guest_after code (Before s) reply = after_instruction code (code.instruction s.pc) s reply
guest_after code (Trapping s) reply = settled_from code (trap_taken s)
guest_after code guest reply = guest

abbrev pub entered_at : Listing → Option Instruction → GuestState → AsmGuest
entered_at code None s = Through none_known
entered_at code (Some instruction) s = settled_from code s

-- The guest at an entry. Where no instruction stands it has nothing to do.
abbrev pub at_entry : Listing → (addr hart opaque : ℕ) → AsmGuest
at_entry code addr hart opaque = entered_at code (code.instruction addr) (entered addr hart opaque)

-- the guest behind these replies, newest first
abbrev pub guest_after_all : Listing → AsmGuest → List Reply → AsmGuest
guest_after_all code guest [] = guest
guest_after_all code guest (reply ∷ before) = guest_after code (guest_after_all code guest before) reply

-- What a guest does next, by its entry and the replies to its operations since, newest first.
abbrev pub next_after : Listing → (addr hart opaque : ℕ) → List Reply → Option Op
next_after code addr hart opaque before = next_by code (guest_after_all code (at_entry code addr hart opaque) before)
