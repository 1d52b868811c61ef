-- Guests of instructions as guests of a board (profile).
use Rattle.std.specs.Prelude.{List, map, Option, Some, None, unwrap_or}
use Rattle.board_terms.specs.declared.op.Op.{Op}
use Rattle.board_terms.specs.declared.op.Op.TheVariants.{Poll}
use Rattle.board_terms.specs.declared.reply.Reply.{Reply}
use Rattle.guest_programs.specs.Guests.{Did, Next, Rest}
use Rattle.asm_guests.specs.declared.guest.AsmGuest.{AsmGuest}
use Rattle.asm_guests.specs.declared.guest.AsmGuest.TheVariants.{Nowhere, Before, Trapping, Through, Astray}
use Rattle.asm_guests.specs.Guests.{at_entry, guest_after_all, next_by}
use Rattle.asm_guests.specs.Listings.{Listing}

-- What a guest does next. One that is lost waits for a call that it never made: its hart refuses Poll, and so it doesn't go on.
abbrev pub op_in_code : Listing → AsmGuest → Option Op
op_in_code code Nowhere = None
op_in_code code (Through registers) = None
op_in_code code (Astray lost at) = Some Poll
op_in_code code (Before s) = Some (unwrap_or (next_by code (Before s)) Poll)
op_in_code code (Trapping s) = Some (unwrap_or (next_by code (Trapping s)) Poll)

-- the replies to operations, newest first
abbrev pub replies_of : Did → List Reply
replies_of before = map (λ one. one.1) before

-- What a guest does from a place on, by the replies to its operations since.
abbrev pub rest_in_code : Listing → AsmGuest → Rest
rest_in_code code place = λ more. op_in_code code (guest_after_all code place (replies_of more))

-- What guests of a program do, from their entries on.
abbrev pub next_in_code : Listing → Next
next_in_code code = λ entry. rest_in_code code (at_entry code entry.addr entry.hart entry.opaque)
