-- How guests of instructions go on.
use Rattle.std.proofs.Common.{◌≡◌, List, [], ◌∷◌, ◌++◌, None, refl, ap}
use Rattle.board_terms.specs.declared.op.Op.{Op}
use Rattle.board_terms.specs.declared.reply.Reply.{Reply}
use Rattle.guest_programs.specs.Guests.{Did}
use Rattle.asm_guests.specs.declared.guest.AsmGuest.{AsmGuest}
use Rattle.asm_guests.specs.declared.guest.AsmGuest.TheVariants.{Nowhere}
use Rattle.asm_guests.specs.Guests.{guest_after, guest_after_all}
use Rattle.asm_guests.specs.Listings.{Listing}
use Rattle.instruction_guests.specs.Places.{replies_of, rest_in_code, op_in_code}

still : (code : Listing) (more : Did) → guest_after_all code Nowhere (replies_of more) ≡ Nowhere
still code [] = refl
still code (one ∷ more) = ap (λ (guest : AsmGuest). guest_after code guest one.1) (still code more)

-- a hart that wasn't entered does nothing
pub nowhere_stays : (code : Listing) (more : Did) → rest_in_code code Nowhere more ≡ None
nowhere_stays code more = ap (op_in_code code) (still code more)

more-after : (code : Listing) (place : AsmGuest) (op : Op) (reply : Reply) (more : Did)
    → guest_after_all code (guest_after code place reply) (replies_of more) ≡ guest_after_all code place (replies_of (more ++ (op, reply) ∷ []))
more-after code place op reply [] = refl
more-after code place op reply (one ∷ more) =
    ap (λ (guest : AsmGuest). guest_after code guest one.1) (more-after code place op reply more)

-- behind one operation more, a guest does what it does from there on
pub one_more : (code : Listing) (place : AsmGuest) (op : Op) (reply : Reply) (more : Did)
    → rest_in_code code (guest_after code place reply) more ≡ rest_in_code code place (more ++ (op, reply) ∷ [])
one_more code place op reply more = ap (op_in_code code) (more-after code place op reply more)
