-- One local step more.
use Rattle.std.proofs.Common.{◌≡◌, ℕ, zero, suc, ◌-◌, ◌<◌, ap, arith}
use Rattle.asm_guests.specs.declared.state.GuestState.{GuestState}
use Rattle.asm_guests.specs.Guests.{fetched, settled}
use Rattle.asm_guests.specs.Listings.{Listing}
use Rattle.asm_guests.specs.Unknowns.{first_unknown, unknown_at}

pub settled_more : (code : Listing) (n : ℕ) (s : GuestState) → 0 < n → settled code n s ≡ fetched code (code.instruction s.pc) s (settled code (n - 1))
settled_more code zero s some = absurd (omega arith)
settled_more code (suc n) s some =
    let less : n ≡ suc n - 1 = omega arith in
    ap (λ k. fetched code (code.instruction s.pc) s (settled code k)) less

pub unknown_more : (code : Listing) (n : ℕ) (s : GuestState) → 0 < n
    → first_unknown code n s ≡ unknown_at code (code.instruction s.pc) s (first_unknown code (n - 1))
unknown_more code zero s some = absurd (omega arith)
unknown_more code (suc n) s some =
    let less : n ≡ suc n - 1 = omega arith in
    ap (λ k. unknown_at code (code.instruction s.pc) s (first_unknown code k)) less
