use Rattle.std.proofs.Common.{◌≡◌}
use Rattle.asm_guests.specs.Guests.{settled}
use Rattle.asm_guests.proofs.guest.settle.Given as goal

abbrev pub invariant-steps : goal.invariant-steps
invariant-steps g l =
    settled (g.C.Code.listing l.code) l.left l.state ≡ settled (g.C.Code.listing l.code) l.most l.fn.from

abbrev pub decreases-steps : goal.decreases-steps
decreases-steps g l = l.left
