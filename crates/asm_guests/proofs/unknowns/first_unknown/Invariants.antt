use Rattle.std.proofs.Common.{◌≡◌}
use Rattle.asm_guests.specs.Unknowns.{first_unknown}
use Rattle.asm_guests.proofs.unknowns.first_unknown.Given as goal

abbrev pub invariant-steps : goal.invariant-steps
invariant-steps g l =
    first_unknown (g.C.Code.listing l.code) l.left l.state ≡ first_unknown (g.C.Code.listing l.code) l.most l.fn.from

abbrev pub decreases-steps : goal.decreases-steps
decreases-steps g l = l.left
