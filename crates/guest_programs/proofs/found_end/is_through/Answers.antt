use Rattle.std.proofs.Common.{subst}
use Rattle.guest_programs.specs.Places.{IsFollowedTo}
use Rattle.guest_programs.proofs.Following.{through-to}
use Rattle.guest_programs.proofs.Quiet.{none-told}
use Rattle.guest_programs.proofs.found_end.is_through.Goals as goal

pub returns-in-To : goal.returns-in-To
returns-in-To g c entry before at =
    let guests = g.G.Guests.next c.args.guests.now in
    let rest = g.G.Guests.rest c.args.guests.now in
    let told = none-told c.op_at.result _ c.is_none.result c.is_none.ensures c.op_at.ensures in
    let through = through-to rest guests entry before c.in-To.place (subst (IsFollowedTo rest guests entry before) c.in-To.is at) in
    ((λ yes. through.0 (told.0 yes)), (λ both. told.1 (through.1 both)))
