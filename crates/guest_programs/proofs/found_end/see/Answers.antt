use Rattle.std.proofs.Common.{sym, subst, ◌∙◌}
use Rattle.guest_programs.specs.Places.{IsFollowed}
use Rattle.guest_programs.proofs.Following.{see-all}
use Rattle.guest_programs.proofs.found_end.see.Goals as goal

pub returns-then-h-found-clause-followed : goal.returns-then-h-found-clause-followed
returns-then-h-found-clause-followed g c past all =
    let rest = g.G.Guests.rest c.args.guests.now in
    let guests = g.G.Guests.next c.args.guests.now in
    let by = sym c.actor.ensures ∙ c.in-Hart.is in
    see-all rest guests c.args.found.now past c.args.event.now c.in-Hart.h c.index-found-h.result c.followed_after.result by c.if-h-found.true
    (λ at. c.followed_after.ensures past c.in-Hart.h c.args.event.now by (sym c.op.ensures) (sym c.reply.ensures)
    (subst (λ found. IsFollowed rest guests past c.in-Hart.h found) (sym c.index-found-h.is) at)) all
