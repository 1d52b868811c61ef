use Rattle.std.proofs.Common.{◌≡◌, ap, sym, subst, ◌∙◌}
use Rattle.std.specs.Prelude.{Some}
use Rattle.board_terms.specs.declared.op.Op.{Op}
use Rattle.guest_programs.specs.Places.{IsFollowedTo}
use Rattle.guest_programs.proofs.Following.{followed_next, followed_other, followed_over}
use Rattle.guest_programs.proofs.found_end.followed_behind.Goals as goal

pub returns-in_default-op_at : goal.returns-in_default-op_at
returns-in_default-op_at g c entry before at =
    let guests = g.G.Guests.next c.args.guests.now in
    let rest = g.G.Guests.rest c.args.guests.now in
    followed_over rest guests entry before c.args.op c.args.reply c.in-To.place (subst (IsFollowedTo rest guests entry before) c.in-To.is at)
    (sym c.op_at.ensures ∙ c.in_default-op_at.is)

pub returns-then-not-is_same : goal.returns-then-not-is_same
returns-then-not-is_same g c entry before at =
    let guests = g.G.Guests.next c.args.guests.now in
    let rest = g.G.Guests.rest c.args.guests.now in
    followed_other rest guests entry before c.args.op c.args.reply c.in-To.place c.in-Some.next (subst (IsFollowedTo rest guests entry before) c.in-To.is at)
    (sym c.op_at.ensures ∙ c.in-Some.is) (λ same. let yes = c.is_same.ensures.1 same in let no = c.if-not-is_same.true in cc)

pub returns : goal.returns
returns g c entry before at =
    let guests = g.G.Guests.next c.args.guests.now in
    let rest = g.G.Guests.rest c.args.guests.now in
    let same : c.in-Some.next ≡ c.args.op = c.is_same.ensures.0 c.if-not-is_same.false in
    followed_next rest guests entry before c.args.op c.args.reply c.in-To.place c.behind.result (subst (IsFollowedTo rest guests entry before) c.in-To.is at)
    (sym c.op_at.ensures ∙ c.in-Some.is ∙ ap (λ (op : Op). Some op) same) c.behind.ensures
