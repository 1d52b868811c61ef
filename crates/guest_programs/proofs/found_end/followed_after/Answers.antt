use Rattle.std.proofs.Common.{◌∷◌, ap, sym, subst, ◌∙◌}
use Rattle.board_terms.specs.declared.op.Op.{Op}
use Rattle.board_terms.specs.declared.reply.Reply.{Reply}
use Rattle.guest_programs.specs.Guests.{did, is_guest, last_entry}
use Rattle.guest_programs.specs.Places.{IsFollowedTo}
use Rattle.guest_programs.proofs.Following.{followed-entry, followed-one}
use Rattle.guest_programs.proofs.found_end.followed_after.Goals as goal

pub returns-in-Entry : goal.returns-in-Entry
returns-in-Entry g c past h e by asked answered is =
    followed-entry (g.G.Guests.next c.args.guests.now) past h e by (g.G.Guests.rest c.args.guests.now) c.entered.result c.in-Entry.addr c.in-Entry.hart c.in-Entry.opaque (answered ∙ c.in-Entry.is)
    c.entered.ensures

pub returns-then-is_guest : goal.returns-then-is_guest
returns-then-is_guest g c past h e by asked answered is =
    let guests = g.G.Guests.next c.args.guests.now in
    let rest = g.G.Guests.rest c.args.guests.now in
    followed-one guests past h e by rest c.followed_behind.result (ap is_guest asked ∙ sym c.is_guest.ensures ∙ c.if-is_guest.true)
    (λ addr hart opaque entry. c.in_default.not-Entry addr hart opaque (sym answered ∙ entry))
    (subst (λ (one : Op × Reply). IsFollowedTo rest guests (last_entry past h) (one ∷ did past h) c.followed_behind.result) (λ i. (sym asked i, sym answered i))
    (c.followed_behind.ensures (last_entry past h) (did past h) is))
