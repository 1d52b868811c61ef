use Rattle.std.proofs.Common.{ap, sym, ◌∙◌}
use Rattle.guest_programs.specs.Guests.{is_guest}
use Rattle.outcome_statistics.specs.Visits.{entry_at}
use Rattle.outcome_statistics.proofs.Visiting.{spot-done, spot-entered, spot-still}
use Rattle.outcome_statistics.proofs.visits.guest_after.Goals as goal

pub returns-in-Some : goal.returns-in-Some
returns-in-Some c past h mine at = spot-entered past h c.args.event.now mine c.in-Some.addr (ap entry_at (sym c.reply.ensures) ∙ sym c.entry_at.ensures ∙ c.in-Some.is)

pub returns-then-is_guest : goal.returns-then-is_guest
returns-then-is_guest c past h mine at =
    c.behind.ensures ∙ spot-done past h c.args.event.now mine c.args.guest (ap entry_at (sym c.reply.ensures) ∙ sym c.entry_at.ensures ∙ c.in-None.is)
    (ap is_guest (sym c.op.ensures) ∙ sym c.is_guest.ensures ∙ c.if-is_guest.true) at

pub returns-else-is_guest : goal.returns-else-is_guest
returns-else-is_guest c past h mine at =
    spot-still past h c.args.event.now mine c.args.guest (ap entry_at (sym c.reply.ensures) ∙ sym c.entry_at.ensures ∙ c.in-None.is)
    (ap is_guest (sym c.op.ensures) ∙ sym c.is_guest.ensures ∙ c.if-is_guest.false) at
