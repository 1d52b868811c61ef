use Rattle.std.proofs.Common.{sym, ap, ◌∙◌}
use Rattle.asm_guests.specs.declared.guest.AsmGuest.{AsmGuest}
use Rattle.asm_guests.specs.Guests.{most_steps}
use Rattle.asm_guests.specs.Unknowns.{first_unknown, unknown_after}
use Rattle.asm_guests.proofs.unknowns.unknown_after.Goals as goal

pub returns-in-Trapping : goal.returns-in-Trapping
unfolding most_steps
returns-in-Trapping g c =
    let code = g.C.Code.listing c.args.code.now in
    c.first_unknown.ensures
    ∙ ap (first_unknown code most_steps) c.take_trap.ensures
    ∙ ap (λ (guest : AsmGuest). unknown_after code guest c.args.reply) (sym c.in-Trapping.is)
