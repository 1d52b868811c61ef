use Rattle.std.proofs.Common.{sym, ap, ◌∙◌}
use Rattle.asm_guests.specs.declared.guest.AsmGuest.{AsmGuest}
use Rattle.asm_guests.specs.Guests.{guest_after, most_steps, settled}
use Rattle.asm_guests.proofs.guest.guest_after.Goals as goal

pub returns-in-Trapping : goal.returns-in-Trapping
unfolding most_steps
returns-in-Trapping g c =
    let code = g.C.Code.listing c.args.code.now in
    c.settle.ensures
    ∙ ap (settled code most_steps) c.take_trap.ensures
    ∙ ap (λ (guest : AsmGuest). guest_after code guest c.args.reply) (sym c.in-Trapping.is)
