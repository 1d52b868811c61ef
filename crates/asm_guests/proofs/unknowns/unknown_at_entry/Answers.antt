use Rattle.std.proofs.Common.{ap, ◌∙◌}
use Rattle.asm_guests.specs.Guests.{most_steps}
use Rattle.asm_guests.specs.Unknowns.{first_unknown}
use Rattle.asm_guests.proofs.unknowns.unknown_at_entry.Goals as goal

pub returns : goal.returns
unfolding most_steps
returns g c =
    let code = g.C.Code.listing c.args.code.now in
    c.first_unknown.ensures ∙ ap (first_unknown code most_steps) c.entered.ensures
