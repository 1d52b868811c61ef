use Rattle.std.proofs.Common.{ap, sym, ◌∙◌, Option}
use Rattle.rv64_instructions.specs.declared.instruction.Instruction.{Instruction}
use Rattle.asm_guests.specs.Guests.{entered_at, most_steps, settled}
use Rattle.asm_guests.specs.States.{entered}
use Rattle.asm_guests.proofs.guest.at_entry.Goals as goal

pub returns-in-Some : goal.returns-in-Some
unfolding most_steps
returns-in-Some g c =
    let code = g.C.Code.listing c.args.code.now in
    c.settle.ensures
    ∙ ap (settled code most_steps) c.entered.ensures
    ∙ ap (λ (found : Option Instruction). entered_at code found (entered c.args.addr c.args.hart c.args.opaque)) (sym c.in-Some.is ∙ c.instruction_at.ensures)
