use Rattle.std.proofs.Common.{◌≡◌, sym, ap, ◌∙◌, Option}
use Rattle.sv39.specs.declared.paging.Spaces.{Spaces}
use Rattle.rv64_instructions.specs.declared.instruction.Instruction.{Instruction}
use Rattle.asm_guests.specs.Guests.{most_steps}
use Rattle.asm_guests.specs.Replies.{reply_taken}
use Rattle.asm_guests.specs.Unknowns.{unknown_behind, unknown_passed}
use Rattle.asm_guests.proofs.unknowns.unknown_passed.Goals as goal

pub returns-in-GoesOn : goal.returns-in-GoesOn
unfolding most_steps
returns-in-GoesOn g c =
    let code = g.C.Code.listing c.args.code.now in
    let from = c.args.from in
    let instruction = c.in-Some.instruction in
    let widths : reply_taken c.spaces.result instruction from c.args.reply ≡ reply_taken code.spaces instruction from c.args.reply =
    ap (λ (spaces : Spaces). reply_taken spaces instruction from c.args.reply) c.spaces.ensures.widths in
    c.first_unknown.ensures
    ∙ ap (unknown_behind code) (c.in-GoesOn.ensures ∙ widths)
    ∙ ap (λ (found : Option Instruction). unknown_passed code found from c.args.reply) (sym c.in-Some.is ∙ c.instruction_at.ensures)
