use Rattle.std.proofs.Common.{sym, ap, ◌∙◌}
use Rattle.std.specs.List.{insert}
use Rattle.std.proofs.lemmas.List.Edits.{insert_end}
use Rattle.interrupts.proofs.ahead.put.Goals as goal

pub returns-then-place-len : goal.returns-then-place-len
returns-then-place-len c =
    let members = c.args.members.now.items in
    c.push.ensures.items ∙ sym (insert_end members c.args.member) ∙ ap (λ place. insert members place c.args.member) (sym (c.if-place-len.true ∙ c.len.ensures.value))
