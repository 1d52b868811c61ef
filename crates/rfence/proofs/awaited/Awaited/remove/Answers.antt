use Rattle.std.proofs.Common.{◌-◌, length, ap, ◌∙◌, sym}
use Rattle.rfence.proofs.Awaiting.{without-count}
use Rattle.rfence.proofs.awaited.Awaited.remove.Goals as goal

pub invariant_of-self : goal.invariant_of-self
invariant_of-self c =
    let ids = c.self.inside.harts in
    ap (λ n. n - c.from.result) c.self.invariant
    ∙ ap (λ n. length ids - n) c.from.ensures
    ∙ without-count ids c.args.t c.requires c.contains-is_there.ensures.whole c.contains-is_there.result c.contains-is_there.ensures.answer
    ∙ sym (ap length c.remove.ensures)
