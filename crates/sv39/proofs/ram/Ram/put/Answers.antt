use Rattle.std.proofs.Common.{◌*◌, ◌<◌, ◌/◌, ap, length, set, subst, sym, ◌∙◌, arith, rules}
use Rattle.std.proofs.lemmas.List.{length-set}
use Rattle.sv39.specs.Inside.Lines.{AreMarked}
use Rattle.sv39.proofs.Marks.{length-marked, marked-set}
use Rattle.sv39.proofs.ram.Ram.put.Goals as goal

pub index_mut-requires : goal.index_mut-requires
index_mut-requires c = omega (arith, ap length c.self.view_is, c.requires)

pub mark-requires : goal.mark-requires
mark-requires c = omega (arith, ap length c.self.view_is, c.requires, c.self.invariant.2)

pub invariant_of-self : goal.invariant_of-self
invariant_of-self c =
    let words = c.self.inside.words.items in
    let marks = c.self.inside.marks.items in
    let place = c.args.place in
    let row : place / 8 / 64 < length marks = omega (arith, ap length c.self.view_is, c.requires, c.self.invariant.2) in (
      search rules,
      c.self.invariant.1,
      length-set words place c.args.value ∙ c.self.invariant.2 ∙ ap (λ n. 512 * n) (sym (ap length c.mark.ensures ∙ length-marked marks (place / 8))),
      subst (AreMarked (set words place c.args.value)) (sym c.mark.ensures) (marked-set words marks place c.args.value row c.self.invariant.3),
    )
