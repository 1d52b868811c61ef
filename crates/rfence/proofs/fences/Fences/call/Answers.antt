use Rattle.std.proofs.Common.{◌<◌, length, ap, ◌∙◌, arith}
use Rattle.std.specs.Prelude.{None}
use Rattle.std.proofs.lemmas.List.{get_or_default}
use Rattle.rfence.specs.State.{opened_at}
use Rattle.rfence.proofs.Stands.{length-calls, length-opened}
use Rattle.rfence.proofs.fences.Fences.call.Goals as goal

pub index-requires : goal.index-requires
index-requires g c =
    let kept = c.self.invariant in
    omega (arith, length-opened kept.o kept.n kept.turns _ kept.stands, length-calls kept.o kept.n kept.turns _ kept.stands, ap (λ f. length f.calls) c.self.view_is, c.self.inside.opened.ok.0)

pub returns : goal.returns
returns g c =
    let kept = c.self.invariant in
    let inside : c.args.c < length c.self.inside.opened.items =
    omega (arith, length-opened kept.o kept.n kept.turns _ kept.stands, length-calls kept.o kept.n kept.turns _ kept.stands, ap (λ f. length f.calls) c.self.view_is) in
    c.index.ensures ∙ get_or_default c.self.inside.opened.items c.args.c _ None inside ∙ ap (λ f. opened_at f c.args.c) c.self.view_is
