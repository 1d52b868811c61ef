use Rattle.std.proofs.Common.{◌≡◌, length, sym, ap, ◌∙◌}
use Rattle.rfence.specs.State.{State}
use Rattle.rfence.proofs.Copies.{same-lengths}
use Rattle.rfence.proofs.fences.Fences.copy_from.Goals as goal

pub copy_from-requires : goal.copy_from-requires
copy_from-requires g c =
    let calls = ap (λ (f : State g.row.F.Denot). length f.calls) c.self.view_is ∙ c.requires ∙ sym (ap (λ (f : State g.row.F.Denot). length f.calls) c.from.view_is) in
    (same-lengths _ _ c.self.invariant c.from.invariant calls).0
