use Rattle.std.proofs.Common.{[], length, replicate, sym, ap, ◌∙◌}
use Rattle.rfence.specs.Inside.ByCaller.{queues_by}
use Rattle.rfence.proofs.ByCaller.{emptied-by, length-by}
use Rattle.rfence.proofs.pending.Pending.clear.Goals as goal

pub returns : goal.returns
returns g c =
    ap (queues_by c.self.inside.fences.items c.self.inside.idle) c.clear.ensures
    ∙ emptied-by c.self.inside.fences.items c.self.inside.idle (length c.self.inside.callers)
    ∙ ap (λ n. replicate n []) (sym (length-by c.self.inside.fences.items c.self.inside.idle c.self.inside.callers) ∙ ap length c.self.view_is)
