use Rattle.std.proofs.Common.{ap, ◌∙◌}
use Rattle.fence_queue.specs.Queues.{drained}
use Rattle.rfence.specs.Inside.ByCaller.{queues_by}
use Rattle.rfence.proofs.ByCaller.{drained-by}
use Rattle.rfence.proofs.pending.Pending.drain.Goals as goal

pub returns : goal.returns
returns g c =
    ap (queues_by c.self.inside.fences.items c.self.inside.idle) c.drain.ensures
    ∙ drained-by c.self.inside.fences.items c.self.inside.idle c.self.inside.callers c.args.t
    ∙ ap (λ queues. drained queues c.args.t) c.self.view_is
