use Rattle.std.proofs.Common.{length, ap, ◌∙◌, arith}
use Rattle.fence_queue.specs.Queues.{popped}
use Rattle.rfence.specs.Inside.ByCaller.{queues_by}
use Rattle.rfence.proofs.ByCaller.{length-by, popped-by}
use Rattle.rfence.proofs.pending.Pending.pop.Goals as goal

pub returns-clause-after : goal.returns-clause-after
returns-clause-after g c =
    ap (queues_by c.self.inside.fences.items c.self.inside.idle) c.pop.ensures.after
    ∙ popped-by c.self.inside.fences.items c.self.inside.idle c.self.inside.callers c.args.t
    (omega (arith, c.requires, length-by c.self.inside.fences.items c.self.inside.idle c.self.inside.callers, ap length c.self.view_is))
    ∙ ap (λ queues. popped queues c.args.t) c.self.view_is
