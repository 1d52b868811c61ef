use Rattle.std.proofs.Common.{ap, ◌∙◌}
use Rattle.rfence.specs.Inside.ByCaller.{queues_by}
use Rattle.rfence.proofs.ByCaller.{emptied-by}
use Rattle.rfence.proofs.pending.Pending.new.Goals as goal

pub returns : goal.returns
returns g c = ap (queues_by _ c.args.idle) c.in_ok-callers.ensures ∙ emptied-by _ c.args.idle c.args.harts
