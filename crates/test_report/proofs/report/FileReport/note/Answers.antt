use Rattle.std.proofs.Common.{◌-◌, ap}
use Rattle.std.proofs.Math.Seq.{map-set_same}
use Rattle.test_report.specs.declared.point.Point.{Point}
use Rattle.test_report.proofs.report.FileReport.note.Goals as goal

pub returns-in_err-push-2-clause-same : goal.returns-in_err-push-2-clause-same
returns-in_err-push-2-clause-same c =
    map-set_same (λ (p : Point). p.verdict) c.args.self.now.points.items (c.len-many.result - 1) _ c.index_mut.result.now (ap (λ (p : Point). p.verdict) c.index_mut.ensures.value)

pub returns-in_ok-push-2-clause-same : goal.returns-in_ok-push-2-clause-same
returns-in_ok-push-2-clause-same c =
    map-set_same (λ (p : Point). p.verdict) c.args.self.now.points.items (c.len-many.result - 1) _ c.index_mut.result.now (ap (λ (p : Point). p.verdict) c.index_mut.ensures.value)

pub returns-in_err-push-2-clause-reached : goal.returns-in_err-push-2-clause-reached
returns-in_err-push-2-clause-reached c =
    map-set_same (λ (p : Point). p.reach) c.args.self.now.points.items (c.len-many.result - 1) _ c.index_mut.result.now (ap (λ (p : Point). p.reach) c.index_mut.ensures.value)

pub returns-in_ok-push-2-clause-reached : goal.returns-in_ok-push-2-clause-reached
returns-in_ok-push-2-clause-reached c =
    map-set_same (λ (p : Point). p.reach) c.args.self.now.points.items (c.len-many.result - 1) _ c.index_mut.result.now (ap (λ (p : Point). p.reach) c.index_mut.ensures.value)
