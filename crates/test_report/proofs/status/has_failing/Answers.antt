use Rattle.std.proofs.Common.{refl, arith}
use Rattle.test_report.specs.declared.point.Point.{Point}
use Rattle.test_report.specs.Statuses.{IsFailing}
use Rattle.test_report.proofs.Lists.{each-keep, each-whole, some-here}
use Rattle.test_report.proofs.status.has_failing.Goals as goal

pub returns-then-is_failing : goal.returns-then-is_failing
returns-then-is_failing c = (
  (λ good. some-here (λ (x : Point). IsFailing x.verdict) c.args.points.now c.loop-point.point-index c.point-item.result (let below = c.loop-point-test.true in omega arith)
      c.point-item.is (c.is_failing.ensures.0 c.if-is_failing.true)),
  (λ has. refl),
)

pub loop-point-preserved : goal.loop-point-preserved
loop-point-preserved c =
    each-keep (λ (x : Point). ¬ IsFailing x.verdict) c.args.points.now c.loop-point.point-index c.point-item.result c.point-item.is
    (λ fails. absurd (let yes = c.is_failing.ensures.1 fails in let no = c.if-is_failing.false in cc)) c.loop-point.invariant

pub returns : goal.returns
returns c = (
  (λ bad. absurd (let t = bad in cc)),
  (λ has. absurd (each-whole (λ (x : Point). ¬ IsFailing x.verdict) c.args.points.now c.loop-point.point-index (let over = c.loop-point-test.false in omega arith)
      c.loop-point.invariant has.0 has.1 has.2 has.3)),
)
