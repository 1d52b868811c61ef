use Rattle.std.proofs.Common.{◌≡◌, List, true, refl, subst, arith}
use Rattle.std.specs.Prelude.{◌↔◌}
use Rattle.test_report.specs.declared.point.Point.{Point}
use Rattle.test_report.specs.declared.report.FileReport.{FileReport}
use Rattle.test_report.specs.Statuses.{HasFailing}
use Rattle.test_report.proofs.Lists.{each-keep, each-whole, some-here}
use Rattle.test_report.proofs.status.some_fails.Goals as goal

pub returns-then-has_failing : goal.returns-then-has_failing
returns-then-has_failing c =
    let Q : List Point → Type 0 = λ ps. (c.has_failing.result ≡ true) ↔ HasFailing ps in
    let tells = subst Q c.deref.ensures.value c.has_failing.ensures in (
      (λ good. some-here (λ (x : FileReport). HasFailing x.points.items) c.args.files.now c.loop-file.file-index c.file-item.result (let below = c.loop-file-test.true in omega arith)
          c.file-item.is (tells.0 c.if-has_failing.true)),
      (λ has. refl),
    )

pub loop-file-preserved : goal.loop-file-preserved
loop-file-preserved c =
    let Q : List Point → Type 0 = λ ps. (c.has_failing.result ≡ true) ↔ HasFailing ps in
    let tells = subst Q c.deref.ensures.value c.has_failing.ensures in
    each-keep (λ (x : FileReport). ¬ HasFailing x.points.items) c.args.files.now c.loop-file.file-index c.file-item.result c.file-item.is
    (λ fails. absurd (let yes = tells.1 fails in let no = c.if-has_failing.false in cc)) c.loop-file.invariant

pub returns : goal.returns
returns c = (
  (λ bad. absurd (let t = bad in cc)),
  (λ has. absurd (each-whole (λ (x : FileReport). ¬ HasFailing x.points.items) c.args.files.now c.loop-file.file-index (let over = c.loop-file-test.false in omega arith)
      c.loop-file.invariant has.0 has.1 has.2 has.3)),
)
