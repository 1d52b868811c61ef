use Rattle.std.proofs.Common.{◌≡◌, true, refl, arith}
use Rattle.test_report.specs.declared.report.FileReport.{FileReport}
use Rattle.test_report.proofs.Lists.{each-keep, each-whole, some-here}
use Rattle.test_report.proofs.status.some_is_cut.Goals as goal

pub returns-then-file : goal.returns-then-file
returns-then-file c = (
  (λ good. some-here (λ (x : FileReport). x.is_cut ≡ true) c.args.files.now c.loop-file.file-index c.file-item.result (let below = c.loop-file-test.true in omega arith)
      c.file-item.is c.if-file.true),
  (λ has. refl),
)

pub loop-file-preserved : goal.loop-file-preserved
loop-file-preserved c =
    each-keep (λ (x : FileReport). ¬ (x.is_cut ≡ true)) c.args.files.now c.loop-file.file-index c.file-item.result c.file-item.is
    (λ yes. absurd (let no = c.if-file.false in cc)) c.loop-file.invariant

pub returns : goal.returns
returns c = (
  (λ bad. absurd (let t = bad in cc)),
  (λ has. absurd (each-whole (λ (x : FileReport). ¬ (x.is_cut ≡ true)) c.args.files.now c.loop-file.file-index (let over = c.loop-file-test.false in omega arith)
      c.loop-file.invariant has.0 has.1 has.2 has.3)),
)
