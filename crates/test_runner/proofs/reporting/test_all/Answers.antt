use Rattle.std.proofs.Common.{List, ℕ, refl}
use Rattle.std.specs.Prelude.{Option}
use Rattle.test_report.specs.declared.report.Report.{Report}
use Rattle.test_runner.proofs.Printing.{ended}
use Rattle.test_runner.proofs.reporting.test_all.Goals as goal

pub returns : goal.returns
returns g c =
    let report : Report = record { mode = c.args.options.now.mode; files = c.in_ok-tested.field-0 } in
    let start : Option (List ℕ) = g.W.Write.contents c.args.out.now in
    let told : Option (List ℕ) = g.W.Write.contents c.tested.new.out in
    let after : Option (List ℕ) = g.W.Write.contents c.end.new.out in record {
      report = report;
      are = c.in_ok-tested.ensures.reports;
      mode = refl;
      holds = c.status.ensures.holds;
      fails = c.status.ensures.fails;
      told = (λ asked.
          let so_far = c.in_ok-tested.ensures.told (c.in_ok-output.ensures asked) in
          ended c.tested.new.output.shown report.files.items start told after so_far (c.in_ok-end.ensures so_far.tap));
    }
