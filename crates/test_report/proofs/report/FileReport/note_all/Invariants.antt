use Rattle.std.specs.Prelude.{◌≡◌}
use Rattle.test_report.specs.Statuses.{extents, verdicts}
use Rattle.test_report.proofs.report.FileReport.note_all.Given as goal

abbrev pub invariant-loop-note : goal.invariant-loop-note
invariant-loop-note l =
    (verdicts l.self ≡ verdicts l.fn.self) × (extents l.self ≡ extents l.fn.self) × (l.self.is_cut ≡ l.fn.self.is_cut)
