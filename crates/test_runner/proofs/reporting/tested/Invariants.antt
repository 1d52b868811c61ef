use Rattle.std.specs.Prelude.{◌≡◌, ℕ, List, Some, length, map, slice_get}
use Rattle.test_report.specs.declared.report.FileReport.{FileReport}
use Rattle.test_runner.specs.Inside.Telling.{IsBegun, TellsFiles}
use Rattle.test_runner.specs.Reporting.{IsReportOf}
use Rattle.test_runner.proofs.reporting.tested.Given as goal

-- the files so far have their reports, and their text was told
abbrev pub invariant-loop-place : goal.invariant-loop-place
invariant-loop-place g l =
    (length l.files.items ≡ l.place)
    × ((k : ℕ) (name : List ℕ) (file : FileReport) → slice_get (map (λ named. named.now) l.options.files.items) k ≡ Some name
    → slice_get l.files.items k ≡ Some file → IsReportOf (g.T.Texts.bytes l.texts name) l.options file)
    × (IsBegun l.fn.output.shown
    → TellsFiles l.output.shown l.files.items (g.W.Write.contents l.fn.out) (g.W.Write.contents l.out))
