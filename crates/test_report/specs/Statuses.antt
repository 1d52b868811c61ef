-- What is found of all points together: nothing that wasn't judged is a success (profile).
use Rattle.std.specs.Prelude.{◌≡◌, ◌≢◌, ◌⊎◌, ℕ, List, [], map, slice_get, Some, true}
use Rattle.test_report.specs.declared.point.Point.{Point}
use Rattle.test_report.specs.declared.report.FileReport.{FileReport}
use Rattle.test_report.specs.declared.report.Mode.TheVariants.{Test}
use Rattle.test_report.specs.declared.report.Report.{Report}
use Rattle.test_report.specs.declared.verdict.Extent.{Extent}
use Rattle.test_report.specs.declared.verdict.Verdict.{Verdict}
use Rattle.test_report.specs.declared.verdict.Verdict.TheVariants.{Holds, Fails, Vacuous, NoEnd, Misfit, NotJudged}

-- something is wrong: it doesn't hold, says nothing, or can't be meant
abbrev pub IsFailing : Verdict → Type 0
IsFailing Holds = ⊥
IsFailing Fails = Unit {0}
IsFailing (Vacuous missing) = Unit {0}
IsFailing NoEnd = Unit {0}
IsFailing (Misfit misfit) = Unit {0}
IsFailing (NotJudged why) = ⊥

-- One of these points fails.
abbrev pub HasFailing : List Point → Type 0
HasFailing points = (k : ℕ) × (point : Point) × (slice_get points k ≡ Some point) × IsFailing point.verdict

-- Some file has a point that fails: its verdict is Fails, Vacuous, NoEnd or Misfit.
abbrev pub SomeFails : List FileReport → Type 0
SomeFails files = (k : ℕ) × (file : FileReport) × (slice_get files k ≡ Some file) × HasFailing file.points.items

-- There are points, and each holds.
pub record EachPointHolds (points : List Point) : Type 0 where
  pub some : points ≢ []
  pub each : (k : ℕ) (point : Point) → slice_get points k ≡ Some point → point.verdict ≡ Holds

-- Each file has points, and each of them holds.
abbrev pub EachHolds : List FileReport → Type 0
EachHolds files = (k : ℕ) (file : FileReport) → slice_get files k ≡ Some file → EachPointHolds file.points.items

-- The verdicts on a file's points, in order.
abbrev pub verdicts : FileReport → List Verdict
verdicts file = map (λ point. point.verdict) file.points.items

-- How far `test` looked for each point of a file, in order.
abbrev pub extents : FileReport → List Extent
extents file = map (λ point. point.reach) file.points.items

-- Of some file not all was tried or seen that was asked for.
abbrev pub SomeIsCut : List FileReport → Type 0
SomeIsCut files = (k : ℕ) × (file : FileReport) × (slice_get files k ≡ Some file) × (file.is_cut ≡ true)

-- If all orders were asked for (`explore`), no file was cut short.
abbrev pub IsWhole : Report → Type 0
IsWhole report = (report.mode ≡ Test) ⊎ ¬ SomeIsCut report.files.items
