use Rattle.std.specs.Prelude.{◌≡◌, ℕ, ◌+◌, List, ◌++◌, take, string_bytes}
use Rattle.test_report.specs.declared.page.Style.TheVariants.{Tap}
use Rattle.test_report.specs.Lines.{AreNumbered}
use Rattle.test_report.proofs.page.Page.put_points.Given as goal

abbrev pub invariant-loop-point : goal.invariant-loop-point
invariant-loop-point l =
    (l.self.style ≡ l.fn.self.style) × (l.self.points ≡ l.fn.self.points + l.point-index)
    × ((added : List ℕ) × (string_bytes l.self.text ≡ string_bytes l.fn.self.text ++ added)
    × (l.fn.self.style ≡ Tap → AreNumbered l.fn.self.points (take l.point-index l.points) added))
