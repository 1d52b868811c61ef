use Rattle.std.proofs.Common.{◌≡◌, ℕ, ◌<◌}
use Rattle.std.specs.Prelude.{Option, Some, slice_get}
use Rattle.condition_script.specs.declared.items.Item.{Item}
use Rattle.conditions.specs.Items.{step_items}
use Rattle.conditions.specs.Patterns.{FitsWord}
use Rattle.conditions.proofs.patterns.fits_step.Given as goal

abbrev pub invariant-loop-place : goal.invariant-loop-place
invariant-loop-place l = (k : ℕ) → k < l.place → (wanted : Option Item) → slice_get l.p.step.items k ≡ Some wanted → FitsWord wanted (slice_get (step_items l.event) k)
