-- The step that a word picks.
use Rattle.std.proofs.Common.{◌≡◌, ℕ, ◌%◌, ◌<◌, arith, List, [], ◌∷◌, refl, length}
use Rattle.std.specs.Prelude.{None, slice_get}
use Rattle.guest_programs.specs.declared.steps.Step.{Step}
use Rattle.seeded_orders.specs.Orders.{picked}

pub picked_none : (word : ℕ) (steps : List Step) → length steps ≡ 0 → None ≡ picked word steps
picked_none word [] none = refl
picked_none word (step ∷ more) none = absurd (let t = none in omega arith)

pub picked_some : (word : ℕ) (steps : List Step) → 0 < length steps → slice_get steps (word % length steps) ≡ picked word steps
picked_some word [] some = absurd (let t = some in omega arith)
picked_some word (step ∷ more) some = refl
