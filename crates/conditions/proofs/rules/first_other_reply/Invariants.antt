use Rattle.std.proofs.Common.{◌≡◌, ℕ, ◌<◌}
use Rattle.std.specs.Prelude.{Some, slice_get}
use Rattle.board_core.specs.History.{Event}
use Rattle.conditions.specs.Patterns.{FitsReply, FitsStep}
use Rattle.conditions.proofs.rules.first_other_reply.Given as goal

abbrev pub invariant-loop-k : goal.invariant-loop-k
invariant-loop-k l = (j : ℕ) → j < l.k → (e : Event) → slice_get l.events j ≡ Some e → FitsStep l.p e → FitsReply l.p e
