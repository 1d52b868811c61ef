-- What may still be seen.
use Rattle.std.proofs.Common.{◌≡◌, ℕ, Bool, false, List, [], ◌∷◌, inl, inr}
use Rattle.rfence.specs.Applied.{Effect, Nothing}
use Rattle.rfence.specs.Turns.{Turn, Ask, Own, Serve, Poll, Stop, Reset, Quiet}
use Rattle.tlb_model.specs.declared.fence.Flush.{Flush}
use Rattle.board_core.specs.History.{Event}
use Rattle.board_core.specs.Opening.{Opening}
use Rattle.any_tlb.specs.Effects.{MaySee, effect_by}

module _ {A : Type 0} (of : List Event → A) where
  -- what is now may be seen
  pub seen-now : (ordered : Effect Flush → Bool) (o : Opening) (past : List Event) (h : ℕ) (value : A) → of past ≡ value → MaySee of ordered o past h value
  seen-now ordered o [] h value is = is
  seen-now ordered o (event ∷ past) h value is = inl is

  -- what less orders may be seen, where it may be by what orders more
  pub seen-weaker : (more less : Effect Flush → Bool) → ((done : Effect Flush) → more done ≡ false → less done ≡ false) → (o : Opening) (past : List Event) (h : ℕ) (value : A)
      → MaySee of more o past h value → MaySee of less o past h value
  seen-weaker more less weaker o [] h value is = is
  seen-weaker more less weaker o (event ∷ past) h value (inl is) = inl is
  seen-weaker more less weaker o (event ∷ past) h value (inr before) = inr (seen-weaker more less weaker o past h value before.0, weaker _ before.1)

-- what an event's effect leaves of this board's caches, it leaves of any
pub left-by-any : (left : Effect Flush → Bool) → left Nothing ≡ false → (turn : Turn Flush) (done : Effect Flush) → left done ≡ false → left (effect_by turn done) ≡ false
left-by-any left none (Ask x asked flush) done is = is
left-by-any left none (Own x flush) done is = is
left-by-any left none (Serve x) done is = is
left-by-any left none (Poll x) done is = is
left-by-any left none (Stop x) done is = none
left-by-any left none Reset done is = is
left-by-any left none Quiet done is = is
