-- The headline: what holds of every board, whatever steps were made.
use Rattle.std.specs.Prelude.{ℕ, ◌<◌, List, ◌++◌, length}
use Rattle.tlb_model.specs.declared.fence.Flush.{Flush}
use Rattle.rfence.specs.declared.opened.FenceCall.{FenceCall}
use Rattle.board_core.specs.Opening.{Opening}
use Rattle.board_core.specs.History.{Event}
use Rattle.board_core.specs.Need.{need}
use Rattle.board_core.specs.Replies.{IsLegal}
use Rattle.board_core.specs.Starts.{StartsAreEntered}
use Rattle.board_laws.specs.Fences.{AppliedOnce, OpenedOnce, OpenedReached, Reached}
use Rattle.board_laws.specs.Lives.{NoneLives}
use Rattle.board_core.specs.Serves.{AreFew, CanEnd, GoesOn, HaveServed, ServeIsAccepted}
use Rattle.board_laws.specs.Places.{IsAtPlace}

-- What holds of every board's history, whatever steps were made.
pub record Headline (o : Opening) (past : List Event) : Type 0 where
  -- The kept history follows the written rules: each event has the answer that they give after the opening and the
  -- events before it. (Each look-up of a board is its definition on that history, as the look-up's clause says.)
  pub by_the_rules : IsLegal o past
  -- Since the last reset or, without one, the opening, the starts of a hart, including one pending at the opening, are
  -- its entries and its pending start. Each has its own address and opaque value (SBI 9).
  pub starts_are_entered : StartsAreEntered o past
  -- Each fence asked of a hart was applied there once or waits there once, and no other fence was or does (SBI 8).
  pub applied_once : (t place : ℕ) (event : Event) → IsAtPlace o past place event → AppliedOnce o past t place event
  -- The same for the fence of a call that was open at the opening: it was applied before the opening or since, or waits
  -- (SBI 8).
  pub opened_once : (h t : ℕ) (call : FenceCall Flush) → OpenedOnce o past h t call
  -- No hart that a successful fence asked has anything live in its caches that the fence covers and that was filled
  -- before the fence was asked (SBI 8; Privileged 4.2.1; Zifencei).
  pub fenced_is_gone : (t place : ℕ) (flush : Flush) → Reached o past t place flush → NoneLives o past t place flush
  -- The same for the fence of a call that was open at the opening and has succeeded since (SBI 8; Privileged 4.2.1;
  -- Zifencei).
  pub opened_is_gone : (c t : ℕ) (call : FenceCall Flush) → OpenedReached o past c t call
      → NoneLives o past t call.place call.flush
  -- On a board of N harts, a fence call needs at most N - 1 serves of each hart, and at most (N - 1) * (N - 1) in all.
  -- A needed serve is accepted, unless the history is full. After these serves the call's poll returns success, if the
  -- history has room (SBI 8; profile).
  pub needs_are_few : (h : ℕ) → AreFew o past h
  pub needed_serves_are_accepted : (h t : ℕ) → 0 < need o past h t → ServeIsAccepted o past t
  pub served_calls_can_end : (newer : List Event) (h : ℕ) → GoesOn o newer past h
      → length (newer ++ past) < o.config.limit → HaveServed o newer past h
      → CanEnd o (newer ++ past) h
