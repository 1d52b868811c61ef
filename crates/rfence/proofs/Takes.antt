-- What a caller can test of what is kept, said of the turns that it stands for.
use Rattle.std.proofs.Common.{◌≡◌, ℕ, ◌<◌, true, List, [], length, subst, refl, sym, ap, ◌∙◌, arith}
use Rattle.std.specs.Prelude.{Option, Some, None, is_some}
use Rattle.std.proofs.lemmas.List.{length-map}
use Rattle.hart_mask.specs.Ids.{has, ids_where}
use Rattle.fence_queue.specs.Queues.{queue_at}
use Rattle.rfence.specs.declared.opened.FenceCall.{FenceCall}
use Rattle.rfence.specs.Opening.{kept}
use Rattle.rfence.specs.Turns.{Turn, Ask, Serve, Poll, Stop, Reset}
use Rattle.rfence.specs.Waiting.{waiting}
use Rattle.rfence.specs.Calls.{is_outstanding, open_call}
use Rattle.rfence.specs.Right.{IsRightTurn}
use Rattle.rfence.specs.State.{HasTurns, IsLater, State, Takes, TakesAt, call_at, in_call}
use Rattle.rfence.specs.Cuts.{opening_in}
use Rattle.rfence.proofs.Seams.{opens-at, stands-at}
use Rattle.rfence.proofs.Counts.{outstanding-set}
use Rattle.rfence.proofs.Stands.{call_at-stands, length-calls, length-queues, queue_at-stands}

module _ {F : Type 0} where
  no-call : (call : Option (FenceCall F)) (ids : List ℕ) → in_call call ids ≡ None → call ≡ None
  no-call None ids is = refl
  no-call (Some call) ids is = cc

  some-call : (call : Option (FenceCall F)) (ids : List ℕ) → in_call call ids ≡ Some [] → (is_some call ≡ true) × (ids ≡ [])
  some-call None ids is = cc
  some-call (Some call) ids is = (refl, cc)

-- the turns of what is kept, as its value shows it
pub has-turns : {F : Type 0} (inside now : State F) → inside ≡ now → HasTurns inside → HasTurns now
has-turns inside now view has_turns = subst HasTurns view has_turns

module _ {F : Type 0} (fences : State F) (has_turns : HasTurns fences) where
  takes : (turn : Turn F) → IsRightTurn has_turns.o has_turns.n has_turns.turns turn → Takes fences turn
  takes turn can = record { o = has_turns.o; n = has_turns.n; turns = has_turns.turns; stands = has_turns.stands; right = (can, has_turns.right) }

  harts : length fences.calls ≡ has_turns.n
  harts = length-calls has_turns.o has_turns.n has_turns.turns _ has_turns.stands

  queues : length fences.queues ≡ has_turns.n
  queues = length-queues has_turns.o has_turns.n has_turns.turns _ has_turns.stands

  can-ask : (c : ℕ) (ids : List ℕ) (flush : F) → c < length fences.calls → ((t : ℕ) → has ids t ≡ true → t < length fences.calls)
      → call_at fences c ≡ None → IsRightTurn has_turns.o has_turns.n has_turns.turns (Ask c (has ids) flush)
  can-ask c ids flush inside targets outside =
      let below : c < has_turns.n = omega (arith, harts, inside) in
      let is = sym (call_at-stands has_turns.o has_turns.n has_turns.turns _ has_turns.stands c below) ∙ outside in
      (below, λ t asked. omega (arith, harts, targets t asked), no-call (open_call has_turns.o has_turns.turns c) (ids_where (is_outstanding has_turns.o has_turns.turns c)) is)

  pub takes-serve : (t : ℕ) → t < length fences.queues → 0 < length (queue_at fences.queues t) → Takes fences (Serve t)
  takes-serve t inside waits =
      let below : t < has_turns.n = omega (arith, queues, inside) in
      let same = ap length (queue_at-stands has_turns.o has_turns.n has_turns.turns _ has_turns.stands t below) ∙ length-map (waiting has_turns.o has_turns.turns t) kept in
      takes (Serve t) (below, omega (arith, same, waits))

  pub takes-poll : (c : ℕ) → c < length fences.calls → call_at fences c ≡ Some [] → Takes fences (Poll c)
  takes-poll c inside over =
      let below : c < has_turns.n = omega (arith, harts, inside) in
      let is = sym (call_at-stands has_turns.o has_turns.n has_turns.turns _ has_turns.stands c below) ∙ over in
      let parts = some-call (open_call has_turns.o has_turns.turns c) (ids_where (is_outstanding has_turns.o has_turns.turns c)) is in
      takes (Poll c) (below, parts.0, sym (outstanding-set has_turns.o has_turns.n has_turns.turns c has_turns.right) ∙ parts.1)

  pub takes-stop : (t : ℕ) → t < length fences.queues → Takes fences (Stop t)
  takes-stop t inside = takes (Stop t) (omega (arith, queues, inside))

  pub takes-reset : Takes fences Reset
  takes-reset = takes Reset tt

-- the turns of what is kept, and an ask at a later place, after as many turns as that place says
module _ {F : Type 0} (fences : State F) (has_turns : HasTurns fences) (place : ℕ) (later : IsLater place fences) where
  abbrev turns-at : HasTurns fences
  turns-at = record {
    o = opening_in place fences;
    n = has_turns.n;
    turns = [];
    stands = stands-at has_turns.o has_turns.n has_turns.turns has_turns.right place fences has_turns.stands;
    right = opens-at has_turns.o has_turns.n has_turns.turns has_turns.right place fences has_turns.stands later;
  }

  pub takes-ask : (c : ℕ) (ids : List ℕ) (flush : F) → c < length fences.calls → ((t : ℕ) → has ids t ≡ true → t < length fences.calls)
      → call_at fences c ≡ None → TakesAt place fences (Ask c (has ids) flush)
  takes-ask c ids flush inside targets outside = record {
    o = turns-at.o;
    n = turns-at.n;
    turns = turns-at.turns;
    at = omega arith;
    stands = turns-at.stands;
    right = (can-ask fences turns-at c ids flush inside targets outside, turns-at.right);
  }
