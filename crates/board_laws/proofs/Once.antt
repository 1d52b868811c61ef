-- A fence that is asked of a hart is applied there once, or waits there once; and a stop leaves nothing.
use Rattle.std.proofs.Common.{◌≡◌, ℕ, List, ◌∷◌, ◌++◌, subst, refl, sym, ap, ◌∙◌, arith}
use Rattle.std.specs.Prelude.{if◌then◌else◌}
use Rattle.std.proofs.lemmas.Bool.{eq-eqb}
use Rattle.tlb_model.specs.declared.fence.Flush.{Flush}
use Rattle.tlb_model.specs.Entries.{covers_entry}
use Rattle.tlb_model.specs.Words.{covers_word}
use Rattle.rfence.specs.declared.opened.FenceCall.{FenceCall}
use Rattle.rfence.specs.Laws.{times_met}
use Rattle.rfence.specs.Opening as fences
use Rattle.rfence.specs.Right.{IsRight}
use Rattle.rfence.specs.Turns.{Turn, Stop, is_asked}
use Rattle.rfence.proofs.Once.{applied-once, opened-once}
use Rattle.board_core.specs.Opening.{Opening, tlb_at, words_at}
use Rattle.board_core.specs.Fences.{turn_of, turns}
use Rattle.board_core.specs.Memory.{tlb_acts, word_acts}
use Rattle.board_core.specs.History.{Event}
use Rattle.board_terms.specs.Limits.{IsGood}
use Rattle.board_core.specs.Replies.{IsLegal}
use Rattle.board_laws.specs.Fences.{AppliedOnce, Asks, LeavesNothing, OpenedOnce, StopsHart}
use Rattle.board_laws.specs.Places.{IsAtPlace, past_at}
use Rattle.board_laws.proofs.AfterResets.{none-lives}
use Rattle.board_laws.proofs.Acts.{length-seen, one_turn, split-at}
use Rattle.board_laws.proofs.Places.{length-past_at, one-place, within}
use Rattle.board_laws.proofs.Reached.{ask-turn}
use Rattle.board_core.proofs.Right.{turns_are_right}

pub applied_once : (o : Opening) (past : List Event) (t place : ℕ) (event : Event) → IsGood o.config → IsLegal o past → IsAtPlace o past place event → AppliedOnce o past t place event
applied_once o past t place event good legal at =
    let inside = within o past place event at in
    let size = length-past_at o past place at.since (omega arith) in
    let split = split-at (turns o) (one_turn o) at.newer event (past_at o past place) in
    let turn = turn_of o (past_at o past place) event.actor event.op event.reply in
    let all : turns o past ≡ split.later ++ turn ∷ turns o (past_at o past place) = ap (turns o) at.made ∙ split.made in
    let placed : fences.place_after o.fences (turns o (past_at o past place)) ≡ place = omega (arith, one-place o past legal, length-seen (turns o) (one_turn o) (past_at o past place), size) in
    let once = applied-once o.fences o.config.harts split.later turn (turns o (past_at o past place)) t (subst (IsRight o.fences o.config.harts) all (turns_are_right o past good legal)) in
    subst (λ (n : ℕ). times_met o.fences n (turns o past) t ≡ (if is_asked turn t then 1 else 0)) placed
    (subst (λ (all_turns : List (Turn Flush)). times_met o.fences (fences.place_after o.fences (turns o (past_at o past place))) all_turns t ≡ (if is_asked turn t then 1 else 0)) (sym all) once)

-- and a remote fence is asked of each hart that it names and that is in an interruptible state
pub asked_once : (o : Opening) (past : List Event) (x t place : ℕ) (flush : Flush) → IsGood o.config → IsLegal o past → Asks o past x t place flush
    → times_met o.fences place (turns o past) t ≡ 1
asked_once o past x t place flush good legal asks =
    applied_once o past t place asks.event good legal asks.happened ∙ (rw (ask-turn o past x t place flush asks, asks.asked) refl)

-- so is one of a call that was open at the opening
pub opened_once : (o : Opening) (past : List Event) (c t : ℕ) (call : FenceCall Flush) → IsGood o.config → IsLegal o past → OpenedOnce o past c t call
opened_once o past c t call good legal called = opened-once o.fences o.config.harts (turns o past) c t call (turns_are_right o past good legal) called

-- ---- stops

-- a stop empties the caches
stop-turn : (o : Opening) (past : List Event) (event : Event) (t : ℕ) → StopsHart event t → turn_of o past event.actor event.op event.reply ≡ Stop t
stop-turn o past event t stops = rw (stops.by_hart, stops.call, stops.stop, stops.accepted) refl

pub stops_leave_nothing : (o : Opening) (event : Event) (past : List Event) (t : ℕ) → StopsHart event t → LeavesNothing o (event ∷ past) t
stops_leave_nothing o event past t stops =
    let turn = stop-turn o past event t stops in
    let here = eq-eqb t t refl in
    record {
      entries = rw (turn, here) (none-lives o.places (tlb_at o t) covers_entry (tlb_acts o past t));
      words = rw (turn, here) (none-lives o.places (words_at o t) covers_word (word_acts o past t));
      waiting = rw (turn, here) refl;
    }
