-- What a machine that stands for a past says of whether an operation happens, and what it has room for.
use Rattle.std.proofs.Common.{◌≡◌, ℕ, ◌<◌, ◌≤◌, true, false, List, [], ◌∷◌, length, map, subst, refl, sym, ap, ◌∙◌, arith}
use Rattle.std.specs.Prelude.{Option, Some, None, is_none, is_some}
use Rattle.fence_queue.specs.Queues.{queue_at}
use Rattle.rfence.specs.Calls as calls
use Rattle.rfence.specs.Right.{IsRightTurn}
use Rattle.rfence.specs.State as fences
use Rattle.rfence.specs.State.{State, call_at, in_call}
use Rattle.rfence.specs.Turns.{Serve, Poll}
use Rattle.rfence.specs.Waiting as queues
use Rattle.rfence.specs.declared.opened.FenceCall.{FenceCall}
use Rattle.rfence.specs.Opening as opened
use Rattle.rfence.proofs.Counts.{few-asked, outstanding-set}
use Rattle.rfence.proofs.Seams.{is-later}
use Rattle.rfence.proofs.Totals.{few-applied}
use Rattle.rfence.proofs.Stands.{call_at-stands, length-calls, length-queues, queue_at-stands}
use Rattle.tlb_model.specs.declared.fence.Flush.{Flush}
use Rattle.board_terms.specs.declared.config.Config.{Config}
use Rattle.board_rules.specs.Opening.{Opening, on, place_after}
use Rattle.board_machine.specs.declared.machine.Machine.{Machine}
use Rattle.board_rules.specs.Fences.{outstanding, turns, waiting}
use Rattle.board_rules.specs.History.{Event}
use Rattle.board_terms.specs.Limits.{IsGood}
use Rattle.board_rules.specs.Refusals.{is_empty, is_full, situation, waits_for_some}
use Rattle.board_machine.specs.Stands.{CanFill, FencesStand, HasRoom, IsKept, IsSized, IsStanding, IsStandingAt, StandsFor, situation_in}
use Rattle.board_machine.proofs.HartsStanding.{hart_at-stand, length-harts}
use Rattle.board_rules.proofs.Steps.{room-left}
use Rattle.board_rules.proofs.Beginning.{legal-opens}
use Rattle.board_rules.proofs.Lengths.{entered-before-le, length-entries-le, length-starts-le, length-turns}
use Rattle.board_machine.proofs.Reading.{can-fill, length-caches, length-deadlines, length-satps, wake-read}

module _ (o : Opening) (past : List Event) (f : State Flush) (stand : FencesStand o past f) where
  -- the call of a hart, and its queue
  pub call-read : (h : ℕ) → h < o.config.harts → call_at f h ≡ outstanding o past h
  call-read h inside =
      call_at-stands o.fences o.config.harts (turns o past) f stand.stands h inside
      ∙ ap (in_call (calls.open_call o.fences (turns o past) h)) (outstanding-set o.fences o.config.harts (turns o past) h stand.right)

  pub queue-read : (h : ℕ) → h < o.config.harts → queue_at f.queues h ≡ waiting o past h
  queue-read h inside = queue_at-stands o.fences o.config.harts (turns o past) f stand.stands h inside

  -- a hart without a call is in none
  pub outside-read : (h : ℕ) → h < o.config.harts → call_at f h ≡ None → calls.open_call o.fences (turns o past) h ≡ None
  outside-read h inside none = closed (calls.open_call o.fences (turns o past) h) _ (sym (call_at-stands o.fences o.config.harts (turns o past) f stand.stands h inside) ∙ none)
    where
      closed : (call : Option (FenceCall Flush)) (ids : List ℕ) → in_call call ids ≡ None → call ≡ None
      closed None ids is = refl
      closed (Some call) ids is = cc

  -- a hart at which a fence waits can serve, and one whose call waits for no hart can poll
  pub serve-right : (h : ℕ) → h < o.config.harts → is_empty (queue_at f.queues h) ≡ false → IsRightTurn o.fences o.config.harts (turns o past) (Serve h)
  serve-right h inside some = (inside, by_queue (queues.waiting o.fences (turns o past) h) (sym (ap is_empty (queue-read h inside)) ∙ some))
    where
      by_queue : (waits : List (opened.Asked Flush)) → is_empty (map opened.kept waits) ≡ false → 0 < length waits
      by_queue [] none = absurd cc
      by_queue (asked ∷ waits) some = omega arith

  pub poll-right : (h : ℕ) → h < o.config.harts → is_none (call_at f h) ≡ false → waits_for_some (call_at f h) ≡ false → IsRightTurn o.fences o.config.harts (turns o past) (Poll h)
  poll-right h inside inside_call answered =
      let is = call-read h inside in
      let parts = by_call (calls.open_call o.fences (turns o past) h) (calls.outstanding o.fences o.config.harts (turns o past) h) (sym (ap is_none is) ∙ inside_call)
      (sym (ap waits_for_some is) ∙ answered) in
      (inside, parts.0, parts.1)
    where
      by_call : (call : Option (FenceCall Flush)) (ids : List ℕ) → is_none (in_call call ids) ≡ false → waits_for_some (in_call call ids) ≡ false → (is_some call ≡ true) × (ids ≡ [])
      by_call None ids inside_call answered = absurd cc
      by_call (Some call) [] inside_call answered = (refl, refl)
      by_call (Some call) (id ∷ ids) inside_call answered = absurd cc

-- the queue of a hart that isn't refused to serve, and the call of one that isn't refused to poll
pub some-wait : {A : Type 0} (queue : List A) → is_empty queue ≡ false → 0 < length queue
some-wait [] none = absurd cc
some-wait (x ∷ xs) some = omega arith

pub call-over : (call : Option (List ℕ)) → is_none call ≡ false → waits_for_some call ≡ false → call ≡ Some []
call-over None inside answered = absurd cc
call-over (Some []) inside answered = refl
call-over (Some (h ∷ harts)) inside answered = absurd cc

module _ (o : Opening) (past : List Event) (m : Machine) (most : o.config.harts ≤ 128) (stands : StandsFor o past m) where
  pub sized : IsSized o.config m
  sized = record {
    harts = length-harts o past m.hsm stands.harts;
    deadlines = length-deadlines o past m.interrupts.timers stands.interrupts.timers;
    satps = length-satps o past m.memory stands.memory;
    caches = length-caches o past m.memory stands.memory;
    calls = length-calls o.fences o.config.harts (turns o past) m.fences stands.fences.stands;
    queues = length-queues o.fences o.config.harts (turns o past) m.fences stands.fences.stands;
  }

  pub situation-read : (h : ℕ) → h < o.config.harts → situation_in m h ≡ situation o past h
  situation-read h inside =
      let own = hart_at-stand o past m.hsm stands.harts h inside in
      let wake = wake-read o past m.interrupts h (omega arith) inside stands.interrupts in
      let call = call-read o past m.fences stands.fences h inside in
      let queue = queue-read o past m.fences stands.fences h inside in
      λ i. record { state = (own i).state; wake = wake i; call = call i; fences = queue i }

module _ (c : Config) (m : Machine) (good : IsGood c) (standing : IsStanding c m) where
  -- the opening, with these numbers
  abbrev opening : Opening
  opening = on c standing.o

  pub counts-room : HasRoom m.counts
  counts-room =
      let few = standing.few in
      let counts = standing.stands.counts in
      let before = entered-before-le opening standing.past in
      let opened = standing.opens.entered_few in
      let most = good.at_most_128_harts in
      record {
        starts = let are = counts.starts in let below = length-starts-le opening standing.past in omega arith;
        entries = let are = counts.entries in let below = length-entries-le opening standing.past in omega arith;
      }

  pub fills-room : (h : ℕ) → h < c.harts → CanFill m.memory h
  fills-room h inside = can-fill opening standing.past m.memory h inside standing.opens standing.few standing.stands.memory

  pub fences-room : fences.HasRoom m.fences
  fences-room =
      let few = standing.few in
      let stand = standing.stands.fences in
      let long = length-turns opening standing.past in
      let places = stand.places in
      record {
        asked = let is = stand.stands.asked in let below = few-asked opening.fences c.harts (turns opening standing.past) stand.right in omega arith;
        applied = let is = stand.stands.applied in let below = few-applied opening.fences c.harts (turns opening standing.past) stand.right in omega arith;
      }

  pub fences-later : (place : ℕ) → place ≡ place_after standing.o standing.past → fences.IsLater place m.fences
  fences-later place at =
      let stand = standing.stands.fences in
      let long = length-turns opening standing.past in
      let first = stand.places in
      let here : opened.place_after opening.fences (turns opening standing.past) ≡ place = omega (arith, long, first, at) in
      subst (λ (p : ℕ). fences.IsLater p m.fences) here (is-later opening.fences c.harts (turns opening standing.past) stand.right m.fences stand.stands)

-- a board whose history isn't full stands so
pub standing-kept : (o : Opening) (past : List Event) (m : Machine) → IsKept o past → is_full o past ≡ false → StandsFor o past m → IsStanding o.config m
standing-kept o past m kept room stands =
    let less = room-left o past room kept.within in
    let small = kept.good.at_most_a_million_events in
    let early = kept.early in
    record { o = o; past = past; opens = legal-opens o past kept.legal; stands = stands; few = omega arith }

pub standing-at : (o : Opening) (past : List Event) (m : Machine) (place : ℕ) → place ≡ place_after o past → IsKept o past → is_full o past ≡ false → StandsFor o past m
    → IsStandingAt o.config place m
standing-at o past m place at kept room stands =
    let less = room-left o past room kept.within in
    let small = kept.good.at_most_a_million_events in
    let early = kept.early in
    record {
      standing = record { o = o; past = past; opens = legal-opens o past kept.legal; stands = stands; few = omega arith };
      at = at;
    }
