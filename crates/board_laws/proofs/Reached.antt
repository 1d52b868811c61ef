-- A fence that has reached a hart strikes its caches.
use Rattle.std.proofs.Common.{◌≡◌, ℕ, ◌<◌, List, ◌∷◌, ◌++◌, length, subst, refl, sym, ap, ◌∙◌, arith, Some}
use Rattle.tlb_model.specs.declared.fence.Flush.{Flush}
use Rattle.rfence.specs.Applied.{effect}
use Rattle.rfence.specs.Laws as turns_laws
use Rattle.rfence.specs.Laws.{WasStruck}
use Rattle.rfence.specs.Opening as fences
use Rattle.rfence.specs.Right.{IsRight}
use Rattle.rfence.specs.Turns.{Turn, Ask, Own, Poll}
use Rattle.rfence.proofs.Success.{right-older, success}
use Rattle.sbi_abi.specs.declared.call.Call.{Call}
use Rattle.sbi_abi.specs.declared.call.Call.TheVariants as calls
use Rattle.sbi_abi.specs.Calls.{call_of}
use Rattle.board_core.specs.Opening.{Opening}
use Rattle.board_terms.specs.declared.reply.Reply.TheVariants as replies
use Rattle.board_core.specs.Fences.{Remote, is_asked_by, remote_of, turn_by_call, turn_by_remote, turn_of, turns}
use Rattle.board_core.specs.History.{Event}
use Rattle.board_core.specs.Replies.{IsLegal}
use Rattle.board_laws.specs.Fences.{Asks, ByCall, FencesItself, Itself, Reached, Succeeded}
use Rattle.board_laws.specs.Lives.{NoneLives, Struck}
use Rattle.board_laws.specs.Places.{past_at}
use Rattle.board_laws.proofs.Acts.{length-seen, one_turn, own-strikes, own-turn, seen-of, split-at, turn-strikes}
use Rattle.board_laws.proofs.Gone.{struck_is_gone}
use Rattle.board_laws.proofs.Places.{at-earlier, length-past_at, one-place, past_at-again, within}
use Rattle.board_core.proofs.Right.{right-turns}

-- a local fence strikes at its place
itself-strikes : (o : Opening) (past : List Event) (t place : ℕ) (flush : Flush) → FencesItself o past t place flush → Struck o past t place flush
itself-strikes o past t place flush x =
    let inside = within o past place x.event x.happened in
    let size = length-past_at o past place x.happened.since (omega arith) in
    let strikes = turn-strikes o t x.event (past_at o past place) flush (own-strikes o t x.event (past_at o past place) flush x.by_hart x.fences) in
    record {
      newer = x.happened.newer;
      event = x.event;
      older = past_at o past place;
      made = x.happened.made;
      since = omega arith;
      entries = strikes.0;
      words = strikes.1;
    }

-- what strikes among the turns strikes at an event
pub event-strikes : (o : Opening) (past : List Event) (t place : ℕ) (flush : Flush) → o.fences.first ≡ o.places → WasStruck o.fences (turns o past) t place flush → Struck o past t place flush
event-strikes o past t place flush places was =
    let found = seen-of (turns o) (one_turn o) past was.newer was.turn was.older was.made in
    let size = length-seen (turns o) (one_turn o) found.older in
    let rest = ap length found.rest in
    let since = was.since in
    let strikes = turn-strikes o t found.event found.older flush
    (subst (λ (turn : Turn Flush). turns_laws.Strikes flush (effect o.fences (turns o found.older) turn t)) (sym found.same)
    (subst (λ (before : List (Turn Flush)). turns_laws.Strikes flush (effect o.fences before was.turn t)) (sym found.rest) was.strikes)) in
    record {
      newer = found.newer;
      event = found.event;
      older = found.older;
      made = found.made;
      since = omega arith;
      entries = strikes.0;
      words = strikes.1;
    }

-- a remote fence that was accepted is the turn that asks it
call-turn : (o : Opening) (past : List Event) (x : ℕ) (call : Call) (remote : Remote) → remote_of o.config call ≡ Some remote
    → turn_by_call o past x call replies.Waiting ≡ turn_by_remote o past x (Some remote) replies.Waiting
call-turn o past x (calls.Rfence call) remote e = ap (λ r. turn_by_remote o past x r replies.Waiting) e
call-turn o past x call remote e = cc

pub ask-turn : (o : Opening) (past : List Event) (x t place : ℕ) (flush : Flush) (a : Asks o past x t place flush)
    → turn_of o (past_at o past place) a.event.actor a.event.op a.event.reply ≡ Ask x (is_asked_by o (past_at o past place) a.remote.mask a.remote.base) flush
ask-turn o past x t place flush a =
    rw (a.by_hart, a.call, a.accepted) (call-turn o (past_at o past place) x (call_of a.regs) a.remote a.fences ∙ rw a.drops refl)

poll-turn : (o : Opening) (past : List Event) (x place : ℕ) (s : Succeeded o past x place) → turn_of o (past_at o past s.end) s.event.actor s.event.op s.event.reply ≡ Poll x
poll-turn o past x place s = rw (s.by_hart, s.poll) refl

-- a call that was a success strikes where it asked
call-strikes : (o : Opening) (past : List Event) (x t place : ℕ) (flush : Flush) → o.fences.first ≡ o.places → IsRight o.fences o.config.harts (turns o past)
    → Asks o past x t place flush → Succeeded o past x place → Struck o past t place flush
call-strikes o past x t place flush places right a s =
    let inside = within o past s.end s.event s.happened in
    let later = s.later in
    let since = a.happened.since in
    let asked_at = at-earlier o past s.end place a.event later (omega arith) a.happened in
    let again = past_at-again o past s.end place since (omega arith) (omega arith) in
    let ask = ask-turn o past x t place flush a in
    let asked = is_asked_by o (past_at o past place) a.remote.mask a.remote.base in
    let polled = split-at (turns o) (one_turn o) s.happened.newer s.event (past_at o past s.end) in
    let asking = split-at (turns o) (one_turn o) asked_at.newer a.event (past_at o past place) in
    let before : turns o (past_at o past s.end) ≡ asking.later ++ Ask x asked flush ∷ turns o (past_at o past place) =
    ap (turns o) asked_at.made
    ∙ ap (λ older. turns o (asked_at.newer ++ a.event ∷ older)) again
    ∙ asking.made
    ∙ ap (λ (turn : Turn Flush). asking.later ++ turn ∷ turns o (past_at o past place)) ask in
    let all : turns o past ≡ polled.later ++ Poll x ∷ (asking.later ++ Ask x asked flush ∷ turns o (past_at o past place)) =
    ap (turns o) s.happened.made
    ∙ polled.made
    ∙ ap (λ (turn : Turn Flush). polled.later ++ turn ∷ turns o (past_at o past s.end)) (poll-turn o past x place s)
    ∙ ap (λ older. polled.later ++ Poll x ∷ older) before in
    let size = length-past_at o past place since (omega arith) in
    let placed : fences.place_after o.fences (turns o (past_at o past place)) ≡ place = omega (arith, places, length-seen (turns o) (one_turn o) (past_at o past place), size) in
    let struck = success o.fences o.config.harts polled.later asking.later (turns o (past_at o past place)) x asked flush t a.asked (subst (IsRight o.fences o.config.harts) all right) in
    event-strikes o past t place flush places
    (subst (λ n. WasStruck o.fences (turns o past) t n flush) placed
    (subst (λ (all_turns : List (Turn Flush)). WasStruck o.fences all_turns t (fences.place_after o.fences (turns o (past_at o past place))) flush) (sym all) struck))

-- and it was asked of a hart that is there
itself-inside : (o : Opening) (past : List Event) (t place : ℕ) (flush : Flush) → IsRight o.fences o.config.harts (turns o past) → FencesItself o past t place flush → t < o.config.harts
itself-inside o past t place flush right x =
    let fenced = split-at (turns o) (one_turn o) x.happened.newer x.event (past_at o past place) in
    let turn = own-turn o t x.event (past_at o past place) flush x.by_hart x.fences in
    let all = ap (turns o) x.happened.made ∙ fenced.made ∙ ap (λ (turn : Turn Flush). fenced.later ++ turn ∷ turns o (past_at o past place)) turn in
    (right-older o.fences o.config.harts fenced.later (Own t flush ∷ turns o (past_at o past place)) (subst (IsRight o.fences o.config.harts) all right)).0

asked-inside : (o : Opening) (past : List Event) (x t place : ℕ) (flush : Flush) → IsRight o.fences o.config.harts (turns o past) → Asks o past x t place flush → t < o.config.harts
asked-inside o past x t place flush right a =
    let asking = split-at (turns o) (one_turn o) a.happened.newer a.event (past_at o past place) in
    let asked = is_asked_by o (past_at o past place) a.remote.mask a.remote.base in
    let all = ap (turns o) a.happened.made
    ∙ asking.made
    ∙ ap (λ (turn : Turn Flush). asking.later ++ turn ∷ turns o (past_at o past place)) (ask-turn o past x t place flush a) in
    (right-older o.fences o.config.harts asking.later (Ask x asked flush ∷ turns o (past_at o past place)) (subst (IsRight o.fences o.config.harts) all right)).0.1 t a.asked

pub reached-inside : (o : Opening) (past : List Event) (t place : ℕ) (flush : Flush) → IsRight o.fences o.config.harts (turns o past) → Reached o past t place flush → t < o.config.harts
reached-inside o past t place flush right (Itself x) = itself-inside o past t place flush right x
reached-inside o past t place flush right (ByCall x asks succeeded) = asked-inside o past x t place flush right asks

-- it is enough that the turns are right
pub reached-strikes : (o : Opening) (past : List Event) (t place : ℕ) (flush : Flush) → o.fences.first ≡ o.places → IsRight o.fences o.config.harts (turns o past)
    → Reached o past t place flush → Struck o past t place flush
reached-strikes o past t place flush places right (Itself x) = itself-strikes o past t place flush x
reached-strikes o past t place flush places right (ByCall x asks succeeded) = call-strikes o past x t place flush places right asks succeeded

pub fences_strike : (o : Opening) (past : List Event) (t place : ℕ) (flush : Flush) → o.config.boot_hart < o.config.harts → IsLegal o past → Reached o past t place flush
    → Struck o past t place flush
fences_strike o past t place flush boot legal reached = reached-strikes o past t place flush (one-place o past legal) (right-turns o past boot legal) reached

pub fenced_is_gone : (o : Opening) (past : List Event) (t place : ℕ) (flush : Flush) → o.config.boot_hart < o.config.harts → IsLegal o past → Reached o past t place flush
    → NoneLives o past t place flush
fenced_is_gone o past t place flush boot legal reached = struck_is_gone o past t place flush (fences_strike o past t place flush boot legal reached)
