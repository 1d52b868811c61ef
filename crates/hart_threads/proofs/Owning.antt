-- Each event of a run's threads is its actor's own.
use Rattle.std.proofs.Common.{◌≡◌, ℕ, ◌+◌, ◌<◌, ◌≤◌, Bool, true, false, List, [], ◌∷◌, ◌++◌, refl, sym, ap, subst, ◌∙◌, inl, inr, arith}
use Rattle.std.specs.Prelude.{Option, Some, None, Ok, if◌then◌else◌, nat_le, option_map, slice_get}
use Rattle.std.proofs.lemmas.Bool.{cases_Bool, leb-false}
use mathlib.Core.List.{IsSuffix}
use Rattle.board_terms.specs.declared.op.Actor.{Actor}
use Rattle.board_terms.specs.declared.op.Actor.TheVariants.{Hart, Clock}
use Rattle.board_terms.specs.declared.op.Op.{Op}
use Rattle.board_terms.specs.declared.op.Op.TheVariants.{Serve, Poll, Advance, Tick}
use Rattle.board_terms.specs.declared.reply.Refusal.{Refusal}
use Rattle.board_terms.specs.declared.reply.Refusal.TheVariants as refusals
use Rattle.board_terms.specs.declared.reply.Reply.{Reply}
use Rattle.board_core.specs.History.{Event}
use Rattle.board_core.specs.Opening.{Opening}
use Rattle.board_core.specs.Refusals.{first_that_holds}
use Rattle.board_core.specs.Replies.{IsLegal, answer, refused_or}
use Rattle.board_core.specs.Resets.{is_off}
use Rattle.board_lock.specs.Coming.{chosen}
use Rattle.board_lock.specs.Events.{IsActor, is_same}
use Rattle.board_lock.specs.Receipts.{AcceptedCall}
use Rattle.board_lock.specs.declared.views.HartNow.{HartNow}
use Rattle.guest_programs.specs.Guests.{IsAt, Next, Rest, did, last_entry, next_for, next_op}
use Rattle.guest_programs.specs.Steps.{AreOwn, IsActorsOwn, IsOwn, Task, is_clock, ticked}
use Rattle.guest_programs.specs.Histories.{IsHistory}
use Rattle.guest_programs.specs.declared.ends.End.{End}
use Rattle.hart_threads.specs.Choices.{first_choice}
use Rattle.hart_threads.specs.Shares.{AreTold, EachOf, IsDue, IsRun, WasTold, IsTurn, many_of}
use Rattle.hart_threads.proofs.Counting.{none-since, rest-still}

-- ---- a hart's operation

by-row : (serves polls waits advances goes : Bool) (guest : Option Op) (op : Op)
    → chosen (first_that_holds ((serves, Some Serve) ∷ (polls, Some Poll) ∷ (waits, None) ∷ (advances, Some Advance) ∷ (goes, guest) ∷ [])) ≡ Some op → IsOwn guest op
by-row true polls waits advances goes guest op is = inl (let t = is in cc)
by-row false true waits advances goes guest op is = inr (inl (let t = is in cc))
by-row false false true advances goes guest op is = absurd (let t = is in cc)
by-row false false false true goes guest op is = inr (inr (inl (let t = is in cc)))
by-row false false false false true guest op is = inr (inr (inr is))
by-row false false false false false guest op is = absurd (let t = is in cc)

own-choice : (now : HartNow) (guest : Option Op) (op : Op) → first_choice now guest ≡ Some op → IsOwn guest op
own-choice now guest op is = by-row _ _ _ _ _ guest op is

-- where its hart did nothing since, a guest's next operation is the same
next-still : (guests : Next) (h : ℕ) (seen past : List Event) → IsSuffix seen past → many_of (Hart h) seen ≡ many_of (Hart h) past → next_op guests seen h ≡ next_op guests past h
next-still guests h seen past since still =
    let rest : Rest = (λ more. next_for guests (last_entry seen h) (more ++ did seen h)) in
    let few : many_of (Hart h) (since.0 ++ seen) ≤ many_of (Hart h) seen = (let same = ap (many_of (Hart h)) since.1 in omega arith) in
    let at : IsAt rest guests (since.0 ++ seen) h = rest-still guests rest (Hart h) since.0 seen (none-since (Hart h) since.0 seen few) (λ more. refl) in
    subst (λ (p : List Event). next_op guests seen h ≡ next_op guests p h) since.1 (at [])

-- ---- the clock's

clock-is : (a : Actor) → is_clock a ≡ is_same Clock a
clock-is (Hart h) = refl
clock-is Clock = refl

ticked-many : (past : List Event) → ticked past ≡ many_of Clock past
ticked-many [] = refl
ticked-many (e ∷ past) = let more = ticked-many past in rw (clock-is e.actor) (elim (cases_Bool (is_same Clock e.actor)) [
  | inl same ↦ rw same (omega arith)
  | inr other ↦ rw other (omega arith)
])

-- ---- each event

own-turn : (o : Opening) (p : Task) (a : Actor) (op : Op) (past : List Event) → IsTurn o p.guests p.ticks a op past → IsActorsOwn p past a op
own-turn o p (Hart h) op past turn =
    let picks = turn.holds.1 in
    subst (λ (guest : Option Op). IsOwn guest op) (next-still p.guests h turn.seen past turn.earlier turn.still) (own-choice picks.now (next_op p.guests turn.seen h) op picks.first)
own-turn o p Clock op past (n, next, is) =
    ap (λ (k : ℕ). option_map Tick (slice_get p.ticks k)) (ticked-many past) ∙ ap (option_map Tick) next ∙ ap (λ (x : Op). Some x) (sym is)

same-actor : (a : Actor) → is_same a a ≡ true
same-actor (Hart h) = grind arith
same-actor Clock = refl

not-out : (off out : Bool) (rest : Option Refusal) (gives reply : Reply)
    → refused_or (if off then Some refusals.Off else if out then Some refusals.WrongPhase else rest) gives ≡ Ok reply → out ≡ false
not-out true out rest gives reply is = absurd (let t = is in cc)
not-out false true rest gives reply is = absurd (let t = is in cc)
not-out false false rest gives reply is = refl

-- an operation that is accepted is of one of the board's actors
there-is : (o : Opening) (past : List Event) (a : Actor) (op : Op) (reply : Reply) → answer o past a op ≡ Ok reply → IsActor o.config a
there-is o past (Hart h) op reply accepted = leb-false o.config.harts h (not-out (is_off o past) (nat_le o.config.harts h) _ _ reply accepted)
there-is o past Clock op reply accepted = tt

-- of each event the gate was told
pub all-told : (heard : AcceptedCall → Type 0) (o : Opening) (past : List Event) → IsLegal o past
    → ((a : Actor) → IsActor o.config a → EachOf (WasTold heard o) a past) → AreTold heard o past
all-told heard o [] legal told = tt
all-told heard o (e ∷ past) legal told =
    ((told e.actor (there-is o past e.actor e.op e.reply legal.0)).0 (same-actor e.actor), all-told heard o past legal.2 (λ a acting. (told a acting).1))

module _ (lets : ℕ → ℕ → Bool → Type 0) (o : Opening) (p : Task) where
  all-own : (past : List Event) → IsLegal o past → ((a : Actor) → IsActor o.config a → EachOf (IsDue lets o p.guests p.ticks a) a past) → AreOwn p past
  all-own [] legal due = tt
  all-own (e ∷ past) legal due =
      let turn = (due e.actor (there-is o past e.actor e.op e.reply legal.0)).0 (same-actor e.actor) in
      (own-turn o p e.actor e.op past turn.1, all-own past legal.2 (λ a acting. (due a acting).1))

  pub is-history : (past : List Event) (end : End) → IsLegal o past → IsRun lets o p.guests p.ticks past end → IsHistory o p past
  is-history past end legal run = record { legal = legal; own = all-own past legal run.due }
