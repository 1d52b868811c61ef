-- What threads knew when they stopped, in the whole record.
use Rattle.std.proofs.Common.{◌≡◌, ◌⊎◌, ℕ, suc, true, false, List, [], ◌∷◌, length, map, refl, sym, ap, subst, ◌∙◌, inl, inr, arith}
use Rattle.std.specs.Prelude.{reverse}
use Rattle.std.specs.List.{All, AllByRecursion}
use Rattle.std.proofs.lemmas.Bool.{cases_Bool}
use mathlib.Core.List.{IsPrefix, IsSuffix, IsSuffix-trans}
use Rattle.board_terms.specs.declared.op.Actor.{Actor}
use Rattle.board_terms.specs.declared.op.Actor.TheVariants.{Hart, Clock}
use Rattle.board_terms.specs.declared.reply.Refusal.TheVariants.{HistoryFull}
use Rattle.board_core.specs.History.{Event}
use Rattle.board_lock.specs.Events.{IsActor, events_of, is_same}
use Rattle.board_lock.specs.Seats.{Sitting, seats_of}
use Rattle.guest_programs.specs.declared.met.Met.{Met}
use Rattle.guest_programs.specs.declared.met.Met.TheVariants.{Nothing, FullHistory, ClosedGate}
use Rattle.guest_programs.specs.Met.{met_by_both}
use Rattle.hart_threads.specs.Inside.Works.{met_by_all, At, HasWorked, SeesNoMore, Stops, Task, WorkedAt}
use Rattle.hart_threads.specs.Shares.{AreThreads, ChoosesNone, Earlier, EachOf, HasNoMore, HasStopped, IsDue, WasTold, Refuses, gate_number, many_of}
use Rattle.hart_threads.proofs.Counting.{earlier-of, length-events}
use Rattle.hart_threads.proofs.Working.{each-later, same-then}

-- ---- one thread

module _ (t : Task) (a : Actor) (n : ℕ) (past whole : List Event) (since : IsSuffix past whole) (all : many_of a whole ≡ n) where
  at-whole : (P : List Event → Type 0) → At a n past P → Earlier a whole P
  at-whole P at =
      let earlier : IsSuffix at.seen whole = IsSuffix-trans at.earlier since in
      let same : many_of a at.seen ≡ n = same-then a n at.seen whole earlier at.no_fewer all in
      record { seen = at.seen; earlier = earlier; still = same ∙ sym all; holds = at.holds same }

no-more-whole : (t : Task) (a : Actor) (n : ℕ) (past whole : List Event) → IsSuffix past whole → many_of a whole ≡ n → SeesNoMore t a n past → HasNoMore t.opening t.guests t.ticks whole a
no-more-whole t (Hart h) n past whole since all sees = at-whole t (Hart h) n past whole since all (ChoosesNone t.opening t.guests h) sees
no-more-whole t Clock n past whole since all (inl did) = inl (all ∙ did)
no-more-whole t Clock n past whole since all (inr (op, r, other, at)) = inr (op, r, other, at-whole t Clock n past whole since all (Refuses t.opening t.guests t.ticks Clock op r) at)

stopped-whole : (t : Task) (a : Actor) (n : ℕ) (past whole : List Event) (met : Met) → IsSuffix past whole → many_of a whole ≡ n → Stops t a n past met
    → HasStopped t.lets t.opening t.guests t.ticks whole a met
stopped-whole t a n past whole ClosedGate since all stops = subst (λ (k : ℕ). t.lets (gate_number t.opening.config a) k false) (sym all) stops
stopped-whole t a n past whole FullHistory since all (op, at) = (op, at-whole t a n past whole since all (Refuses t.opening t.guests t.ticks a op HistoryFull) at)
stopped-whole t a n past whole Nothing since all stops = no-more-whole t a n past whole since all stops

-- what holds of an actor whose thread met this
pub record Share (t : Task) (whole : List Event) (a : Actor) (met : Met) : Type 0 where
  pub due : EachOf (IsDue t.lets t.opening t.guests t.ticks a) a whole
  pub told : EachOf (WasTold t.heard t.opening) a whole
  pub stopped : HasStopped t.lets t.opening t.guests t.ticks whole a met

pub share : (t : Task) (a : Actor) (n : ℕ) (past whole : List Event) (met : Met) → IsSuffix past whole → many_of a whole ≡ n → HasWorked t a n past met → Share t whole a met
share t a n past whole met since all worked = record {
  due = each-later a n past whole since worked.work.no_fewer all (IsDue t.lets t.opening t.guests t.ticks a) worked.work.due;
  told = each-later a n past whole since worked.work.no_fewer all (WasTold t.heard t.opening) worked.work.told;
  stopped = stopped-whole t a n past whole met since all worked.stopped;
}

-- ---- all threads

same-is : (a b : Actor) → is_same a b ≡ true → a ≡ b
same-is (Hart h) (Hart n) same = ap Hart (grind arith)
same-is (Hart h) Clock same = absurd (let t = same in cc)
same-is Clock (Hart n) same = absurd (let t = same in cc)
same-is Clock Clock same = refl

-- what one met is part of what it and others met together
itself : (m ms : Met) → met_by_both m (met_by_both m ms) ≡ met_by_both m ms
itself ClosedGate ms = refl
itself FullHistory ClosedGate = refl
itself FullHistory FullHistory = refl
itself FullHistory Nothing = refl
itself Nothing ms = refl

among : (m k ms : Met) → met_by_both m ms ≡ ms → met_by_both m (met_by_both k ms) ≡ met_by_both k ms
among ClosedGate ClosedGate ms is = refl
among ClosedGate FullHistory ClosedGate is = refl
among ClosedGate FullHistory FullHistory is = absurd (let t = is in cc)
among ClosedGate FullHistory Nothing is = absurd (let t = is in cc)
among ClosedGate Nothing ms is = is
among FullHistory ClosedGate ms is = refl
among FullHistory FullHistory ClosedGate is = refl
among FullHistory FullHistory FullHistory is = refl
among FullHistory FullHistory Nothing is = refl
among FullHistory Nothing ms is = is
among Nothing k ms is = refl

alone : (m : Met) → met_by_both m Nothing ≡ m
alone Nothing = refl
alone FullHistory = refl
alone ClosedGate = refl

-- of two, one met what both met together
one-of : (m ms : Met) → (met_by_both m ms ≡ m) ⊎ (met_by_both m ms ≡ ms)
one-of ClosedGate ms = inl refl
one-of FullHistory ClosedGate = inr refl
one-of FullHistory FullHistory = inl refl
one-of FullHistory Nothing = inl refl
one-of Nothing ms = inr refl

module _ (t : Task) (es : List Event) {A : Type 0} (seat : A → Sitting) (met : A → Met) where
  -- its seat counts its actor's events in the record, which begins with what it saw
  pub record Settled (x : A) : Type 0 where
    pub counts : length (events_of (seat x).actor es) ≡ (seat x).count
    pub saw : IsPrefix (seat x).saw es
    pub worked : WorkedAt t (seat x) (met x)

  share-of : (x : A) → Settled x → Share t (reverse es) (seat x).actor (met x)
  share-of x s =
      share t (seat x).actor (seat x).count (reverse (seat x).saw) (reverse es) (met x) (earlier-of (seat x).saw es s.saw) (sym (length-events (seat x).actor es) ∙ s.counts) s.worked

  pub settle-all : (xs : List A) → All (λ (s : Sitting). length (events_of s.actor es) ≡ s.count) (map seat xs) → All (λ (s : Sitting). IsPrefix s.saw es) (map seat xs)
      → All (λ x. WorkedAt t (seat x) (met x)) xs → AllByRecursion Settled xs
  settle-all [] counts saw worked = tt
  settle-all (x ∷ xs) counts saw worked = (
    record { counts = counts 0 (seat x) (omega arith); saw = saw 0 (seat x) (omega arith); worked = worked 0 x (omega arith) },
    settle-all xs (λ k d inside. counts (suc k) d (omega arith)) (λ k d inside. saw (suc k) d (omega arith)) (λ k d inside. worked (suc k) d (omega arith)),
  )

  abbrev together : List A → Met
  together xs = met_by_all (map met xs)

  found : (a : Actor) (xs : List A) → seats_of a (map seat xs) ≡ 1 → AllByRecursion Settled xs
      → (m : Met) × (met_by_both m (together xs) ≡ together xs) × Share t (reverse es) a m
  found a [] one all = absurd (omega arith)
  found a (x ∷ xs) one all = elim (cases_Bool (is_same (seat x).actor a)) [
    | inl same ↦ (met x, itself (met x) (together xs), subst (λ (b : Actor). Share t (reverse es) b (met x)) (same-is (seat x).actor a same) (share-of x all.0))
    | inr other ↦ let rest = found a xs (let is = rw other at one in omega arith) all.1 in (rest.0, among rest.0 (met x) (together xs) rest.1, rest.2)
  ]

  some : (x : A) (xs : List A) → AllByRecursion Settled (x ∷ xs) → (a : Actor) × IsActor t.opening.config a × Share t (reverse es) a (together (x ∷ xs))
  some x [] all = ((seat x).actor, all.0.worked.acting, subst (Share t (reverse es) (seat x).actor) (sym (alone (met x))) (share-of x all.0))
  some x (y ∷ xs) all = elim (one-of (met x) (together (y ∷ xs))) [
    | inl own ↦ ((seat x).actor, all.0.worked.acting, subst (Share t (reverse es) (seat x).actor) (sym own) (share-of x all.0))
    | inr others ↦ let rest = some y xs all.1 in (rest.0, rest.1, subst (Share t (reverse es) rest.0) (sym others) rest.2)
  ]

  some-of : (xs : List A) → seats_of Clock (map seat xs) ≡ 1 → AllByRecursion Settled xs → (a : Actor) × IsActor t.opening.config a × Share t (reverse es) a (together xs)
  some-of [] one all = absurd (omega arith)
  some-of (x ∷ xs) one all = some x xs all

  pub are-threads : (xs : List A) → ((a : Actor) → IsActor t.opening.config a → seats_of a (map seat xs) ≡ 1) → AllByRecursion Settled xs
      → AreThreads t.lets t.heard t.opening t.guests t.ticks (reverse es) (together xs)
  are-threads xs one all = record {
    due = λ a acting. (found a xs (one a acting) all).2.due;
    told = λ a acting. (found a xs (one a acting) all).2.told;
    stopped = λ a acting. let f = found a xs (one a acting) all in (f.0, f.1, f.2.stopped);
    met_by = let s = some-of xs (one Clock tt) all in (s.0, s.1, s.2.stopped);
  }
