-- Whose fences wait: those of harts that are in their calls, one of each at most.
use Rattle.std.proofs.Common.{◌≡◌, ℕ, ◌+◌, ◌<◌, ◌≤◌, suc, zero, Bool, true, false, List, [], ◌∷◌, ◌++◌, drop, map, refl, sym, ap, ◌∙◌, arith, inl, inr}
use Rattle.std.specs.Prelude.{◌==◌, ◌||◌, if◌then◌else◌, filter, Option, Some, None}
use Rattle.std.specs.List.{All, list_any, range_with_len}
use Rattle.std.proofs.lemmas.List.Elements.{All-cons}
use Rattle.std.proofs.lemmas.Bool.{cases_lt, eq-eqb, eqb-false, eqb-true, ne_eqb, or_parts}
use Rattle.std.proofs.lemmas.Bool.Decides.{eqb_tells}
use Rattle.std.proofs.lemmas.List.{map-append}
use Rattle.hart_mask.specs.Ids.{ids_where}
use Rattle.hart_mask.proofs.Sets.{has-ids_where}
use Rattle.fence_queue.specs.Queues.{IsQueue, has_from}
use Rattle.fence_queue.proofs.Queue.{IsQueue-push}
use Rattle.rfence.specs.declared.opened.FenceCall.{FenceCall}
use Rattle.rfence.specs.Opening.{Asked, IsOf, IsOpening, Opening, kept, place_after, waited_at}
use Rattle.rfence.specs.Cuts.{place_of}
use Rattle.rfence.specs.Turns.{Turn, Ask, Own, Serve, Poll, Stop, Reset, Quiet}
use Rattle.rfence.specs.Waiting.{waiting}
use Rattle.rfence.specs.Calls.{is_at, is_outstanding, open_by, open_call}
use Rattle.rfence.specs.Right.{IsRight, IsRightTurn}
use Rattle.rfence.proofs.Waits.{waited, waiting-more}

-- where a filter keeps nothing of the numbers below n, none of them passes
pub none-passes : (p : ℕ → Bool) (n a t : ℕ) → filter p (range_with_len a n) ≡ [] → a ≤ t → t < a + n → p t ≡ false
none-passes p zero a t none low high = absurd (omega arith)
none-passes p (suc n) a t none low high = by_test (p a) refl (none-passes p n (a + 1) t)
  where
    by_test : (b : Bool) → p a ≡ b → (filter p (range_with_len (a + 1) n) ≡ [] → a + 1 ≤ t → t < a + 1 + n → p t ≡ false) → p t ≡ false
    by_test true is later = let some : a ∷ filter p (range_with_len (a + 1) n) ≡ [] = rw is at none in cc
    by_test false is later = elim (eqb_tells a t) [
      | inl same ↦ rw (← same.1) is
      | inr other ↦ let far = other.1 in later (rw is at none) (omega arith) (omega arith)
    ]

module _ {F : Type 0} (o : Opening F) (n : ℕ) where
  -- a board's opening is one, and has at most 128 harts
  pub opening-of : (turns : List (Turn F)) → IsRight o n turns → IsOpening o n
  opening-of [] right = right
  opening-of (turn ∷ turns) right = opening-of turns right.1

  pub few-harts : (turns : List (Turn F)) → IsRight o n turns → n ≤ 128
  few-harts turns right = (opening-of turns right).limit

  -- ---- open calls

  -- a call is as old as its turn
  pub open-below : (turns : List (Turn F)) (c : ℕ) (call : FenceCall F) → IsRight o n turns → open_call o turns c ≡ Some call → call.place < place_after o turns
  open-below [] c call right is = let low = right.before c call is in omega arith
  open-below (turn ∷ turns) c call right is = by_turn (λ before. let low = open-below turns c call right.1 before in omega arith) turn is
    where
      asked : (open_call o turns c ≡ Some call → call.place < place_after o (turn ∷ turns)) → (own : Bool) (now : FenceCall F) → now.place ≡ place_after o turns
          → (if own then Some now else open_call o turns c) ≡ Some call → call.place < place_after o (turn ∷ turns)
      asked older true now here is = let same : now.place ≡ call.place = ap place_of is in omega (arith, same, here)
      asked older false now here is = older is

      polled : (open_call o turns c ≡ Some call → call.place < place_after o (turn ∷ turns)) → (own : Bool) → (if own then None else open_call o turns c) ≡ Some call
          → call.place < place_after o (turn ∷ turns)
      polled older true now = cc
      polled older false now = older now

      by_turn : (open_call o turns c ≡ Some call → call.place < place_after o (turn ∷ turns)) → (turn : Turn F) → open_by (place_after o turns) turn c (open_call o turns c) ≡ Some call
          → call.place < place_after o (turn ∷ turns)
      by_turn older (Ask x ids flush) now = asked older (x == c) (record { place = place_after o turns; asked = ids_where ids; flush = flush }) refl now
      by_turn older (Own x flush) now = older now
      by_turn older (Serve x) now = older now
      by_turn older (Poll x) now = polled older (x == c) now
      by_turn older (Stop x) now = older now
      by_turn older Reset now = cc
      by_turn older Quiet now = older now

  -- no two harts are in the same call
  pub open-apart : (turns : List (Turn F)) (c d : ℕ) (call other : FenceCall F) → IsRight o n turns → open_call o turns c ≡ Some call → open_call o turns d ≡ Some other → call.place ≡ other.place
      → c ≡ d
  open-apart [] c d call other right is also same = right.apart c d call other is also same
  open-apart (turn ∷ turns) c d call other right is also same =
      by_turn (λ now too. open-apart turns c d call other right.1 now too same) (λ now. open-below turns c call right.1 now) (λ too. open-below turns d other right.1 too) turn is also
    where
      asked : (open_call o turns c ≡ Some call → open_call o turns d ≡ Some other → c ≡ d) → (open_call o turns c ≡ Some call → call.place < place_after o turns)
          → (open_call o turns d ≡ Some other → other.place < place_after o turns) → (x : ℕ) (b e : Bool) (made : FenceCall F) → made.place ≡ place_after o turns → (x == c) ≡ b → (x == d) ≡ e
          → (if b then Some made else open_call o turns c) ≡ Some call → (if e then Some made else open_call o turns d) ≡ Some other → c ≡ d
      asked older low_c low_d x true true made place here there now too = sym (eqb-true x c here) ∙ eqb-true x d there
      asked older low_c low_d x true false made place here there now too =
          let mine : made.place ≡ call.place = ap place_of now in
          let low = low_d too in absurd (omega (arith, mine, place, same, low))
      asked older low_c low_d x false true made place here there now too =
          let its : made.place ≡ other.place = ap place_of too in
          let low = low_c now in absurd (omega (arith, its, place, same, low))
      asked older low_c low_d x false false made place here there now too = older now too

      polled : (open_call o turns c ≡ Some call → open_call o turns d ≡ Some other → c ≡ d) → (b e : Bool) → (if b then None else open_call o turns c) ≡ Some call
          → (if e then None else open_call o turns d) ≡ Some other → c ≡ d
      polled older true e now too = cc
      polled older false true now too = cc
      polled older false false now too = older now too

      by_turn : (open_call o turns c ≡ Some call → open_call o turns d ≡ Some other → c ≡ d) → (open_call o turns c ≡ Some call → call.place < place_after o turns)
          → (open_call o turns d ≡ Some other → other.place < place_after o turns) → (turn : Turn F) → open_by (place_after o turns) turn c (open_call o turns c) ≡ Some call
          → open_by (place_after o turns) turn d (open_call o turns d) ≡ Some other → c ≡ d
      by_turn older low_c low_d (Ask x ids flush) now too = asked older low_c low_d x (x == c) (x == d)
          (record { place = place_after o turns; asked = ids_where ids; flush = flush }) refl refl refl now too
      by_turn older low_c low_d (Own x flush) now too = older now too
      by_turn older low_c low_d (Serve x) now too = older now too
      by_turn older low_c low_d (Poll x) now too = polled older (x == c) (x == d) now too
      by_turn older low_c low_d (Stop x) now too = older now too
      by_turn older low_c low_d Reset now too = cc
      by_turn older low_c low_d Quiet now too = older now too

  -- a hart that isn't there is in no call
  pub open-within : (turns : List (Turn F)) (c : ℕ) → IsRight o n turns → n ≤ c → open_call o turns c ≡ None
  open-within [] c right far = right.callers c far
  open-within (turn ∷ turns) c right far = by_turn (open-within turns c right.1 far) turn right.0
    where
      by_turn : open_call o turns c ≡ None → (turn : Turn F) → IsRightTurn o n turns turn → open_by (place_after o turns) turn c (open_call o turns c) ≡ None
      by_turn older (Ask x ids flush) ok = let inside = ok.0 in rw (ne_eqb x c (λ e. absurd (omega arith))) older
      by_turn older (Own x flush) ok = older
      by_turn older (Serve x) ok = older
      by_turn older (Poll x) ok = let inside = ok.0 in rw (ne_eqb x c (λ e. absurd (omega arith))) older
      by_turn older (Stop x) ok = older
      by_turn older Reset ok = refl
      by_turn older Quiet ok = older

module _ {F : Type 0} (t : ℕ) where
  -- ---- each fence that waits at hart t is one of its caller's open call

  abbrev pub AreOpen : (ℕ → Option (FenceCall F)) → List (Asked F) → Type 0
  AreOpen opened [] = Unit
  AreOpen opened (asked ∷ rest) = IsOf t asked (opened asked.from) × AreOpen opened rest

  pub All-open : (opened : ℕ → Option (FenceCall F)) (waits : List (Asked F)) → AreOpen opened waits → All (λ (asked : Asked F). IsOf t asked (opened asked.from)) waits
  All-open opened [] are = λ k d inside. absurd (omega arith)
  All-open opened (first ∷ rest) are = All-cons (λ (asked : Asked F). IsOf t asked (opened asked.from)) first rest are.0 (All-open opened rest are.1)

  open-All : (opened : ℕ → Option (FenceCall F)) (waits : List (Asked F)) → All (λ (asked : Asked F). IsOf t asked (opened asked.from)) waits → AreOpen opened waits
  open-All opened [] all = tt
  open-All opened (first ∷ rest) all =
      (all 0 first (omega arith), open-All opened rest (λ k d inside. all (suc k) d (omega arith)))

  pub AreOpen-drop : (opened : ℕ → Option (FenceCall F)) (waits : List (Asked F)) → AreOpen opened waits → AreOpen opened (drop 1 waits)
  AreOpen-drop opened [] are = tt
  AreOpen-drop opened (first ∷ rest) are = are.1

  AreOpen-push : (opened : ℕ → Option (FenceCall F)) (waits : List (Asked F)) (asked : Asked F) → AreOpen opened waits
      → IsOf t asked (opened asked.from) → AreOpen opened (waits ++ asked ∷ [])
  AreOpen-push opened [] asked are is = (is, tt)
  AreOpen-push opened (first ∷ rest) asked are is = (are.0, AreOpen-push opened rest asked are.1 is)

  -- a fence of a call is of one
  of-some : (asked : Asked F) (call : Option (FenceCall F)) → IsOf t asked call → call ≡ None → ⊥
  of-some asked None is closed = is
  of-some asked (Some call) is closed = cc

  -- a hart that is in no call has none
  pub none-from : (opened : ℕ → Option (FenceCall F)) (c : ℕ) (waits : List (Asked F)) → AreOpen opened waits → opened c ≡ None → has_from c (map kept waits) ≡ false
  none-from opened c [] are closed = refl
  none-from opened c (first ∷ rest) are closed = by_caller (first.from == c) refl (none-from opened c rest are.1 closed)
    where
      by_caller : (own : Bool) → (first.from == c) ≡ own → has_from c (map kept rest) ≡ false → (own || has_from c (map kept rest)) ≡ false
      by_caller true is later = absurd (of-some first (opened first.from) are.0 (ap opened (eqb-true first.from c is) ∙ closed))
      by_caller false is later = later

  -- what holds of a call's opening, where no fence that waits is of the hart that it changes
  AreOpen-same : (opened now : ℕ → Option (FenceCall F)) (c : ℕ) (waits : List (Asked F)) → ((d : ℕ) → (c == d) ≡ false → now d ≡ opened d)
      → has_from c (map kept waits) ≡ false → AreOpen opened waits → AreOpen now waits
  AreOpen-same opened now c [] same none are = tt
  AreOpen-same opened now c (first ∷ rest) same none are =
      let parts = or_parts (first.from == c) (has_from c (map kept rest)) none in
      (rw (same first.from (ne_eqb c first.from (λ e. eqb-false first.from c parts.0 (sym e)))) are.0, AreOpen-same opened now c rest same parts.1 are.1)

module _ {F : Type 0} (o : Opening F) (n : ℕ) where
  -- the caller is told by the place
  pub from-at : (turns : List (Turn F)) (c t : ℕ) (asked : Asked F) → IsRight o n turns → IsOf t asked (open_call o turns asked.from)
      → (asked.from == c) ≡ is_at (open_call o turns c) asked
  from-at turns c t asked right is = by_calls (open_call o turns asked.from) (open_call o turns c) refl refl is
    where
      by_calls : (its call : Option (FenceCall F)) → open_call o turns asked.from ≡ its → open_call o turns c ≡ call → IsOf t asked its → (asked.from == c) ≡ is_at call asked
      by_calls None call opened inside is = absurd is
      by_calls (Some its) None opened inside is = ne_eqb asked.from c (λ same. let also = ap (open_call o turns) same in cc)
      by_calls (Some its) (Some call) opened inside is = elim (eqb_tells asked.from c) [
        | inl same ↦ same.0 ∙ sym (eq-eqb asked.place call.place (let also : its.place ≡ call.place = ap place_of (sym opened ∙ ap (open_call o turns) same.1 ∙ inside) in sym is.0 ∙ also))
        | inr other ↦ other.0 ∙ sym (ne_eqb asked.place call.place (λ e. other.1 (open-apart o n turns asked.from c its call right opened inside (is.0 ∙ e))))
      ]

  pub by-caller : (turns : List (Turn F)) (c t : ℕ) (waits : List (Asked F)) → IsRight o n turns → AreOpen t (open_call o turns) waits
      → has_from c (map kept waits) ≡ list_any (is_at (open_call o turns c)) waits
  by-caller turns c t [] right are = refl
  by-caller turns c t (first ∷ rest) right are = rw (from-at turns c t first right are.0, by-caller turns c t rest right are.1) refl

  -- ---- the queues after right turns

  -- what waits at a hart: of open calls, and one of each hart
  pub record IsSound (turns : List (Turn F)) (t : ℕ) : Type 0 where
    pub opens : AreOpen t (open_call o turns) (waiting o turns t)
    pub queue : IsQueue n t (map kept (waiting o turns t))
    pub within : n ≤ t → waiting o turns t ≡ []

  sound-as : (turns : List (Turn F)) (t : ℕ) (waits : List (Asked F)) → waiting o turns t ≡ waits → AreOpen t (open_call o turns) waits
      → IsQueue n t (map kept waits) → (n ≤ t → waits ≡ []) → IsSound turns t
  sound-as turns t waits is opens queue within = record {
    opens = rw is opens;
    queue = rw is queue;
    within = λ far. is ∙ within far;
  }

  queue-push : (t : ℕ) (waits : List (Asked F)) (asked : Asked F) → IsQueue n t (map kept waits) → asked.from < n → (asked.from == t) ≡ false
      → has_from asked.from (map kept waits) ≡ false → IsQueue n t (map kept (waits ++ asked ∷ []))
  queue-push t waits asked queue below other once =
      rw (map-append kept waits (asked ∷ [])) (IsQueue-push n t (map kept waits) (kept asked) queue below other once)

  queue-drop : (t : ℕ) (waits : List (Asked F)) → IsQueue n t (map kept waits) → IsQueue n t (map kept (drop 1 waits))
  queue-drop t [] queue = tt
  queue-drop t (first ∷ rest) queue = queue.3

  pub sound : (turns : List (Turn F)) (t : ℕ) → IsRight o n turns → IsSound turns t
  sound [] t right = record { opens = open-All t (open_call o []) (waited_at o t) (right.opens t); queue = right.queue t; within = right.within t }
  sound (turn ∷ turns) t right = by_turn turn right.0 (waiting-more o n turn turns t right.1) (sound turns t right.1)
    where
      by_turn : (turn : Turn F) → IsRightTurn o n turns turn → waiting o (turn ∷ turns) t ≡ waited (waiting o turns t) (place_after o turns) turn t
          → IsSound turns t → IsSound (turn ∷ turns) t
      by_turn (Ask x asked flush) ok is s =
          let closed = none-from t (open_call o turns) x (waiting o turns t) s.opens ok.2 in
          let opens = AreOpen-same t (open_call o turns) (open_call o (Ask x asked flush ∷ turns)) x (waiting o turns t) (λ d other. rw other refl) closed s.opens in
          by_member (x == t) (asked t) refl refl closed opens
        where
          by_member : (own named : Bool) → (x == t) ≡ own → asked t ≡ named → has_from x (map kept (waiting o turns t)) ≡ false
              → AreOpen t (open_call o (Ask x asked flush ∷ turns)) (waiting o turns t) → IsSound (Ask x asked flush ∷ turns) t
          by_member true named here there closed opens = sound-as _ t (waiting o turns t) (is ∙ rw here refl) opens s.queue s.within
          by_member false false here there closed opens = sound-as _ t (waiting o turns t) (is ∙ rw (here, there) refl) opens s.queue s.within
          by_member false true here there closed opens =
              let last : Asked F = record { place = place_after o turns; from = x; flush = flush } in
              let inside = ok.1 t there in
              sound-as _ t (waiting o turns t ++ last ∷ []) (is ∙ rw (here, there) refl)
              (AreOpen-push t (open_call o (Ask x asked flush ∷ turns)) (waiting o turns t) last opens
              (rw (eq-eqb x x refl) (refl, refl, has-ids_where asked t (omega (arith, inside, few-harts o n turns right.1)) ∙ there)))
              (queue-push t (waiting o turns t) last s.queue ok.0 here closed)
              (λ far. absurd (omega arith))
      by_turn (Own x flush) ok is s = sound-as _ t (waiting o turns t) is s.opens s.queue s.within
      by_turn (Serve x) ok is s = by_hart (x == t) refl
        where
          by_hart : (own : Bool) → (x == t) ≡ own → IsSound (Serve x ∷ turns) t
          by_hart true here = sound-as _ t (drop 1 (waiting o turns t)) (is ∙ rw here refl) (AreOpen-drop t (open_call o turns) (waiting o turns t) s.opens)
              (queue-drop t (waiting o turns t) s.queue) (λ far. ap (drop 1) (s.within far))
          by_hart false here = sound-as _ t (waiting o turns t) (is ∙ rw here refl) s.opens s.queue s.within
      by_turn (Poll x) ok is s =
          sound-as _ t (waiting o turns t) is
          (AreOpen-same t (open_call o turns) (open_call o (Poll x ∷ turns)) x (waiting o turns t) (λ d other. rw other refl) none s.opens) s.queue s.within
        where
          none : has_from x (map kept (waiting o turns t)) ≡ false
          none = by-caller turns x t (waiting o turns t) right.1 s.opens ∙ elim (cases_lt t n) [
            | inl near ↦ none-passes (is_outstanding o turns x) n 0 t ok.2 (omega arith) (omega arith)
            | inr far ↦ ap (list_any (is_at (open_call o turns x))) (s.within far)
          ]
      by_turn (Stop x) ok is s = by_hart (x == t) refl
        where
          by_hart : (own : Bool) → (x == t) ≡ own → IsSound (Stop x ∷ turns) t
          by_hart true here = sound-as _ t [] (is ∙ rw here refl) tt tt (λ far. refl)
          by_hart false here = sound-as _ t (waiting o turns t) (is ∙ rw here refl) s.opens s.queue s.within
      by_turn Reset ok is s = sound-as _ t [] is tt tt (λ far. refl)
      by_turn Quiet ok is s = sound-as _ t (waiting o turns t) is s.opens s.queue s.within

  -- a hart's calls wait where requests of its are
  pub outstanding-from : (turns : List (Turn F)) (c t : ℕ) → IsRight o n turns → is_outstanding o turns c t ≡ has_from c (map kept (waiting o turns t))
  outstanding-from turns c t right = sym (by-caller turns c t (waiting o turns t) right (sound turns t right).opens)
