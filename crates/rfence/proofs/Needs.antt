-- What a fence call needs, turn by turn.
use Rattle.std.proofs.Common.{◌≡◌, ℕ, ◌-◌, ◌<◌, ◌≤◌, Bool, true, false, List, [], ◌∷◌, ◌++◌, length, drop, map, refl, sym, ap, ◌∙◌, arith, inl, inr}
use Rattle.std.specs.Prelude.{◌==◌, ◌||◌, ◌&&◌, not, if◌then◌else◌, Option, Some, None, is_some}
use Rattle.std.specs.List.{list_any}
use Rattle.std.proofs.lemmas.Bool.{cases_lt, eq-eqb, eqb-true, ne_eqb, or_parts}
use Rattle.hart_mask.specs.Ids.{ids_where}
use Rattle.fence_queue.specs.Positions.{one_later, position_of}
use Rattle.fence_queue.specs.Queues.{is_from}
use Rattle.fence_queue.proofs.Positions.{position_of-drop, position_of-le, position_of-push}
use Rattle.rfence.specs.declared.opened.FenceCall.{FenceCall}
use Rattle.rfence.specs.Opening.{Asked, Opening, kept, place_after}
use Rattle.rfence.specs.Turns.{Turn, Ask, Own, Serve, Poll, Stop, Reset, Quiet}
use Rattle.rfence.specs.Waiting.{added, one_more, waiting}
use Rattle.rfence.specs.Calls.{is_at, open_by, open_call}
use Rattle.rfence.specs.Right.{IsRight, IsRightTurn}
use Rattle.rfence.specs.Need.{IsLeft, IsLowered, ends, is_stop, need, serves_in}
use Rattle.rfence.proofs.Waits.{waited, waiting-more}
use Rattle.rfence.proofs.Callers.{AreOpen, AreOpen-drop, from-at, open-below, sound}

-- ---- numbers and places

some-call : {A : Type 0} (call : Option A) → is_some call ≡ true → (its : A) × (call ≡ Some its)
some-call None is = cc
some-call (Some its) is = (its, refl)

-- what a serve more leaves, and a stop more
serve-left : (own stopped : Bool) (k m : ℕ) → (if own then (if stopped then 0 else k - m) - 1 else (if stopped then 0 else k - m)) ≡ (if stopped then 0 else k - one_more own m)
serve-left true true k m = omega arith
serve-left true false k m = omega arith
serve-left false true k m = refl
serve-left false false k m = refl

stop-left : (own stopped : Bool) (m : ℕ) → (if own then 0 else (if stopped then 0 else m)) ≡ (if own || stopped then 0 else m)
stop-left true true m = refl
stop-left true false m = refl
stop-left false true m = refl
stop-left false false m = refl

less-none : (k : ℕ) → k ≡ k - 0
less-none k = omega arith

module _ {F : Type 0} (o : Opening F) where
  -- ---- by callers

  -- the position of a call's fence is that of its caller's request
  position-caller : (n : ℕ) (turns : List (Turn F)) (c t : ℕ) (waits : List (Asked F)) → IsRight o n turns → AreOpen t (open_call o turns) waits
      → position_of (is_from c) (map kept waits) ≡ position_of (is_at (open_call o turns c)) waits
  position-caller n turns c t [] right are = refl
  position-caller n turns c t (first ∷ rest) right are = rw (from-at o n turns c t first right are.0, position-caller n turns c t rest right are.1) refl

  pub need-caller : (n : ℕ) (turns : List (Turn F)) (c t : ℕ) → IsRight o n turns → position_of (is_from c) (map kept (waiting o turns t)) ≡ need o turns c t
  need-caller n turns c t right = position-caller n turns c t (waiting o turns t) right (sound o n turns t right).opens

  map-drop : (waits : List (Asked F)) → map kept (drop 1 waits) ≡ drop 1 (map kept waits)
  map-drop [] = refl
  map-drop (first ∷ rest) = refl

  -- ---- one turn

  -- what a turn that doesn't end the call leaves of a need
  abbrev pub needed : Turn F → (t : ℕ) → ℕ → ℕ
  needed (Serve x) t before = if x == t then before - 1 else before
  needed (Stop x) t before = if x == t then 0 else before
  needed turn t before = before

  -- a call that isn't ended stays as it is
  pub open-more : (n : ℕ) (turn : Turn F) (turns : List (Turn F)) (c : ℕ) (p : FenceCall F) → IsRightTurn o n turns turn → open_call o turns c ≡ Some p → ends c turn ≡ false
      → open_by (place_after o turns) turn c (open_call o turns c) ≡ Some p
  open-more n (Ask x asked flush) turns c p right opened goes = by_caller (x == c) refl
    where
      by_caller : (own : Bool) → (x == c) ≡ own → (if own then Some (record { place = place_after o turns; asked = ids_where asked; flush = flush }) else open_call o turns c) ≡ Some p
      by_caller true is = let closed = ap (open_call o turns) (sym (eqb-true x c is)) ∙ right.2 in absurd (let wrong = sym opened ∙ closed in cc)
      by_caller false is = opened
  open-more n (Own x flush) turns c p right opened goes = opened
  open-more n (Serve x) turns c p right opened goes = opened
  open-more n (Poll x) turns c p right opened goes = rw goes opened
  open-more n (Stop x) turns c p right opened goes = opened
  open-more n Reset turns c p right opened goes = cc
  open-more n Quiet turns c p right opened goes = opened

  -- what waits, by a turn, at the call of this place
  position-more : (n : ℕ) (turn : Turn F) (turns : List (Turn F)) (c t : ℕ) (p : FenceCall F) → IsRight o n (turn ∷ turns) → open_call o turns c ≡ Some p
      → ends c turn ≡ false → position_of (is_at (Some p)) (waited (waiting o turns t) (place_after o turns) turn t) ≡ needed turn t (position_of (is_at (Some p)) (waiting o turns t))
  position-more n (Ask x asked flush) turns c t p right opened goes = by_asked (not (x == t) && asked t)
    where
      by_asked : (is : Bool)
          → position_of (is_at (Some p)) (added (waiting o turns t) (if is then Some (record { place = place_after o turns; from = x; flush = flush }) else None))
          ≡ position_of (is_at (Some p)) (waiting o turns t)
      by_asked true =
          let low = open-below o n turns c p right.1 opened in
          position_of-push (is_at (Some p)) (waiting o turns t) (record { place = place_after o turns; from = x; flush = flush }) (ne_eqb (place_after o turns) p.place (λ e. absurd (omega arith)))
      by_asked false = refl
  position-more n (Own x flush) turns c t p right opened goes = refl
  position-more n (Serve x) turns c t p right opened goes = by_hart (x == t)
    where
      served : position_of (is_at (Some p)) (drop 1 (waiting o turns t)) ≡ position_of (is_at (Some p)) (waiting o turns t) - 1
      served =
          let s = sound o n turns t right.1 in
          let before = need-caller n turns c t right.1 ∙ ap (λ call. position_of (is_at call) (waiting o turns t)) opened in
          let now = position-caller n turns c t (drop 1 (waiting o turns t)) right.1 (AreOpen-drop t (open_call o turns) (waiting o turns t) s.opens)
          ∙ ap (λ call. position_of (is_at call) (drop 1 (waiting o turns t))) opened in
          sym now ∙ ap (position_of (is_from c)) (map-drop (waiting o turns t)) ∙ position_of-drop n t c (map kept (waiting o turns t)) s.queue ∙ ap (λ m. m - 1) before

      by_hart : (own : Bool) → position_of (is_at (Some p)) (if own then drop 1 (waiting o turns t) else waiting o turns t)
          ≡ (if own then position_of (is_at (Some p)) (waiting o turns t) - 1 else position_of (is_at (Some p)) (waiting o turns t))
      by_hart true = served
      by_hart false = refl
  position-more n (Poll x) turns c t p right opened goes = refl
  position-more n (Stop x) turns c t p right opened goes = by_hart (x == t)
    where
      by_hart : (own : Bool) → position_of (is_at (Some p)) (if own then [] else waiting o turns t) ≡ (if own then 0 else position_of (is_at (Some p)) (waiting o turns t))
      by_hart true = refl
      by_hart false = refl
  position-more n Reset turns c t p right opened goes = cc
  position-more n Quiet turns c t p right opened goes = refl

  -- what is needed, by the last turn
  pub need-more : (n : ℕ) (turn : Turn F) (turns : List (Turn F)) (c t : ℕ) (p : FenceCall F) → IsRight o n (turn ∷ turns) → open_call o turns c ≡ Some p → ends c turn ≡ false
      → need o (turn ∷ turns) c t ≡ needed turn t (need o turns c t)
  need-more n turn turns c t p right opened goes =
      ap (λ call. position_of (is_at call) (waiting o (turn ∷ turns) t)) (open-more n turn turns c p right.0 opened goes)
      ∙ ap (position_of (is_at (Some p))) (waiting-more o n turn turns t right.1)
      ∙ position-more n turn turns c t p right opened goes
      ∙ ap (λ call. needed turn t (position_of (is_at call) (waiting o turns t))) (sym opened)

  -- ---- calls that aren't there

  pub never : (waits : List (Asked F)) → position_of (is_at None) waits ≡ 0
  never [] = refl
  never (first ∷ rest) = ap one_later (never rest)

  pub closed-needs-none : (turns : List (Turn F)) (c t : ℕ) → open_call o turns c ≡ None → need o turns c t ≡ 0
  closed-needs-none turns c t closed = ap (λ call. position_of (is_at call) (waiting o turns t)) closed ∙ never (waiting o turns t)

  -- a turn that ends the call leaves nothing of what it needed
  ended-needs-none : (n : ℕ) (turn : Turn F) (turns : List (Turn F)) (c t : ℕ) → ends c turn ≡ true → need o (turn ∷ turns) c t ≡ 0
  ended-needs-none n turn turns c t is = closed-needs-none (turn ∷ turns) c t (closes turn is)
    where
      closes : (turn : Turn F) → ends c turn ≡ true → open_by (place_after o turns) turn c (open_call o turns c) ≡ None
      closes (Ask x asked flush) is = cc
      closes (Own x flush) is = cc
      closes (Serve x) is = cc
      closes (Poll x) is = rw is refl
      closes (Stop x) is = cc
      closes Reset is = refl
      closes Quiet is = cc

  -- a call that needs something is there
  pub needs-open : (turns : List (Turn F)) (c t : ℕ) → 0 < need o turns c t → (p : FenceCall F) × (open_call o turns c ≡ Some p)
  needs-open turns c t some = by_call (open_call o turns c) refl
    where
      by_call : (call : Option (FenceCall F)) → open_call o turns c ≡ call → (p : FenceCall F) × (open_call o turns c ≡ Some p)
      by_call None is = absurd (omega (arith, some, closed-needs-none turns c t is))
      by_call (Some p) is = (p, is)

  needed-le : (turn : Turn F) (t k : ℕ) → needed turn t k ≤ k
  needed-le (Serve x) t k = by_hart (x == t)
    where
      by_hart : (own : Bool) → (if own then k - 1 else k) ≤ k
      by_hart true = omega arith
      by_hart false = omega arith
  needed-le (Stop x) t k = by_hart (x == t)
    where
      by_hart : (own : Bool) → (if own then 0 else k) ≤ k
      by_hart true = omega arith
      by_hart false = omega arith
  needed-le (Ask x asked flush) t k = omega arith
  needed-le (Own x flush) t k = omega arith
  needed-le (Poll x) t k = omega arith
  needed-le Reset t k = omega arith
  needed-le Quiet t k = omega arith

  pub none-raises : (n : ℕ) (turn : Turn F) (turns : List (Turn F)) (c t : ℕ) → IsRight o n (turn ∷ turns) → is_some (open_call o turns c) ≡ true → need o (turn ∷ turns) c t ≤ need o turns c t
  none-raises n turn turns c t right inside = by_end (ends c turn) refl
    where
      by_end : (over : Bool) → ends c turn ≡ over → need o (turn ∷ turns) c t ≤ need o turns c t
      by_end true is = omega (arith, ended-needs-none n turn turns c t is)
      by_end false is =
          let call = some-call (open_call o turns c) inside in
          omega (arith, need-more n turn turns c t call.0 right call.1 is, needed-le turn t (need o turns c t))

  -- ---- a serve

  pub serve-lowers : (n : ℕ) (turns : List (Turn F)) (c t : ℕ) → IsRight o n turns → 0 < need o turns c t → IsLowered o n turns c t
  serve-lowers n turns c t right some =
      let call = needs-open turns c t some in
      let s = sound o n turns t right in
      let long = position_of-le (is_at (open_call o turns c)) (waiting o turns t) in
      let inside : t < n = elim (cases_lt t n) [
        | inl near ↦ near
        | inr far ↦ absurd (omega (arith, some, long, ap length (s.within far)))
      ] in
      let can : IsRightTurn o n turns (Serve t) = (inside, omega (arith, some, long)) in
      let now : need o (Serve t ∷ turns) c t ≡ need o turns c t - 1 = need-more n (Serve t) turns c t call.0 (can, right) call.1 refl ∙ rw (eq-eqb t t refl) refl in
      record { can_serve = can; lowered = omega (arith, some, now) }

  -- ---- as long as a call goes on

  abbrev left_of : List (Turn F) → (t k : ℕ) → ℕ
  left_of newer t k = if list_any (is_stop t) newer then 0 else k - serves_in t newer

  left-more : (turn : Turn F) (newer : List (Turn F)) (t k : ℕ) → needed turn t (left_of newer t k) ≡ left_of (turn ∷ newer) t k
  left-more (Serve x) newer t k = serve-left (x == t) (list_any (is_stop t) newer) k (serves_in t newer)
  left-more (Stop x) newer t k = stop-left (x == t) (list_any (is_stop t) newer) (k - serves_in t newer)
  left-more (Ask x asked flush) newer t k = refl
  left-more (Own x flush) newer t k = refl
  left-more (Poll x) newer t k = refl
  left-more Reset newer t k = refl
  left-more Quiet newer t k = refl

  pub record GoesOn (newer older : List (Turn F)) (c : ℕ) (p : FenceCall F) : Type 0 where
    pub opened : open_call o (newer ++ older) c ≡ Some p
    pub left : (t : ℕ) → need o (newer ++ older) c t ≡ left_of newer t (need o older c t)

  goes-on : (n : ℕ) (newer older : List (Turn F)) (c : ℕ) (p : FenceCall F) → IsRight o n (newer ++ older) → open_call o older c ≡ Some p → list_any (ends c) newer ≡ false → GoesOn newer older c p
  goes-on n [] older c p right opened goes = record { opened = opened; left = λ t. less-none (need o older c t) }
  goes-on n (turn ∷ newer) older c p right opened goes =
      let parts = or_parts (ends c turn) (list_any (ends c) newer) goes in
      let before = goes-on n newer older c p right.1 opened parts.1 in
      record {
        opened = open-more n turn (newer ++ older) c p right.0 before.opened parts.0;
        left = λ t. need-more n turn (newer ++ older) c t p right before.opened parts.0 ∙ ap (needed turn t) (before.left t) ∙ left-more turn newer t (need o older c t);
      }

  pub is-left : (n : ℕ) (newer older : List (Turn F)) (c : ℕ) → IsRight o n (newer ++ older) → is_some (open_call o older c) ≡ true → list_any (ends c) newer ≡ false → IsLeft o newer older c
  is-left n newer older c right inside goes =
      let call = some-call (open_call o older c) inside in
      let on = goes-on n newer older c call.0 right call.1 goes in
      record { opened = on.opened ∙ sym call.1; left = on.left }
