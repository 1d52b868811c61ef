-- Positions of requests in queues.
use Rattle.std.proofs.Common.{◌≡◌, ℕ, ◌+◌, ◌-◌, ◌<◌, ◌≤◌, suc, zero, Bool, true, false, cond, List, [], ◌∷◌, ◌++◌, length, drop, get_or, refl, sym, ap, ◌∙◌, arith, ltb, inl, inr}
use Rattle.std.specs.Prelude.{◌==◌, ◌||◌, not, if◌then◌else◌, Option, Some, None}
use Rattle.std.specs.List.{list_any, position_or_len}
use Rattle.std.proofs.lemmas.Bool.{cases_lt, eqb-true, le-ltb, lt-ltb, or_from}
use Rattle.std.proofs.lemmas.List.{get_or-map, get_or_past}
use Rattle.circular_buffer.specs.Buffer.{Buffer}
use Rattle.fence_queue.specs.declared.request.Request.{Request}
use Rattle.fence_queue.specs.Positions.{one_later, position_of}
use Rattle.fence_queue.specs.Queues.{IsQueue, has_from, is_from, queue_at}
use Rattle.fence_queue.specs.Inside.Rings.{queue_in, queues_of}

one_later-le : (n : ℕ) → one_later n ≤ suc n
one_later-le zero = omega arith
one_later-le (suc n) = omega arith

one_later-zero : (n : ℕ) → one_later n ≡ 0 → n ≡ 0
one_later-zero zero is = refl
one_later-zero (suc n) is = cc

-- a position by an index, if there is one
abbrev pub counted : Option ℕ → ℕ
counted None = 0
counted (Some index) = suc index

module _ {A : Type 0} (test : A → Bool) where
  -- a position is within its list
  pub position_of-le : (xs : List A) → position_of test xs ≤ length xs
  position_of-le [] = omega arith
  position_of-le (x ∷ xs) = by_test (test x) (position_of-le xs)
    where
      by_test : (here : Bool) → position_of test xs ≤ length xs → (if here then 1 else one_later (position_of test xs)) ≤ suc (length xs)
      by_test true later = omega arith
      by_test false later = omega (arith, later, one_later-le (position_of test xs))

  -- it is 0 where none passes, and only there
  pub position_of-none : (xs : List A) → list_any test xs ≡ false → position_of test xs ≡ 0
  position_of-none [] none = refl
  position_of-none (x ∷ xs) none = by_test (test x) none (position_of-none xs)
    where
      by_test : (here : Bool) → (here || list_any test xs) ≡ false → (list_any test xs ≡ false → position_of test xs ≡ 0) → (if here then 1 else one_later (position_of test xs)) ≡ 0
      by_test true is later = cc
      by_test false is later = ap one_later (later is)

  pub none-position_of : (xs : List A) → position_of test xs ≡ 0 → list_any test xs ≡ false
  none-position_of [] none = refl
  none-position_of (x ∷ xs) none = by_test (test x) none (none-position_of xs)
    where
      by_test : (here : Bool) → (if here then 1 else one_later (position_of test xs)) ≡ 0 → (position_of test xs ≡ 0 → list_any test xs ≡ false) → (here || list_any test xs) ≡ false
      by_test true is later = cc
      by_test false is later = later (one_later-zero (position_of test xs) is)

  -- one that doesn't pass changes no position where it comes last
  pub position_of-push : (xs : List A) (x : A) → test x ≡ false → position_of test (xs ++ x ∷ []) ≡ position_of test xs
  position_of-push [] x fails = rw fails refl
  position_of-push (y ∷ ys) x fails = ap (λ m. if test y then 1 else one_later m) (position_of-push ys x fails)

  -- the position by the first index that passes
  pub position_of-index : (xs : List A) → position_of test xs ≡ counted (cond (ltb (position_or_len test xs) (length xs)) (Some (position_or_len test xs)) None)
  position_of-index [] = refl
  position_of-index (x ∷ xs) = by_test (test x) (position_of-index xs)
    where
      by_test : (here : Bool) → position_of test xs ≡ counted (cond (ltb (position_or_len test xs) (length xs)) (Some (position_or_len test xs)) None)
          → (if here then 1 else one_later (position_of test xs))
          ≡ counted (cond (ltb (cond (not here) (1 + position_or_len test xs) 0) (suc (length xs))) (Some (cond (not here) (1 + position_or_len test xs) 0)) None)
      by_test true rest = rw (lt-ltb 0 (suc (length xs)) (omega arith)) refl
      by_test false rest = elim (cases_lt (position_or_len test xs) (length xs)) [
        | inl near ↦
            let is : position_of test xs ≡ suc (position_or_len test xs) = rest ∙ rw (lt-ltb (position_or_len test xs) (length xs) near) refl in
            rw (lt-ltb (1 + position_or_len test xs) (suc (length xs)) (omega (arith, near)), is) (omega arith)
        | inr far ↦
            let is : position_of test xs ≡ 0 = rest ∙ rw (le-ltb (position_or_len test xs) (length xs) far) refl in
            rw (le-ltb (1 + position_or_len test xs) (suc (length xs)) (omega (arith, far)), is) refl
      ]

-- ---- requests

module _ {F : Type 0} where
  -- the first request leaves: each other one is one position nearer
  pub position_of-drop : (n t c : ℕ) (requests : List (Request F)) → IsQueue n t requests → position_of (is_from c) (drop 1 requests) ≡ position_of (is_from c) requests - 1
  position_of-drop n t c [] queue = omega arith
  position_of-drop n t c (first ∷ rest) queue = by_caller (is_from c first) refl
    where
      nearer : (m : ℕ) → m ≡ one_later m - 1
      nearer zero = omega arith
      nearer (suc m) = omega arith

      by_caller : (here : Bool) → is_from c first ≡ here → position_of (is_from c) rest ≡ (if here then 1 else one_later (position_of (is_from c) rest)) - 1
      by_caller true here =
          let once = ap (λ d. has_from d rest) (sym (eqb-true first.from c here)) ∙ queue.2 in
          omega (arith, position_of-none (is_from c) rest once)
      by_caller false here = nearer (position_of (is_from c) rest)

  -- no request of a hart waits at the hart itself
  pub none-own : (n t : ℕ) (requests : List (Request F)) → IsQueue n t requests → has_from t requests ≡ false
  none-own n t [] queue = refl
  none-own n t (first ∷ rest) queue = or_from (first.from == t) (has_from t rest) queue.1 (none-own n t rest queue.3)

  -- at a hart that isn't there none has a position
  pub position_of-outside : (queues : List (List (Request F))) (t c : ℕ) → length queues ≤ t → position_of (is_from c) (queue_at queues t) ≡ 0
  position_of-outside queues t c outside = ap (position_of (is_from c)) (get_or_past queues t [] outside)

  -- what is found in the ring of a hart is told of its queue
  pub position_of-found : (rings : List (Buffer (Request F))) (queues : List (List (Request F))) (t c : ℕ) (ring : Buffer (Request F)) (found : Option ℕ) → queues_of rings ≡ queues
      → t < length rings → ring ≡ get_or rings t ring
      → found ≡ cond (ltb (position_or_len (is_from c) ring.items) (length ring.items)) (Some (position_or_len (is_from c) ring.items)) None
      → counted found ≡ position_of (is_from c) (queue_at queues t)
  position_of-found rings queues t c ring found view inside same is =
      let there : ring.items ≡ queue_at queues t = ap queue_in same ∙ sym (get_or-map queue_in rings t ring [] inside) ∙ ap (λ qs. queue_at qs t) view in
      ap counted is ∙ sym (position_of-index (is_from c) ring.items) ∙ ap (position_of (is_from c)) there
