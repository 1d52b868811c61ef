-- Of the harts of which fences were asked, they were applied at some, and wait at the others.
use Rattle.std.proofs.Common.{◌≡◌, ℕ, ◌+◌, ◌*◌, ◌<◌, ◌≤◌, suc, zero, Bool, true, false, cond, List, [], ◌∷◌, length, drop, map, refl, sym, ap, ◌∙◌, arith, inl, inr}
use Rattle.std.specs.Prelude.{◌==◌, ◌&&◌, filter, if◌then◌else◌, not, sum_by, Some, None}
use Rattle.std.specs.List.{range_with_len}
use Rattle.std.proofs.lemmas.Bool.{cases_Bool, cases_eq, eq-eqb, ne_eqb}
use Rattle.std.proofs.lemmas.List.{length-append, length-drop, length-map}
use Rattle.std.proofs.lemmas.List.Sums.{sum_by-cons}
use Rattle.hart_mask.specs.Ids.{ids_where}
use Rattle.rfence.specs.Opening.{Opening, kept, place_after}
use Rattle.rfence.specs.Turns.{Turn, Ask, Own, Serve, Poll, Stop, Reset, Quiet}
use Rattle.rfence.specs.Waiting.{added, waiting}
use Rattle.rfence.specs.Laws.{total_waiting}
use Rattle.rfence.specs.Right.{IsRight, IsRightTurn}
use Rattle.rfence.specs.State.{applied_in, asked_by, queue_of, total_applied, total_asked}
use Rattle.rfence.proofs.Counts.{few-asked, filter-below}
use Rattle.rfence.proofs.Callers.{few-harts}
use Rattle.rfence.proofs.Waits.{waited, waiting-more}

-- ---- sums over the harts from a on

abbrev pub sum_from : (ℕ → ℕ) → (a n : ℕ) → ℕ
sum_from f a zero = 0
sum_from f a (suc n) = f a + sum_from f (a + 1) n

pub is-sum : (f : ℕ → ℕ) (a n : ℕ) → sum_by f (range_with_len a n) ≡ sum_from f a n
is-sum f a zero = refl
is-sum f a (suc n) = sum_by-cons f a (range_with_len (a + 1) n) ∙ ap (λ rest. f a + rest) (is-sum f (a + 1) n)

pub sum-agree : (f g : ℕ → ℕ) (a n : ℕ) → ((t : ℕ) → a ≤ t → f t ≡ g t) → sum_from f a n ≡ sum_from g a n
sum-agree f g a zero same = refl
sum-agree f g a (suc n) same =
    let here = same a (omega arith) in
    let rest = sum-agree f g (a + 1) n (λ t above. same t (omega arith)) in
    omega (arith, here, rest)

-- the functions agree but at one hart
pub sum-but-one : (f g : ℕ → ℕ) (a n x : ℕ) → a ≤ x → x < a + n → ((t : ℕ) → (t ≡ x → ⊥) → f t ≡ g t) → sum_from f a n + g x ≡ sum_from g a n + f x
sum-but-one f g a zero x low high same = absurd (omega arith)
sum-but-one f g a (suc n) x low high same = elim (cases_eq a x) [
  | inl here ↦
      let rest = sum-agree f g (a + 1) n (λ t above. same t (λ e. absurd (omega arith))) in
      let left = ap f here in
      let right = ap g here in
      omega (arith, rest, left, right)
  | inr other ↦
      let first = same a other in
      let rest = sum-but-one f g (a + 1) n x (omega arith) (omega arith) same in
      omega (arith, first, rest)
]

pub sum-plus : (f g : ℕ → ℕ) (a n : ℕ) → sum_from (λ t. f t + g t) a n ≡ sum_from f a n + sum_from g a n
sum-plus f g a zero = refl
sum-plus f g a (suc n) = let rest = sum-plus f g (a + 1) n in omega (arith, rest)

pub sum-none : (a n : ℕ) → sum_from (λ t. 0) a n ≡ 0
sum-none a zero = refl
sum-none a (suc n) = omega (arith, sum-none (a + 1) n)

abbrev pub one_if : Bool → ℕ
one_if b = if b then 1 else 0

-- how many pass is a sum
count-sum : (p : ℕ → Bool) (a n : ℕ) → length (filter p (range_with_len a n)) ≡ sum_from (λ t. one_if (p t)) a n
count-sum p a zero = refl
count-sum p a (suc n) = by_test (p a) (count-sum p (a + 1) n)
  where
    by_test : (b : Bool) → length (filter p (range_with_len (a + 1) n)) ≡ sum_from (λ t. one_if (p t)) (a + 1) n
        → length (cond b (a ∷ filter p (range_with_len (a + 1) n)) (filter p (range_with_len (a + 1) n))) ≡ one_if b + sum_from (λ t. one_if (p t)) (a + 1) n
    by_test true rest = omega (arith, rest)
    by_test false rest = omega (arith, rest)

length-added_if : {A : Type 0} (xs : List A) (b : Bool) (x : A) → length (added xs (if b then Some x else None)) ≡ length xs + one_if b
length-added_if xs true x = omega (arith, length-append xs (x ∷ []))
length-added_if xs false x = omega arith

-- a fence is asked of harts that are there
asked-sum : (n : ℕ) (asked : ℕ → Bool) → n ≤ 128 → ((t : ℕ) → asked t ≡ true → t < n) → length (ids_where asked) ≡ sum_from (λ t. one_if (asked t)) 0 n
unfolding ids_where
asked-sum n asked limit inside =
    ap length (filter-below asked 0 128 n limit (λ i far. elim (cases_Bool (asked i)) [
      | inl is ↦ let near = inside i is in absurd (omega arith)
      | inr isnt ↦ isnt
    ]))
    ∙ count-sum asked 0 n

module _ {F : Type 0} (o : Opening F) where
  -- how many wait at a hart
  abbrev waits : List (Turn F) → ℕ → ℕ
  waits turns t = length (waiting o turns t)

  -- of those that waited, how many wait after a turn
  abbrev waits_after : List (Turn F) → Turn F → ℕ → ℕ
  waits_after turns turn t = length (waited (waiting o turns t) (place_after o turns) turn t)

  pub queues-sum : (turns : List (Turn F)) (a n : ℕ) → sum_by length (map (queue_of o turns) (range_with_len a n)) ≡ sum_from (waits turns) a n
  queues-sum turns a zero = refl
  queues-sum turns a (suc n) =
      let first = sum_by-cons length (queue_of o turns a) (map (queue_of o turns) (range_with_len (a + 1) n)) in
      let same = length-map (waiting o turns a) kept in
      let rest = queues-sum turns (a + 1) n in
      omega (arith, first, same, rest)

  one-turn : (n : ℕ) (turns : List (Turn F)) (turn : Turn F) → n ≤ 128 → IsRightTurn o n turns turn
      → asked_by turn + sum_from (waits turns) 0 n ≡ applied_in o n turns turn + sum_from (waits_after turns turn) 0 n
  one-turn n turns (Ask x asked flush) limit ok =
      let now = sum-but-one (waits_after turns (Ask x asked flush)) (λ t. waits turns t + one_if (asked t)) 0 n x (omega arith) (omega (arith, ok.0)) others in
      let split = sum-plus (waits turns) (λ t. one_if (asked t)) 0 n in
      let all = asked-sum n asked limit ok.1 in
      omega (arith, now, split, all, own)
    where
      later : (t : ℕ) (own : Bool) → (x == t) ≡ own → waits_after turns (Ask x asked flush) t ≡ waits turns t + one_if (not own && asked t)
      later t own is = rw is (length-added_if (waiting o turns t) (not own && asked t) (record { place = place_after o turns; from = x; flush = flush }))

      others : (t : ℕ) → (t ≡ x → ⊥) → waits_after turns (Ask x asked flush) t ≡ waits turns t + one_if (asked t)
      others t other = later t false (ne_eqb x t (λ e. other (sym e)))

      own : waits_after turns (Ask x asked flush) x ≡ waits turns x + 0
      own = later x true (eq-eqb x x refl)
  one-turn n turns (Own x flush) limit ok = omega arith
  one-turn n turns (Serve x) limit ok =
      let now = sum-but-one (waits_after turns (Serve x)) (waits turns) 0 n x (omega arith) (omega (arith, ok.0)) others in
      let some = ok.1 in
      let fewer = length-drop 1 (waiting o turns x) in
      omega (arith, now, own, some, fewer)
    where
      others : (t : ℕ) → (t ≡ x → ⊥) → waits_after turns (Serve x) t ≡ waits turns t
      others t other = rw (ne_eqb x t (λ e. other (sym e))) refl

      own : waits_after turns (Serve x) x ≡ length (drop 1 (waiting o turns x))
      own = rw (eq-eqb x x refl) refl
  one-turn n turns (Poll x) limit ok = omega arith
  one-turn n turns (Stop x) limit ok =
      let now = sum-but-one (waits_after turns (Stop x)) (waits turns) 0 n x (omega arith) (omega (arith, ok)) others in
      omega (arith, now, own)
    where
      others : (t : ℕ) → (t ≡ x → ⊥) → waits_after turns (Stop x) t ≡ waits turns t
      others t other = rw (ne_eqb x t (λ e. other (sym e))) refl

      own : waits_after turns (Stop x) x ≡ 0
      own = rw (eq-eqb x x refl) refl
  one-turn n turns Reset limit ok = omega (arith, queues-sum turns 0 n, sum-none 0 n)
  one-turn n turns Quiet limit ok = omega arith

  counts : (n : ℕ) (turns : List (Turn F)) → IsRight o n turns → total_asked o turns ≡ total_applied o n turns + sum_from (waits turns) 0 n
  counts n [] right = right.agree ∙ ap (λ some. o.applied + some) (is-sum (waits []) 0 n)
  counts n (turn ∷ turns) right =
      let before = counts n turns right.1 in
      let step = one-turn n turns turn (few-harts o n turns right.1) right.0 in
      let now = sum-agree (waits (turn ∷ turns)) (waits_after turns turn) 0 n (λ t above. ap length (waiting-more o n turn turns t right.1)) in
      omega (arith, before, step, now)

  pub counts-agree : (n : ℕ) (turns : List (Turn F)) → IsRight o n turns → total_asked o turns ≡ total_applied o n turns + total_waiting o n turns
  counts-agree n turns right = counts n turns right ∙ ap (λ some. total_applied o n turns + some) (sym (is-sum (waits turns) 0 n))

  pub few-applied : (n : ℕ) (turns : List (Turn F)) → IsRight o n turns → total_applied o n turns ≤ 128 * place_after o turns
  few-applied n turns right = omega (arith, counts-agree n turns right, few-asked o n turns right)
