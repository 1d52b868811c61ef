-- How much a fence call can need, and that it can end once it needs nothing.
use Rattle.std.proofs.Common.{◌≡◌, ℕ, ◌+◌, ◌-◌, ◌*◌, ◌<◌, ◌≤◌, suc, zero, Bool, true, false, List, [], ◌++◌, map, refl, sym, ap, ◌∙◌, arith, inl, inr}
use Rattle.std.specs.Prelude.{◌⊎◌, if◌then◌else◌, filter, is_some}
use Rattle.std.specs.List.{list_any, range_with_len}
use Rattle.std.proofs.lemmas.Bool.{cases_eq, cases_lt}
use Rattle.std.proofs.lemmas.List.{length-map}
use Rattle.std.proofs.Math.Nat.{suc-mul}
use Rattle.fence_queue.specs.Queues.{is_from}
use Rattle.fence_queue.specs.Positions.{position_of}
use Rattle.fence_queue.proofs.Positions.{none-own, none-position_of, position_of-le, position_of-none}
use Rattle.fence_queue.proofs.Queue.{length-IsQueue}
use Rattle.rfence.specs.Opening.{Opening, kept}
use Rattle.rfence.specs.Turns.{Turn, Poll}
use Rattle.rfence.specs.Waiting.{waiting}
use Rattle.rfence.specs.Calls.{is_at, is_outstanding, open_call}
use Rattle.rfence.specs.Right.{IsRight, IsRightTurn}
use Rattle.rfence.specs.Need.{AreBounded, HaveServed, ends, is_stop, need, serves_in, total_need}
use Rattle.rfence.proofs.Callers.{open-within, sound}
use Rattle.rfence.proofs.Needs.{closed-needs-none, is-left, need-caller}
use Rattle.rfence.proofs.Totals.{is-sum, sum_from}

-- ---- sums

-- members of at most k each
all-below : (f : ℕ → ℕ) (k a n : ℕ) → ((t : ℕ) → f t ≤ k) → sum_from f a n ≤ n * k
all-below f k a zero most = omega arith
all-below f k a (suc n) most = omega (arith, most a, all-below f k (a + 1) n most, suc-mul n k)

-- and one of them is 0
all-but-one : (f : ℕ → ℕ) (k c a n : ℕ) → ((t : ℕ) → f t ≤ k) → f c ≡ 0 → a ≤ c → c < a + n → sum_from f a n + k ≤ n * k
all-but-one f k c a zero most none low high = absurd (omega arith)
all-but-one f k c a (suc n) most none low high = elim (cases_eq a c) [
  | inl same ↦ omega (arith, ap f same ∙ none, all-below f k (a + 1) n most, suc-mul n k)
  | inr other ↦ omega (arith, most a, all-but-one f k c (a + 1) n most none (omega arith) (omega arith), suc-mul n k)
]

-- members that are all 0
all-none : (f : ℕ → ℕ) (a n : ℕ) → ((t : ℕ) → f t ≡ 0) → sum_from f a n ≡ 0
all-none f a zero none = refl
all-none f a (suc n) none = omega (arith, none a, all-none f (a + 1) n none)

less-one : (n k m : ℕ) → m + k ≤ n * k → 0 < n → m ≤ (n - 1) * k
less-one zero k m most some = absurd (omega arith)
less-one (suc n) k m most some = let same : (suc n - 1) * k ≡ n * k = ap (λ i. i * k) (omega arith) in omega (arith, most, suc-mul n k, same)

-- a test that none passes keeps none
filter-none : (p : ℕ → Bool) (a n : ℕ) → ((t : ℕ) → a ≤ t → t < a + n → p t ≡ false) → filter p (range_with_len a n) ≡ []
filter-none p a zero none = refl
filter-none p a (suc n) none = rw (none a (omega arith) (omega arith)) (filter-none p (a + 1) n (λ t low high. none t (omega arith) (omega arith)))

module _ {F : Type 0} (o : Opening F) where
  -- ---- harts that are there

  outside-needs-none : (n : ℕ) (turns : List (Turn F)) (c t : ℕ) → IsRight o n turns → n ≤ c → need o turns c t ≡ 0
  outside-needs-none n turns c t right outside = closed-needs-none o turns c t (open-within o n turns c right outside)

  outside-is-needed-none : (n : ℕ) (turns : List (Turn F)) (c t : ℕ) → IsRight o n turns → n ≤ t → need o turns c t ≡ 0
  outside-is-needed-none n turns c t right outside = ap (position_of (is_at (open_call o turns c))) ((sound o n turns t right).within outside)

  -- ---- bounds

  each-below : (n : ℕ) (turns : List (Turn F)) (c t : ℕ) → IsRight o n turns → need o turns c t ≤ n - 1
  each-below n turns c t right = elim (cases_lt t n) [
    | inl near ↦
        let short = length-IsQueue n t (map kept (waiting o turns t)) near (sound o n turns t right).queue in
        omega (arith, short, length-map (waiting o turns t) kept, position_of-le (is_at (open_call o turns c)) (waiting o turns t))
    | inr far ↦ omega (arith, outside-is-needed-none n turns c t right far)
  ]

  own-needs-none : (n : ℕ) (turns : List (Turn F)) (c : ℕ) → IsRight o n turns → need o turns c c ≡ 0
  own-needs-none n turns c right =
      sym (need-caller o n turns c c right) ∙ position_of-none (is_from c) (map kept (waiting o turns c)) (none-own n c (map kept (waiting o turns c)) (sound o n turns c right).queue)

  total-below : (n : ℕ) (turns : List (Turn F)) (c : ℕ) → IsRight o n turns → total_need o n turns c ≤ (n - 1) * (n - 1)
  total-below n turns c right = elim (cases_lt c n) [
    | inl near ↦
        let most = less-one n (n - 1) (sum_from (need o turns c) 0 n)
        (all-but-one (need o turns c) (n - 1) c 0 n (λ t. each-below n turns c t right) (own-needs-none n turns c right) (omega arith) (omega arith)) (omega arith) in
        omega (arith, most, is-sum (need o turns c) 0 n)
    | inr far ↦ omega (arith, is-sum (need o turns c) 0 n, all-none (need o turns c) 0 n (λ t. outside-needs-none n turns c t right far))
  ]

  pub are-bounded : (n : ℕ) (turns : List (Turn F)) (c : ℕ) → IsRight o n turns → AreBounded o n turns c
  are-bounded n turns c right = record {
    each = λ t. each-below n turns c t right;
    total = total-below n turns c right;
    own = own-needs-none n turns c right;
    no_caller = λ outside t. outside-needs-none n turns c t right outside;
    no_target = λ t outside. outside-is-needed-none n turns c t right outside;
  }

  -- ---- the end of a call

  -- a call that needs nothing waits for no hart
  pub needs-none : (n : ℕ) (turns : List (Turn F)) (c : ℕ) → ((t : ℕ) → t < n → need o turns c t ≡ 0) → filter (is_outstanding o turns c) (range_with_len 0 n) ≡ []
  needs-none n turns c none =
      filter-none (is_outstanding o turns c) 0 n (λ t low high. none-position_of (is_at (open_call o turns c)) (waiting o turns t) (none t (omega arith)))

  pub can-end : (n : ℕ) (newer older : List (Turn F)) (c : ℕ) → IsRight o n (newer ++ older) → is_some (open_call o older c) ≡ true → list_any (ends c) newer ≡ false
      → HaveServed o n newer older c → IsRightTurn o n (newer ++ older) (Poll c)
  can-end n newer older c right inside goes served =
      let is = is-left o n newer older c right inside goes in
      let open_now : is_some (open_call o (newer ++ older) c) ≡ true = ap is_some is.opened ∙ inside in
      (within open_now, open_now, needs-none n (newer ++ older) c (λ t below. is.left t ∙ covered t (served t below)))
    where
      within : is_some (open_call o (newer ++ older) c) ≡ true → c < n
      within some = elim (cases_lt c n) [
        | inl near ↦ near
        | inr far ↦ let closed = ap is_some (open-within o n (newer ++ older) c right far) in cc
      ]

      covered : (t : ℕ) → (need o older c t ≤ serves_in t newer) ⊎ (list_any (is_stop t) newer ≡ true) → (if list_any (is_stop t) newer then 0 else need o older c t - serves_in t newer) ≡ 0
      covered t enough = by_stop (list_any (is_stop t) newer) refl enough
        where
          by_stop : (stopped : Bool) → list_any (is_stop t) newer ≡ stopped → (need o older c t ≤ serves_in t newer) ⊎ (stopped ≡ true)
              → (if stopped then 0 else need o older c t - serves_in t newer) ≡ 0
          by_stop true is enough = refl
          by_stop false is enough = elim enough [
            | inl most ↦ omega (arith, most)
            | inr wrong ↦ cc
          ]
