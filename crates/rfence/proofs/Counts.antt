-- How large the counts can become, and the outstanding harts as a set.
use Rattle.std.proofs.Common.{◌≡◌, ℕ, ◌+◌, ◌*◌, ◌<◌, ◌≤◌, suc, zero, Bool, false, cond, List, [], ◌∷◌, length, get_or, map, refl, ap, arith}
use Rattle.std.specs.Prelude.{filter, sum_by}
use Rattle.std.specs.List.{All, list_any, range_with_len}
use Rattle.std.proofs.lemmas.List.Elements.{All-map}
use Rattle.std.proofs.lemmas.List.FromFn.{get_or-range_with_len, length-map-range_with_len, length-range_with_len}
use Rattle.std.proofs.lemmas.List.Sums.{count_by-le-length, length-filter, sum_by-le}
use Rattle.hart_mask.specs.Ids.{ids_where}
use Rattle.fence_queue.specs.declared.request.Request.{Request}
use Rattle.fence_queue.proofs.Queue.{length-IsQueue}
use Rattle.rfence.specs.Opening.{Opening, place_after}
use Rattle.rfence.specs.Turns.{Turn, Ask, Own, Serve, Poll, Stop, Reset, Quiet}
use Rattle.rfence.specs.Calls.{is_at, is_outstanding, open_call, outstanding}
use Rattle.rfence.specs.Right.{IsRight}
use Rattle.rfence.specs.State.{asked_by, queue_of, total_asked}
use Rattle.rfence.proofs.Callers.{few-harts, sound}

few-ids : (p : ℕ → Bool) → length (ids_where p) ≤ 128
unfolding ids_where
few-ids p = omega (arith, length-filter p (range_with_len 0 128), count_by-le-length p (range_with_len 0 128), length-range_with_len 0 128)

-- what passes nowhere from n on is kept below n
pub filter-below : (p : ℕ → Bool) (a m n : ℕ) → n ≤ m → ((i : ℕ) → a + n ≤ i → p i ≡ false) → filter p (range_with_len a m) ≡ filter p (range_with_len a n)
filter-below p a zero zero fits none = refl
filter-below p a zero (suc n) fits none = absurd (omega arith)
filter-below p a (suc m) zero fits none =
    rw (none a (omega arith)) (filter-below p (a + 1) m zero (omega arith) (λ i high. none i (omega arith)))
filter-below p a (suc m) (suc n) fits none =
    ap (λ rest. cond (p a) (a ∷ rest) rest) (filter-below p (a + 1) m n (omega arith) (λ i high. none i (omega arith)))

module _ {F : Type 0} (o : Opening F) where
  -- the harts that a call waits for are a set
  pub outstanding-set : (n : ℕ) (turns : List (Turn F)) (c : ℕ) → IsRight o n turns → ids_where (is_outstanding o turns c) ≡ outstanding o n turns c
  unfolding ids_where
  outstanding-set n turns c right =
      filter-below (is_outstanding o turns c) 0 128 n (few-harts o n turns right) (λ t far. ap (list_any (is_at (open_call o turns c))) ((sound o n turns t right).within (omega arith)))

  pub few-asked : (n : ℕ) (turns : List (Turn F)) → IsRight o n turns → total_asked o turns ≤ 128 * place_after o turns
  few-asked n [] right = let few = right.few in omega arith
  few-asked n (turn ∷ turns) right = let before = few-asked n turns right.1 in let one = by_turn turn in omega arith
    where
      by_turn : (turn : Turn F) → asked_by turn ≤ 128
      by_turn (Ask x asked flush) = few-ids asked
      by_turn (Own x flush) = omega arith
      by_turn (Serve x) = omega arith
      by_turn (Poll x) = omega arith
      by_turn (Stop x) = omega arith
      by_turn Reset = omega arith
      by_turn Quiet = omega arith

  short-queue : (n : ℕ) (turns : List (Turn F)) (t : ℕ) → IsRight o n turns → t < n → length (queue_of o turns t) ≤ 128
  short-queue n turns t right inside =
      let few = length-IsQueue n t (queue_of o turns t) inside (sound o n turns t right).queue in omega (arith, few, few-harts o n turns right)

  pub few-waiting : (n : ℕ) (turns : List (Turn F)) → IsRight o n turns → sum_by length (map (queue_of o turns) (range_with_len 0 n)) ≤ 16384
  few-waiting n turns right =
      let most = sum_by-le length 128 (map (queue_of o turns) (range_with_len 0 n)) (All-map (λ (requests : List (Request F)). length requests ≤ 128) (queue_of o turns) (range_with_len 0 n) short) in
      omega (arith, most, length-map-range_with_len (queue_of o turns) 0 n, few-harts o n turns right)
    where
      short : All (λ t. length (queue_of o turns t) ≤ 128) (range_with_len 0 n)
      short k d inside =
          let is = get_or-range_with_len 0 n k d (omega (arith, length-range_with_len 0 n)) in
          short-queue n turns (get_or (range_with_len 0 n) k d) right (omega (arith, is, length-range_with_len 0 n))
