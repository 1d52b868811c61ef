-- A request that is put into the queues of some harts, one after another.
use Rattle.std.proofs.Common.{◌≡◌, ◌≢◌, ℕ, ◌+◌, ◌<◌, suc, zero, Bool, true, false, cond, List, [], ◌∷◌, ◌++◌, length, map, refl, sym, ap, ◌∙◌, arith, inl, inr}
use Rattle.std.specs.Prelude.{◌==◌, filter, if◌then◌else◌}
use Rattle.std.specs.List.{range_with_len}
use Rattle.std.proofs.lemmas.Bool.{both_ways, eq-eqb, ne_eqb, or_left, or_right}
use Rattle.std.proofs.lemmas.Bool.Decides.{eqb_tells}
use Rattle.std.proofs.lemmas.List.{append-nil, get_or_default, get_or-set_other, get_or-set_same, length-set, same_lists}
use Rattle.std.proofs.lemmas.List.FromFn.{get_or-map-range_with_len, length-map-range_with_len}
use Rattle.hart_mask.specs.Ids.{has, ids_where}
use Rattle.fence_queue.specs.declared.request.Request.{Request}
use Rattle.fence_queue.specs.Queues.{has_from, pushed, queue_at}
use Rattle.rfence.specs.Inside.Marks.{CanAsk, requested}
use Rattle.rfence.proofs.Tables.{tabulate-agree}

-- ---- the ids of a set are distinct

abbrev pub AreApart : List ℕ → Type 0
AreApart [] = Unit
AreApart (id ∷ ids) = (has ids id ≡ false) × AreApart ids

none-below : (p : ℕ → Bool) (a n i : ℕ) → i < a → has (filter p (range_with_len a n)) i ≡ false
none-below p a zero i low = refl
none-below p a (suc n) i low = by_test (p a) (none-below p (a + 1) n i (omega arith))
  where
    by_test : (b : Bool) → has (filter p (range_with_len (a + 1) n)) i ≡ false → has (cond b (a ∷ filter p (range_with_len (a + 1) n)) (filter p (range_with_len (a + 1) n))) i ≡ false
    by_test true none = rw (ne_eqb a i (λ e. absurd (omega arith))) none
    by_test false none = none

apart-range : (p : ℕ → Bool) (a n : ℕ) → AreApart (filter p (range_with_len a n))
apart-range p a zero = tt
apart-range p a (suc n) = by_test (p a) (apart-range p (a + 1) n)
  where
    by_test : (b : Bool) → AreApart (filter p (range_with_len (a + 1) n)) → AreApart (cond b (a ∷ filter p (range_with_len (a + 1) n)) (filter p (range_with_len (a + 1) n)))
    by_test true rest = (none-below p (a + 1) n a (omega arith), rest)
    by_test false rest = rest

pub apart-ids : (p : ℕ → Bool) → AreApart (ids_where p)
unfolding ids_where
apart-ids p = apart-range p 0 128

module _ {F : Type 0} where
  queue_at-other : (queues : List (List (Request F))) (t j : ℕ) (request : Request F) → t ≢ j → queue_at (pushed queues t request) j ≡ queue_at queues j
  queue_at-other queues t j request differ = get_or-set_other queues t j (queue_at queues t ++ request ∷ []) [] (λ e. differ (sym e))

  -- what may be asked of each of some harts may be asked of all of them
  pub can-ask : (targets : List ℕ) (queues : List (List (Request F))) (request : Request F) → AreApart targets
      → ((t : ℕ) → has targets t ≡ true → t < length queues) → request.from < length queues
      → ((t : ℕ) → has targets t ≡ true → (request.from == t) ≡ false)
      → ((t : ℕ) → has targets t ≡ true → has_from request.from (queue_at queues t) ≡ false) → CanAsk queues targets request
  can-ask [] queues request apart below caller other once = tt
  can-ask (t ∷ targets) queues request apart below caller other once =
      let here = or_left (t == t) (has targets t) (eq-eqb t t refl) in
      let there = λ (j : ℕ) (is : has targets j ≡ true). or_right (t == j) (has targets j) is in
      let long = length-set queues t (queue_at queues t ++ request ∷ []) in (
        below t here,
        caller,
        other t here,
        once t here,
        can-ask targets (pushed queues t request) request apart.1
            (λ j is. let low = below j (there j is) in omega (arith, long))
            (omega (arith, long))
            (λ j is. other j (there j is))
            (λ j is. ap (has_from request.from) (queue_at-other queues t j request (λ e. both_ways (has targets t) apart.0 (ap (has targets) e ∙ is))) ∙ once j (there j is)),
      )

  -- each target's queue has the request at its end, and the others are as they were
  pub requested-map : (targets : List ℕ) (queues : List (List (Request F))) (request : Request F) → AreApart targets
      → ((t : ℕ) → has targets t ≡ true → t < length queues)
      → requested queues targets request ≡ map (λ t. queue_at queues t ++ (if has targets t then request ∷ [] else [])) (range_with_len 0 (length queues))
  requested-map [] queues request apart below =
      same_lists _ _ (sym (length-map-range_with_len (λ t. queue_at queues t ++ []) 0 (length queues))) (λ t d inside.
      get_or_default queues t d [] inside ∙ sym (append-nil (queue_at queues t))
      ∙ sym (get_or-map-range_with_len (λ t. queue_at queues t ++ []) 0 (length queues) t t d inside (omega arith)))
  requested-map (t ∷ targets) queues request apart below =
      let long = length-set queues t (queue_at queues t ++ request ∷ []) in
      let here = below t (or_left (t == t) (has targets t) (eq-eqb t t refl)) in
      requested-map targets (pushed queues t request) request apart.1 (λ j is. let low = below j (or_right (t == j) (has targets j) is) in omega (arith, long))
      ∙ ap (λ n. map (λ j. queue_at (pushed queues t request) j ++ (if has targets j then request ∷ [] else [])) (range_with_len 0 n)) long
      ∙ tabulate-agree _ _ (length queues) (λ j inside. elim (eqb_tells t j) [
        | inl same ↦ rw (← same.1) (rw (apart.0, eq-eqb t t refl, get_or-set_same queues t (queue_at queues t ++ request ∷ []) [] here) (append-nil (queue_at queues t ++ request ∷ [])))
        | inr differ ↦ rw (differ.0, queue_at-other queues t j request differ.1) refl
      ])
