-- One queue: requests that come from distinct other harts, of which there are fewer than there are harts.
use Rattle.std.proofs.Common.{◌≡◌, ℕ, ◌<◌, ◌≤◌, true, false, List, [], ◌∷◌, ◌++◌, length, drop, map, refl, sym, ◌∙◌, arith, eqb, inl, inr}
use Rattle.std.specs.Prelude.{◌==◌}
use Rattle.std.specs.List.{AllByRecursion, IsDistinct, list_any}
use Rattle.std.proofs.lemmas.Bool.{both_ways, eqb-true, eqb-false, ne_eqb, or_cases, or_from, or_parts}
use Rattle.std.proofs.lemmas.List.{length-map}
use Rattle.std.proofs.lemmas.List.Folds.{list_any-append}
use Rattle.std.proofs.lemmas.Map.Steps.{length-le_from_distinct_below}
use Rattle.fence_queue.specs.declared.request.Request.{Request}
use Rattle.fence_queue.specs.Queues.{IsQueue, has_from, is_from}

pub eqb-flip : (a b : ℕ) → eqb a b ≡ false → eqb b a ≡ false
eqb-flip a b differ = ne_eqb b a (λ e. eqb-false a b differ (sym e))

module _ {F : Type 0} where
  -- a request of a hart that has none there comes last
  pub IsQueue-push : (n t : ℕ) (requests : List (Request F)) (request : Request F) → IsQueue n t requests
      → request.from < n → (request.from == t) ≡ false → has_from request.from requests ≡ false → IsQueue n t (requests ++ request ∷ [])
  IsQueue-push n t [] request queue below other once = (below, other, refl, tt)
  IsQueue-push n t (first ∷ rest) request queue below other once =
      let parts = or_parts (is_from request.from first) (has_from request.from rest) once in (
        queue.0,
        queue.1,
        list_any-append (is_from first.from) rest (request ∷ [])
            ∙ or_from (has_from first.from rest) (has_from first.from (request ∷ [])) queue.2 (or_from (request.from == first.from) false (eqb-flip first.from request.from parts.0) refl),
        IsQueue-push n t rest request queue.3 below other parts.1,
      )

  -- without its first request it is a queue still
  pub IsQueue-drop : (n t : ℕ) (requests : List (Request F)) → IsQueue n t requests → IsQueue n t (drop 1 requests)
  IsQueue-drop n t [] queue = tt
  IsQueue-drop n t (first ∷ rest) queue = queue.3

  -- the callers
  abbrev pub callers : List (Request F) → List ℕ
  callers requests = map (λ (request : Request F). request.from) requests

  apart : (x : ℕ) (requests : List (Request F)) → has_from x requests ≡ false → AllByRecursion (λ y. eqb x y ≡ false) (callers requests)
  apart x [] none = tt
  apart x (first ∷ rest) none =
      let parts = or_parts (is_from x first) (has_from x rest) none in
      (eqb-flip first.from x parts.0, apart x rest parts.1)

  distinct : (n t : ℕ) (requests : List (Request F)) → IsQueue n t requests → IsDistinct eqb (callers requests)
  unfolding IsDistinct
  distinct n t [] queue = tt
  distinct n t (first ∷ rest) queue = (apart first.from rest queue.2, distinct n t rest queue.3)

  others : (n t : ℕ) (requests : List (Request F)) → IsQueue n t requests → AllByRecursion (λ y. eqb t y ≡ false) (callers requests)
  others n t [] queue = tt
  others n t (first ∷ rest) queue = (eqb-flip first.from t queue.1, others n t rest queue.3)

  below : (n t q : ℕ) (requests : List (Request F)) → IsQueue n t requests → list_any (eqb q) (callers requests) ≡ true → q < n
  below n t q [] queue is = absurd (both_ways false refl is)
  below n t q (first ∷ rest) queue is = elim (or_cases (eqb q first.from) (list_any (eqb q) (callers rest)) is) [
    | inl here ↦ let same = eqb-true q first.from here in let inside = queue.0 in omega arith
    | inr later ↦ below n t q rest queue.3 later
  ]

  -- a queue is shorter than there are harts
  pub length-IsQueue : (n t : ℕ) (requests : List (Request F)) → t < n → IsQueue n t requests → length requests < n
  unfolding IsDistinct
  length-IsQueue n t requests inside queue =
      let long = length-map requests (λ (request : Request F). request.from) in
      let most : length (t ∷ callers requests) ≤ n = length-le_from_distinct_below (t ∷ callers requests) n (others n t requests queue, distinct n t requests queue) (λ q is.
      elim (or_cases (eqb q t) (list_any (eqb q) (callers requests)) is) [
        | inl here ↦ let same = eqb-true q t here in omega arith
        | inr later ↦ below n t q requests queue later
      ]) in
      omega (arith, long, most)
