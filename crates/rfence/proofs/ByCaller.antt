-- The requests that wait, by the callers' ids and their fences.
use Rattle.std.proofs.Common.{◌≡◌, ℕ, ◌<◌, suc, zero, false, List, [], ◌∷◌, ◌++◌, length, drop, set, replicate, subst, refl, sym, ap, ◌∙◌, arith}
use Rattle.std.specs.Prelude.{◌==◌, if◌then◌else◌}
use Rattle.std.proofs.lemmas.Bool.{eqb-false, or_parts}
use Rattle.std.proofs.lemmas.List.{get_or-map, get_or-set_other, get_or-set_same, length-map, length-set, map-append, map-set}
use Rattle.fence_queue.specs.declared.request.Request.{Request}
use Rattle.fence_queue.specs.Positions.{one_later, position_of}
use Rattle.fence_queue.specs.Queues.{IsQueue, drained, has_from, is_from, popped, pushed, queue_at}
use Rattle.rfence.specs.Inside.Marks.{CanAsk, requested}
use Rattle.rfence.specs.Inside.ByCaller.{IsOut, queue_by, queues_by, request_by}

module _ {F : Type 0} (fences : List F) (idle : F) where
  pub length-by : (callers : List (List (Request (Unit {0})))) → length (queues_by fences idle callers) ≡ length callers
  length-by callers = length-map callers (queue_by fences idle)

  pub queue_at-by : (callers : List (List (Request (Unit {0})))) (t : ℕ) → t < length callers → queue_at (queues_by fences idle callers) t ≡ queue_by fences idle (queue_at callers t)
  queue_at-by callers t inside = get_or-map (queue_by fences idle) callers t [] [] inside

  has_from-by : (c : ℕ) (callers : List (Request (Unit {0}))) → has_from c (queue_by fences idle callers) ≡ has_from c callers
  has_from-by c [] = refl
  has_from-by c (caller ∷ rest) = rw (has_from-by c rest) refl

  pub position_of-by : (c : ℕ) (callers : List (Request (Unit {0}))) → position_of (is_from c) callers ≡ position_of (is_from c) (queue_by fences idle callers)
  position_of-by c [] = refl
  position_of-by c (caller ∷ rest) = ap (λ m. if caller.from == c then 1 else one_later m) (position_of-by c rest)

  pub IsQueue-by : (n t : ℕ) (callers : List (Request (Unit {0}))) → IsQueue n t callers → IsQueue n t (queue_by fences idle callers)
  IsQueue-by n t [] queue = tt
  IsQueue-by n t (caller ∷ rest) queue = (queue.0, queue.1, has_from-by caller.from rest ∙ queue.2, IsQueue-by n t rest queue.3)

  pushed-by : (callers : List (List (Request (Unit {0})))) (t : ℕ) (caller : Request (Unit {0})) → t < length callers
      → queues_by fences idle (pushed callers t caller) ≡ pushed (queues_by fences idle callers) t (request_by fences idle caller)
  pushed-by callers t caller inside =
      map-set (queue_by fences idle) callers t (queue_at callers t ++ caller ∷ [])
      ∙ ap (set (queues_by fences idle callers) t) (map-append (request_by fences idle) (queue_at callers t) (caller ∷ [])
      ∙ ap (λ queue. queue ++ request_by fences idle caller ∷ []) (sym (queue_at-by callers t inside)))

  drop-by : (callers : List (Request (Unit {0}))) → queue_by fences idle (drop 1 callers) ≡ drop 1 (queue_by fences idle callers)
  drop-by [] = refl
  drop-by (caller ∷ rest) = refl

  pub popped-by : (callers : List (List (Request (Unit {0})))) (t : ℕ) → t < length callers → queues_by fences idle (popped callers t) ≡ popped (queues_by fences idle callers) t
  popped-by callers t inside =
      map-set (queue_by fences idle) callers t (drop 1 (queue_at callers t))
      ∙ ap (set (queues_by fences idle callers) t) (drop-by (queue_at callers t) ∙ ap (drop 1) (sym (queue_at-by callers t inside)))

  pub drained-by : (callers : List (List (Request (Unit {0})))) (t : ℕ) → queues_by fences idle (drained callers t) ≡ drained (queues_by fences idle callers) t
  drained-by callers t = map-set (queue_by fences idle) callers t []

  pub emptied-by : (n : ℕ) → queues_by fences idle (replicate n []) ≡ replicate n []
  emptied-by zero = refl
  emptied-by (suc n) = ap (λ rest. [] ∷ rest) (emptied-by n)

  can-by : (targets : List ℕ) (callers : List (List (Request (Unit {0})))) (caller : Request (Unit {0}))
      → CanAsk (queues_by fences idle callers) targets (request_by fences idle caller) → CanAsk callers targets caller
  can-by [] callers caller can = tt
  can-by (t ∷ targets) callers caller can =
      let inside : t < length callers = let below = can.0 in omega (arith, length-by callers) in (
        inside,
        let below = can.1 in omega (arith, length-by callers),
        can.2,
        sym (has_from-by caller.from (queue_at callers t)) ∙ ap (has_from caller.from) (sym (queue_at-by callers t inside)) ∙ can.3,
        can-by targets (pushed callers t caller) caller (subst (λ queues. CanAsk queues targets (request_by fences idle caller)) (sym (pushed-by callers t caller inside)) can.4),
      )

  requested-by : (targets : List ℕ) (callers : List (List (Request (Unit {0})))) (caller : Request (Unit {0})) → CanAsk callers targets caller
      → queues_by fences idle (requested callers targets caller) ≡ requested (queues_by fences idle callers) targets (request_by fences idle caller)
  requested-by [] callers caller can = refl
  requested-by (t ∷ targets) callers caller can =
      requested-by targets (pushed callers t caller) caller can.4
      ∙ ap (λ queues. requested queues targets (request_by fences idle caller)) (pushed-by callers t caller can.0)

  -- the fence of a hart of which none waits makes no difference
  module _ (c : ℕ) (flush : F) where
    unasked-queue : (callers : List (Request (Unit {0}))) → has_from c (queue_by fences idle callers) ≡ false → queue_by (set fences c flush) idle callers ≡ queue_by fences idle callers
    unasked-queue [] none = refl
    unasked-queue (caller ∷ rest) none =
        let parts = or_parts (is_from c (request_by fences idle caller)) (has_from c (queue_by fences idle rest)) none in
        rw (get_or-set_other fences c caller.from flush idle (eqb-false caller.from c parts.0), unasked-queue rest parts.1) refl

    unasked : (callers : List (List (Request (Unit {0})))) → IsOut c (queues_by fences idle callers) → queues_by (set fences c flush) idle callers ≡ queues_by fences idle callers
    unasked [] out = refl
    unasked (queue ∷ rest) out =
        rw (unasked-queue queue (out 0 (omega arith)), unasked rest (λ t inside. out (suc t) (omega (arith, inside)))) refl

pub length-requested : {F : Type 0} (targets : List ℕ) (queues : List (List (Request F))) (request : Request F) → length (requested queues targets request) ≡ length queues
length-requested [] queues request = refl
length-requested (t ∷ targets) queues request = length-requested targets (pushed queues t request) request ∙ length-set queues t (queue_at queues t ++ request ∷ [])

-- one asks whose fence is written down first
module _ {F : Type 0} (fences : List F) (idle : F) (callers : List (List (Request (Unit {0})))) (queues : List (List (Request F))) (view : queues_by fences idle callers ≡ queues)
    (targets : List ℕ) (request : Request F) (inside : request.from < length fences) (out : IsOut request.from queues) (can : CanAsk queues targets request) where
  abbrev caller : Request (Unit {0})
  caller = record { from = request.from; flush = tt }

  abbrev written : List F
  written = set fences request.from request.flush

  same : queues_by written idle callers ≡ queues
  same = unasked fences idle request.from request.flush callers (subst (IsOut request.from) (sym view) out) ∙ view

  own : request_by written idle caller ≡ request
  own = ap (λ flush. record { from = request.from; flush = flush }) (get_or-set_same fences request.from request.flush idle inside)

  pub can-callers : CanAsk callers targets caller
  can-callers = can-by written idle targets callers caller (rw (same, own) can)

  pub after-ask : (now : List (List (Request (Unit {0})))) → now ≡ requested callers targets caller → queues_by written idle now ≡ requested queues targets request
  after-ask now is =
      ap (queues_by written idle) is ∙ requested-by written idle targets callers caller can-callers
      ∙ ap (λ qs. requested qs targets (request_by written idle caller)) same ∙ ap (requested queues targets) own
