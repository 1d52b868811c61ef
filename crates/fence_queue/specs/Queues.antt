-- The queues of the fences that wait at a board's harts (profile; SBI 8 only says that the remote harts are
-- instructed).
use Rattle.std.specs.Prelude.{◌≡◌, ℕ, ◌<◌, Bool, false, List, [], ◌∷◌, ◌++◌, drop, ◌==◌, slice_index_or, slice_set}
use Rattle.std.specs.List.{list_any}
use Rattle.fence_queue.specs.declared.request.Request.{Request}

module _ {F : Type 0} where
  -- the requests that wait at hart t; none if there is no such hart
  abbrev pub queue_at : List (List (Request F)) → ℕ → List (Request F)
  queue_at queues t = slice_index_or queues t []

  -- whether hart c made the request
  abbrev pub is_from : ℕ → Request F → Bool
  is_from c request = request.from == c

  -- whether hart c made one of these requests
  abbrev pub has_from : ℕ → List (Request F) → Bool
  has_from c requests = list_any (is_from c) requests

  -- A request is appended to hart t's queue; the other queues don't change.
  abbrev pub pushed : List (List (Request F)) → ℕ → Request F → List (List (Request F))
  pushed queues t request = slice_set queues t (queue_at queues t ++ request ∷ [])

  -- The first request leaves hart t's queue, if it has one.
  abbrev pub popped : List (List (Request F)) → ℕ → List (List (Request F))
  popped queues t = slice_set queues t (drop 1 (queue_at queues t))

  -- All requests leave hart t's queue.
  abbrev pub drained : List (List (Request F)) → ℕ → List (List (Request F))
  drained queues t = slice_set queues t []

  -- The requests at hart t come from distinct other harts below n.
  abbrev pub IsQueue : (n t : ℕ) → List (Request F) → Type 0
  IsQueue n t [] = Unit
  IsQueue n t (request ∷ rest) =
      (request.from < n) × ((request.from == t) ≡ false) × (has_from request.from rest ≡ false) × IsQueue n t rest
