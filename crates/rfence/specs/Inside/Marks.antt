-- How turns change the queues and the harts that calls wait for.
use Rattle.std.specs.Prelude.{◌≡◌, ℕ, ◌<◌, false, List, [], ◌∷◌, length, ◌==◌, slice_index_or, slice_set, Option, None, option_map}
use Rattle.hart_mask.specs.Ids.{without_id}
use Rattle.fence_queue.specs.declared.request.Request.{Request}
use Rattle.fence_queue.specs.Queues.{has_from, pushed, queue_at}

-- a call that no longer waits for hart t
abbrev pub forgotten : ℕ → Option (List ℕ) → Option (List ℕ)
forgotten t = option_map (λ harts. without_id harts t)

-- the calls, where hart c's no longer waits for hart t
abbrev pub forgotten_at : List (Option (List ℕ)) → ℕ → ℕ → List (Option (List ℕ))
forgotten_at calls c t = slice_set calls c (forgotten t (slice_index_or calls c None))

module _ {F : Type 0} where
  -- one more request in each target's queue
  abbrev pub requested : List (List (Request F)) → List ℕ → Request F → List (List (Request F))
  requested queues [] request = queues
  requested queues (t ∷ targets) request = requested (pushed queues t request) targets request

  -- the targets are existing harts other than the caller, and no request of the caller waits there
  abbrev pub CanAsk : List (List (Request F)) → List ℕ → Request F → Type 0
  CanAsk queues [] request = Unit
  CanAsk queues (t ∷ targets) request =
      (t < length queues)
      × (request.from < length queues)
      × ((request.from == t) ≡ false)
      × (has_from request.from (queue_at queues t) ≡ false)
      × CanAsk (pushed queues t request) targets request
