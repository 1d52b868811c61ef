-- The waiting requests that the callers' ids and their fences stand for.
use Rattle.std.specs.Prelude.{◌≡◌, ℕ, ◌<◌, false, List, length, map, slice_index_or}
use Rattle.fence_queue.specs.declared.request.Request.{Request}
use Rattle.fence_queue.specs.Queues.{has_from, queue_at}

module _ {F : Type 0} where
  -- the request of a caller
  abbrev pub request_by : List F → (idle : F) → Request (Unit {0}) → Request F
  request_by fences idle caller = record { from = caller.from; flush = slice_index_or fences caller.from idle }

  -- the requests of these callers, and those at each hart
  abbrev pub queue_by : List F → (idle : F) → List (Request (Unit {0})) → List (Request F)
  queue_by fences idle callers = map (request_by fences idle) callers

  abbrev pub queues_by : List F → (idle : F) → List (List (Request (Unit {0}))) → List (List (Request F))
  queues_by fences idle callers = map (queue_by fences idle) callers

  -- no request of hart c waits anywhere
  abbrev pub IsOut : ℕ → List (List (Request F)) → Type 0
  IsOut c queues = (t : ℕ) → t < length queues → has_from c (queue_at queues t) ≡ false
