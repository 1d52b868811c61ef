-- The rings of the harts, and the queues that they stand for.
use Rattle.std.specs.Prelude.{◌≡◌, ℕ, ◌-◌, ◌<◌, ◌≤◌, List, length, map, sum_by}
use Rattle.std.specs.List.{All}
use Rattle.circular_buffer.specs.Buffer.{Buffer}
use Rattle.fence_queue.specs.declared.request.Request.{Request}
use Rattle.fence_queue.specs.Queues.{IsQueue, queue_at}

module _ {F : Type 0} where
  -- what a ring holds
  abbrev pub queue_in : Buffer (Request F) → List (Request F)
  queue_in ring = ring.items

  -- what waits at each hart
  abbrev pub queues_of : List (Buffer (Request F)) → List (List (Request F))
  queues_of rings = map queue_in rings

  -- The rings of a board's harts, with so many requests in all. Each holds a queue, and has room for one request of
  -- each other hart.
  pub record AreKept (rings : List (Buffer (Request F))) (total : ℕ) : Type 0 where
    pub limit : length rings ≤ 128
    pub room : All (λ (ring : Buffer (Request F)). ring.capacity ≡ length rings - 1) rings
    pub each : (t : ℕ) → t < length rings → IsQueue (length rings) t (queue_at (queues_of rings) t)
    pub counted : total ≡ sum_by length (queues_of rings)
