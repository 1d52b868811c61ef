-- The fences that wait at a hart.
use Rattle.std.specs.Prelude.{ℕ, suc, Bool, List, [], ◌∷◌, ◌++◌, drop, not, ◌==◌, ◌&&◌, if◌then◌else◌, Option, Some, None}
use Rattle.rfence.specs.Opening.{Asked, Opening, place_after, waited_at}
use Rattle.rfence.specs.Turns.{Turn, Ask, empties, is_serve}

-- a list with one more member, if there is one
abbrev pub added : {A : Type 0} → List A → Option A → List A
added xs None = xs
added xs (Some x) = xs ++ x ∷ []

-- the number plus one, if true
abbrev pub one_more : Bool → ℕ → ℕ
one_more more n = if more then suc n else n

module _ {F : Type 0} where
  -- An asked fence is appended to the queue of each hart asked, except the caller's own (profile).
  abbrev pub request_by : ℕ → Turn F → ℕ → Option (Asked F)
  request_by place (Ask x asked flush) t =
      if not (x == t) && asked t then Some (record { place = place; from = x; flush = flush }) else None
  request_by place turn t = None

  -- The fences that other harts asked of hart t since its last stop or reset, in order. Those of the opening come
  -- first.
  abbrev pub requests : Opening F → List (Turn F) → ℕ → List (Asked F)
  requests o [] t = waited_at o t
  requests o (turn ∷ turns) t =
      if empties turn t then [] else added (requests o turns t) (request_by (place_after o turns) turn t)

  -- the number of hart t's serves since its last stop or reset
  abbrev pub serves : List (Turn F) → ℕ → ℕ
  serves [] t = 0
  serves (turn ∷ turns) t = if empties turn t then 0 else one_more (is_serve turn t) (serves turns t)

  -- Each serve takes the first waiting fence. So the fences that wait are the requests without the first ones, as many
  -- as there were serves (profile).
  abbrev pub waiting : Opening F → List (Turn F) → ℕ → List (Asked F)
  waiting o turns t = drop (serves turns t) (requests o turns t)
