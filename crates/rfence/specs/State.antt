-- The stored state of a board's fences, and the turns that it stands for (profile).
use Rattle.std.specs.Prelude.{◌≡◌, ℕ, ◌+◌, ◌*◌, ◌^◌, ◌<◌, ◌≤◌, List, [], ◌∷◌, length, map, sum_by, slice_index_or, if◌then◌else◌, Option, Some, None}
use Rattle.std.specs.List.{range_with_len}
use Rattle.hart_mask.specs.Ids.{ids_where}
use Rattle.fence_queue.specs.declared.request.Request.{Request}
use Rattle.rfence.specs.declared.opened.FenceCall.{FenceCall}
use Rattle.rfence.specs.Opening.{Opening, kept, place_after}
use Rattle.rfence.specs.Turns.{Turn, Ask, Serve, Stop, Reset}
use Rattle.rfence.specs.Waiting.{waiting}
use Rattle.rfence.specs.Calls.{is_outstanding, open_call}
use Rattle.rfence.specs.Effects.{caches_after}
use Rattle.rfence.specs.Right.{IsRight}

-- The requests that wait at each hart; for each hart in a call, the ids of the harts that the call waits for, in
-- ascending order, and the call itself; and the numbers of fences asked and applied.
pub record State (F : Type 0) : Type 0 where
  pub queues : List (List (Request F))
  pub calls : List (Option (List ℕ))
  pub opened : List (Option (FenceCall F))
  pub asked : ℕ
  pub applied : ℕ

module _ {F : Type 0} where
  -- the harts that a call waits for, if there is a call
  abbrev pub in_call : Option (FenceCall F) → List ℕ → Option (List ℕ)
  in_call None ids = None
  in_call (Some call) ids = Some ids

  abbrev pub call_of : Opening F → List (Turn F) → ℕ → Option (List ℕ)
  call_of o turns c = in_call (open_call o turns c) (ids_where (is_outstanding o turns c))

  -- the requests that wait at hart t, without their places
  abbrev pub queue_of : Opening F → List (Turn F) → ℕ → List (Request F)
  queue_of o turns t = map kept (waiting o turns t)

  -- The number of fences that a turn asks: one for each hart asked. Local fences don't count (profile).
  abbrev pub asked_by : Turn F → ℕ
  asked_by (Ask x asked flush) = length (ids_where asked)
  asked_by turn = 0

  abbrev pub total_asked : Opening F → List (Turn F) → ℕ
  total_asked o [] = o.asked
  total_asked o (turn ∷ turns) = total_asked o turns + asked_by turn

  -- The number of fences of calls that a turn applies: a caller's own if it asks itself too, one at a serve, all that
  -- wait at a hart that stops, and at a reset all that wait at n harts.
  abbrev pub applied_in : Opening F → ℕ → List (Turn F) → Turn F → ℕ
  applied_in o n turns (Ask x asked flush) = if asked x then 1 else 0
  applied_in o n turns (Serve x) = 1
  applied_in o n turns (Stop x) = length (waiting o turns x)
  applied_in o n turns Reset = sum_by length (map (queue_of o turns) (range_with_len 0 n))
  applied_in o n turns turn = 0

  abbrev pub total_applied : Opening F → ℕ → List (Turn F) → ℕ
  total_applied o n [] = o.applied
  total_applied o n (turn ∷ turns) = total_applied o n turns + applied_in o n turns turn

  -- The stored state of a board of n harts stands for this opening and these turns.
  pub record StandsFor (o : Opening F) (n : ℕ) (turns : List (Turn F)) (fences : State F) : Type 0 where
    pub limit : n ≤ 128
    pub queues : fences.queues ≡ map (queue_of o turns) (range_with_len 0 n)
    pub calls : fences.calls ≡ map (call_of o turns) (range_with_len 0 n)
    pub opened : fences.opened ≡ map (open_call o turns) (range_with_len 0 n)
    pub asked : fences.asked ≡ total_asked o turns
    pub applied : fences.applied ≡ total_applied o n turns

  -- The state stands for some turns after which this turn is possible.
  pub record Takes (fences : State F) (turn : Turn F) : Type 0 where
    pub o : Opening F
    pub n : ℕ
    pub turns : List (Turn F)
    pub stands : StandsFor o n turns fences
    pub right : IsRight o n (turn ∷ turns)

  -- The turn is made: whatever opening and turns the state stood for, it now stands for them and this turn.
  abbrev pub IsTaken : State F → Turn F → State F → Type 0
  IsTaken before turn now =
      (o : Opening F) (n : ℕ) (turns : List (Turn F))
      → StandsFor o n turns before → IsRight o n (turn ∷ turns) → StandsFor o n (turn ∷ turns) now

  -- The turn is made at this place.
  abbrev pub IsTakenAt : (place : ℕ) → State F → Turn F → State F → Type 0
  IsTakenAt place before turn now =
      (o : Opening F) (n : ℕ) (turns : List (Turn F))
      → StandsFor o n turns before → IsRight o n (turn ∷ turns) → place ≡ place_after o turns
      → StandsFor o n (turn ∷ turns) now

  -- The state stands for some turns, as many as the place says, after which this turn is possible.
  pub record TakesAt (place : ℕ) (fences : State F) (turn : Turn F) : Type 0 where
    pub o : Opening F
    pub n : ℕ
    pub turns : List (Turn F)
    pub at : place ≡ place_after o turns
    pub stands : StandsFor o n turns fences
    pub right : IsRight o n (turn ∷ turns)

  -- The place is later than that of each open call, and the fences asked are at most 128 for each place before it.
  pub record IsLater (place : ℕ) (fences : State F) : Type 0 where
    pub calls : (c : ℕ) (call : FenceCall F) → slice_index_or fences.opened c None ≡ Some call → call.place < place
    pub asked : fences.asked ≤ 128 * place

  -- The harts' caches after a turn, by the opening and the turns that the state stood for.
  abbrev pub AreAffected : {C : Type 0} → (dropped : F → C → C) → (emptied : C → C) → State F → Turn F → List C
      → List C → Type 0
  AreAffected dropped emptied before turn caches now =
      (o : Opening F) (n : ℕ) (turns : List (Turn F))
      → StandsFor o n turns before → IsRight o n (turn ∷ turns) → now ≡ caches_after dropped emptied o turns turn caches

  -- The state stands for some possible turns.
  pub record HasTurns (fences : State F) : Type 0 where
    pub o : Opening F
    pub n : ℕ
    pub turns : List (Turn F)
    pub stands : StandsFor o n turns fences
    pub right : IsRight o n turns

  -- both counts are below 2^63
  pub record HasRoom (fences : State F) : Type 0 where
    pub asked : fences.asked < 2 ^ 63
    pub applied : fences.applied < 2 ^ 63

  -- the harts that hart c's call waits for; None: it is in no call
  abbrev pub call_at : State F → ℕ → Option (List ℕ)
  call_at fences c = slice_index_or fences.calls c None

  -- The open call of a hart, as it is stored.
  abbrev pub opened_at : State F → ℕ → Option (FenceCall F)
  opened_at fences c = slice_index_or fences.opened c None
