-- Open fence calls, and the harts that they wait for (SBI 8; that a call waits: profile).
use Rattle.std.specs.Prelude.{ℕ, Bool, false, List, [], ◌∷◌, filter, ◌==◌, if◌then◌else◌, Option, Some, None}
use Rattle.std.specs.List.{list_any, range_with_len}
use Rattle.hart_mask.specs.Ids.{ids_where}
use Rattle.rfence.specs.declared.opened.FenceCall.{FenceCall}
use Rattle.rfence.specs.Opening.{Asked, Opening, called_at, place_after}
use Rattle.rfence.specs.Turns.{Turn, Ask, Poll, Reset}
use Rattle.rfence.specs.Waiting.{waiting}

module _ {F : Type 0} where
  -- A hart that asks is inside its call until it polls, or a reset drops the call.
  abbrev pub open_by : ℕ → Turn F → ℕ → Option (FenceCall F) → Option (FenceCall F)
  open_by place (Ask x asked flush) c before =
      if x == c then Some (record { place = place; asked = ids_where asked; flush = flush }) else before
  open_by place (Poll x) c before = if x == c then None else before
  open_by place Reset c before = None
  open_by place turn c before = before

  -- The open call of hart c, if it is in one; at first that of the opening.
  abbrev pub open_call : Opening F → List (Turn F) → ℕ → Option (FenceCall F)
  open_call o [] c = called_at o c
  open_call o (turn ∷ turns) c = open_by (place_after o turns) turn c (open_call o turns c)

  -- whether a fence was asked by this call
  abbrev pub is_at : Option (FenceCall F) → Asked F → Bool
  is_at None asked = false
  is_at (Some call) asked = asked.place == call.place

  -- Whether hart c's call waits for hart t: the call's fence waits there.
  abbrev pub is_outstanding : Opening F → List (Turn F) → ℕ → ℕ → Bool
  is_outstanding o turns c t = list_any (is_at (open_call o turns c)) (waiting o turns t)

  -- the harts, of n, that hart c's call waits for
  abbrev pub outstanding : Opening F → ℕ → List (Turn F) → ℕ → List ℕ
  outstanding o n turns c = filter (is_outstanding o turns c) (range_with_len 0 n)
