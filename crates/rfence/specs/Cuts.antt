-- Cuts of the history: the opening that the turns before a cut leave (profile).
use Rattle.std.specs.Prelude.{◌≡◌, ℕ, ◌≤◌, List, [], ◌++◌, map, slice_index_or, Option, Some, None}
use Rattle.std.specs.List.{range_with_len}
use Rattle.fence_queue.specs.declared.request.Request.{Request}
use Rattle.rfence.specs.declared.opened.FenceCall.{FenceCall}
use Rattle.rfence.specs.Opening.{Asked, IsOpening, Opening, nothing_before, place_after}
use Rattle.rfence.specs.Turns.{Turn}
use Rattle.rfence.specs.Waiting.{waiting}
use Rattle.rfence.specs.Calls.{open_call}
use Rattle.rfence.specs.Right.{IsRight}
use Rattle.rfence.specs.State.{StandsFor, State, total_applied, total_asked}

module _ {F : Type 0} where
  -- The opening that these turns leave on a board of n harts, for the turns after them.
  abbrev pub opening_after : Opening F → ℕ → List (Turn F) → Opening F
  opening_after o n turns = record {
    first = place_after o turns;
    waiting = map (waiting o turns) (range_with_len 0 n);
    calls = map (open_call o turns) (range_with_len 0 n);
    asked = total_asked o turns;
    applied = total_applied o n turns;
  }

  -- the place of a call, if there is one, else 0
  abbrev pub place_of : Option (FenceCall F) → ℕ
  place_of None = 0
  place_of (Some call) = call.place

  -- a request with the place of its caller's call
  abbrev pub placed : List (Option (FenceCall F)) → Request F → Asked F
  placed calls request = record {
    place = place_of (slice_index_or calls request.from None);
    from = request.from;
    flush = request.flush;
  }

  -- The stored state as the opening of the turns from this place on.
  abbrev pub opening_in : (first : ℕ) → State F → Opening F
  opening_in first fences = record {
    first = first;
    waiting = map (map (placed fences.opened)) fences.queues;
    calls = fences.opened;
    asked = fences.asked;
    applied = fences.applied;
  }

-- A board of at most 128 harts can open with no fence and no call.
abbrev pub BeginsRight : Type 0 → Type 0
BeginsRight F = (n : ℕ) → n ≤ 128 → IsOpening (nothing_before {F = F} n) n

-- The stored state is the opening that these turns leave.
abbrev pub KeptIsTheOpening : Type 0 → Type 0
KeptIsTheOpening F =
    (o : Opening F) (n : ℕ) (turns : List (Turn F)) (fences : State F)
    → StandsFor o n turns fences → IsRight o n turns → opening_in (place_after o turns) fences ≡ opening_after o n turns

-- The stored state stands for the opening that these turns leave, and no turn since.
abbrev pub StandsAfterACut : Type 0 → Type 0
StandsAfterACut F =
    (o : Opening F) (n : ℕ) (turns : List (Turn F)) (fences : State F)
    → StandsFor o n turns fences → IsRight o n turns → StandsFor (opening_after o n turns) n [] fences

-- The newer turns, from the opening that the older turns leave, give the same waiting fences, open calls and counts as
-- all turns together.
pub record IsSeamless {F : Type 0} (o : Opening F) (n : ℕ) (newer older : List (Turn F)) : Type 0 where
  pub right : IsRight (opening_after o n older) n newer
  pub waits : (t : ℕ) → waiting (opening_after o n older) newer t ≡ waiting o (newer ++ older) t
  pub calls : (c : ℕ) → open_call (opening_after o n older) newer c ≡ open_call o (newer ++ older) c
  pub asked : total_asked (opening_after o n older) newer ≡ total_asked o (newer ++ older)
  pub applied : total_applied (opening_after o n older) n newer ≡ total_applied o n (newer ++ older)

-- Possible turns can be cut anywhere: each cut is seamless.
abbrev pub CutsAreSeamless : Type 0 → Type 0
CutsAreSeamless F =
    (o : Opening F) (n : ℕ) (newer older : List (Turn F)) → IsRight o n (newer ++ older) → IsSeamless o n newer older
