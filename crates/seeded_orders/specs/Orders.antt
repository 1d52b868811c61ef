-- The orders of seeds (profile).
use Rattle.std.specs.Prelude.{◌≡◌, ℕ, zero, suc, ◌+◌, ◌%◌, ◌==◌, if◌then◌else◌, List, [], ◌∷◌, length, slice_get, Option, Some, None}
use Rattle.rand_pcg.specs.Lcg.{increment_of, Lcg, started}
use Rattle.rand_pcg.specs.Pcg.{cheap_multiplier, pcg64_dxsm}
use Rattle.board_terms.specs.declared.config.Config.{Config}
use Rattle.board_core.specs.Opening.{Opening, opening_at}
use Rattle.board_terms.specs.declared.op.Actor.{Actor}
use Rattle.board_terms.specs.declared.op.Op.{Op}
use Rattle.board_core.specs.History.{Event}
use Rattle.board_core.specs.Replies.{stepped}
use Rattle.guest_programs.specs.declared.ends.End.{End}
use Rattle.guest_programs.specs.declared.met.Met.{Met}
use Rattle.guest_programs.specs.declared.met.Met.TheVariants.{FullHistory, Nothing}
use Rattle.guest_programs.specs.Ends.{IsEnd, IsEndBy}
use Rattle.seeded_orders.specs.declared.pickers.Picker.{Picker}
use Rattle.seeded_orders.specs.declared.pickers.Picker.TheVariants.{Even, Ranked}
use Rattle.guest_programs.specs.declared.steps.Step.{Step}
use Rattle.seeded_orders.specs.Ranks.{highest, ranking, reranked}
use Rattle.guest_programs.specs.Steps.{actor_of, AreOwn, op_of, steps, Task}

-- the generator of an order: PCG64 DXSM, with the seed as its initial state and the order's number as its stream
abbrev pub words_of : (seed order : ℕ) → Lcg
words_of seed order = started 128 cheap_multiplier seed (increment_of 128 order)

-- How an order's steps are picked: by random words for even numbers, by ranks for odd ones.
abbrev pub picker_of : (harts seed order : ℕ) → Picker
picker_of harts seed order =
    if order % 2 == 0 then Even (words_of seed order) else Ranked (ranking harts (words_of seed order))

-- the step that a word picks: the one at the word modulo their number
abbrev pub picked : (word : ℕ) → List Step → Option Step
picked word [] = None
picked word (step ∷ more) = slice_get (step ∷ more) (word % length (step ∷ more))

-- The step that is picked in a turn, and the picker after it.
abbrev pub pick : Picker → (turn : ℕ) → List Step → Option Step × Picker
pick (Even words) turn found = (picked (pcg64_dxsm words).0 found, Even (pcg64_dxsm words).1)
pick (Ranked ranks) turn found =
    let now = reranked ranks turn (highest ranks.ranks None found) in
    (highest now.ranks None found, Ranked now)

-- the past after an operation, if there is one
abbrev pub past_after : Opening → List Event → Actor → Option Op → List Event
past_after o past actor None = past
past_after o past actor (Some op) = (stepped (record { opening = o; past = past }) actor op).past

-- the past after a step, if there is one
abbrev pub past_with : Opening → Task → List Event → Option Step → List Event
past_with o p past None = past
past_with o p past (Some step) = past_after o past (actor_of step) (op_of o p past step)

-- The past after at most so many turns, from this turn on.
unfoldable pub ordered : Opening → Task → (most turn : ℕ) → Picker → List Event → List Event
ordered o p zero turn picker past = past
ordered o p (suc most) turn picker past =
    ordered o p most (turn + 1) (pick picker turn (steps o p past)).1
    (past_with o p past (pick picker turn (steps o p past)).0)

-- The record of an order of a seed.
abbrev pub order_of : Config → Task → (seed order : ℕ) → List Event
order_of c p seed order = ordered (opening_at c) p c.limit 0 (picker_of c.harts seed order) []

-- What an order meets after its last event: a full history if a step is left that could be taken, else nothing.
abbrev pub met_before : List Step → Met
met_before [] = Nothing
met_before (step ∷ left) = FullHistory

-- The result of trying an order of a program: this past, in which each step is its actor's own, and this end. It is
-- HistoryFull if and only if a step is left.
pub record IsTried (c : Config) (p : Task) (seed order : ℕ) (past : List Event) (end : End) : Type 0 where
  pub same : past ≡ order_of c p seed order
  pub own : AreOwn p past
  pub ended : IsEnd end (opening_at c) past p.guests
  pub by : IsEndBy (met_before (steps (opening_at c) p past)) (opening_at c) past p.guests end
