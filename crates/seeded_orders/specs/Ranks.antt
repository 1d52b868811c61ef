-- Orders by ranks (profile): each kind of step has a rank, and in two turns a rank falls.
use Rattle.std.specs.Prelude.{ℕ, zero, suc, ◌+◌, ◌*◌, ◌/◌, ◌%◌, ◌^◌, ◌==◌, nat_le, if◌then◌else◌, List, [], ◌∷◌, get_or, slice_set, Option, Some, None}
use Rattle.rand_pcg.specs.Lcg.{Lcg}
use Rattle.rand_pcg.specs.Pcg.{pcg64_dxsm}
use Rattle.guest_programs.specs.declared.steps.Step.{Step}
use Rattle.guest_programs.specs.declared.steps.Step.TheVariants as takes

-- The ranks of all kinds, and the two turns in which the kind that would go first falls below all others.
pub record Ranking : Type 0 where
  pub ranks : List ℕ
  pub first : ℕ
  pub second : ℕ

-- The place of the rank of a step's kind: first the clock's, then four for each hart. Hart ids are below 128.
abbrev pub place_of : Step → ℕ
place_of takes.Tick = 0
place_of (takes.Serve h) = 4 * (h % 128) + 1
place_of (takes.Poll h) = 4 * (h % 128) + 2
place_of (takes.Advance h) = 4 * (h % 128) + 3
place_of (takes.Guest h) = 4 * (h % 128) + 4

abbrev pub rank_of : List ℕ → Step → ℕ
rank_of ranks step = get_or ranks (place_of step) 0

-- the step of the higher rank, of this step and an earlier one, if there is one; the earlier one if the ranks are equal
abbrev pub higher : List ℕ → Option Step → Step → Step
higher ranks None step = step
higher ranks (Some best) step = if nat_le (rank_of ranks step) (rank_of ranks best) then best else step

-- the step of the highest rank, of these steps and an earlier one, if there is one
unfoldable pub highest : List ℕ → Option Step → List Step → Option Step
highest ranks best [] = best
highest ranks best (step ∷ more) = highest ranks (Some (higher ranks best step)) more

-- The ranking in a turn in which this step, if any, would go first. In the two turns the rank of its kind falls: in the
-- first to 1, in the second to 0.
abbrev pub reranked : Ranking → (turn : ℕ) → Option Step → Ranking
reranked r turn None = r
reranked r turn (Some step) =
    if turn == r.first then record r { ranks = slice_set r.ranks (place_of step) 1 }
    else if turn == r.second then record r { ranks = slice_set r.ranks (place_of step) 0 } else r

-- so many ranks, each half of a word plus 2, so fallen ranks are below all others
unfoldable pub ranks_from : ℕ → Lcg → List ℕ
ranks_from zero words = []
ranks_from (suc n) words = ((pcg64_dxsm words).0 / 2 + 2) ∷ ranks_from n (pcg64_dxsm words).1

-- the ranking whose falls are in turns below the span
abbrev pub ranking_within : (harts span : ℕ) → Lcg → Ranking
ranking_within harts span words = record {
  ranks = ranks_from (4 * harts + 1) (pcg64_dxsm (pcg64_dxsm words).1).1;
  first = (pcg64_dxsm words).0 % span;
  second = (pcg64_dxsm (pcg64_dxsm words).1).0 % span;
}

-- The ranking that a generator gives so many harts: the span is a random power of 2, and the two turns lie below it.
abbrev pub ranking : (harts : ℕ) → Lcg → Ranking
ranking harts words = ranking_within harts (2 ^ ((pcg64_dxsm words).0 % 12)) (pcg64_dxsm words).1
