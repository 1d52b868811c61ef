-- The clock's ticks, one by one.
use Rattle.std.proofs.Common.{◌≡◌, ℕ, zero, suc, ◌+◌, ◌<◌, ◌≤◌, List, [], ◌∷◌, ◌++◌, length, map, take, get_or, refl, sym, ap, subst, ◌∙◌, add-one, arith}
use Rattle.std.specs.Prelude.{slice_get, Some}
use Rattle.std.proofs.lemmas.Option.{slice_get-get_or}
use Rattle.board_terms.specs.declared.op.Op.{Op}
use Rattle.board_terms.specs.declared.op.Op.TheVariants.{Tick}
use Rattle.guest_programs.specs.Programs.{AreFirst}

pub next-tick : (ticks program : List ℕ) (k i : ℕ) → program ≡ ticks → k ≡ i → i < length program → slice_get ticks k ≡ Some (get_or program i 0)
next-tick ticks program k i planned count below =
    ap (slice_get ticks) count ∙ subst (λ (p : List ℕ). slice_get p i ≡ Some (get_or program i 0)) planned (slice_get-get_or program i 0 below)

one-longer : (ticks : List ℕ) (i : ℕ) → i < length ticks → map Tick (take i ticks) ++ Tick (get_or ticks i 0) ∷ [] ≡ map Tick (take (suc i) ticks)
one-longer [] i below = absurd (omega arith)
one-longer (x ∷ ticks) zero below = refl
one-longer (x ∷ ticks) (suc i) below = ap (λ (ops : List Op). Tick x ∷ ops) (one-longer ticks i (omega arith))

pub one-more : (ops ops' : List Op) (program ticks : List ℕ) (i : ℕ) → program ≡ ticks → i < length program → ops ≡ map Tick (take i ticks)
    → ops' ≡ ops ++ Tick (get_or program i 0) ∷ [] → ops' ≡ map Tick (take (i + 1) ticks)
one-more ops ops' program ticks i planned below did more =
    more
    ∙ ap (λ (o : List Op). o ++ Tick (get_or program i 0) ∷ []) did
    ∙ ap (λ (p : List ℕ). map Tick (take i ticks) ++ Tick (get_or p i 0) ∷ []) planned
    ∙ one-longer ticks i (let long = ap length planned in omega arith)
    ∙ ap (λ (n : ℕ). map Tick (take n ticks)) (sym (add-one i))

as-long : (ticks : List ℕ) (i : ℕ) → i ≤ length ticks → length (map Tick (take i ticks)) ≡ i
as-long ticks zero below = refl
as-long [] (suc i) below = absurd (omega arith)
as-long (x ∷ ticks) (suc i) below = ap suc (as-long ticks i (omega arith))

pub first-of : (ops ops' : List Op) (program ticks : List ℕ) (i : ℕ) → program ≡ ticks → i < length program → ops ≡ map Tick (take i ticks) → ops' ≡ ops → AreFirst ticks ops'
first-of ops ops' program ticks i planned below did same =
    let whole = same ∙ did in
    let long = ap length planned in
    whole ∙ ap (λ (n : ℕ). map Tick (take n ticks)) (sym (ap length whole ∙ as-long ticks i (omega arith)))
