-- The steps of a record that tell something, one by one.
use Rattle.std.proofs.Common.{◌≡◌, ℕ, ◌<◌, ◌≤◌, Bool, true, false, List, length, get_or, refl, subst, arith}
use Rattle.std.specs.Prelude.{◌||◌, Option, Some, None}
use Rattle.std.proofs.lemmas.Option.{slice_get_within}
use Rattle.access_marks.specs.declared.marks.Marks.{Marks}
use Rattle.board_core.specs.History.{Event}
use Rattle.condition_script.specs.declared.marks.Mark.{Mark}
use Rattle.condition_script.specs.declared.patterns.Pattern.{Pattern}
use Rattle.conditions.specs.Patterns.{FitsStep}
use Rattle.marked_conditions.specs.Marked.{FitsMark, IsAtWith, mark_of, told_mark}
use Rattle.marked_conditions.specs.Needs.{HasTelling, IsTelling, IsTellingAt, could_have}
use Rattle.marked_conditions.proofs.Firsts.{contrary, same-at}

-- what a step tells by what stands at its place
pub telling-not-here : (p : Pattern) (events : List Event) (marks : List Marks) (k : ℕ) (e : Event) (m : Marks) (told : Bool) → e ≡ get_or events k e → m ≡ get_or marks k m
    → (FitsStep p e × IsTelling (mark_of p) e m → told ≡ true) → told ≡ false → ¬ IsTellingAt p events marks k
telling-not-here p events marks k e m told is_e is_m tells bad at =
    let Tells : Event → Marks → Type 0 = λ x y. FitsStep p x × IsTelling (mark_of p) x y in
    let here : Tells e m =
    subst (λ (x : Event). Tells x m) (same-at events k at.event e at.happened is_e)
    (subst (λ (y : Marks). Tells at.event y) (same-at marks k at.of m at.marked is_m) (at.fits, at.tells)) in
    contrary told (tells here) bad

pub telling-nowhere : (p : Pattern) (events : List Event) (marks : List Marks) (n : ℕ) → length events ≤ n → ((j : ℕ) → j < n → ¬ IsTellingAt p events marks j) → ¬ HasTelling p events marks
telling-nowhere p events marks n long none has =
    let within : has.0 < length events = slice_get_within events has.0 has.1.event has.1.happened in
    none has.0 (omega arith) has.1

-- ---- steps that match

or-true : (a b : Bool) → a ≡ true → (a || b) ≡ true
or-true true b is = refl
or-true false b is = cc

marked-tells : (mark : Option Mark) (p : Pattern) (e : Event) (m : Marks) → FitsMark mark p e m → IsTelling mark e m
marked-tells None p e m fits = tt
marked-tells (Some mark) p e m fits = or-true (told_mark mark m) (could_have mark e) fits

-- a step that a pattern matches with its marks tells something
pub matched-tells : (p : Pattern) (events : List Event) (marks : List Marks) → ¬ HasTelling p events marks → (k : ℕ) → ¬ IsAtWith p events marks k
matched-tells p events marks none k at = none (
  k,
  record {
    event = at.event;
    of = at.of;
    happened = at.happened;
    marked = at.marked;
    fits = at.matches.0;
    tells = marked-tells (mark_of p) p at.event at.of at.matches.1;
  },
)
