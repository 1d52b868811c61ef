-- Verdicts one behind the other, of which each holds.
use Rattle.std.proofs.Common.{◌≡◌, ℕ, zero, suc, ◌<◌, List, [], ◌∷◌, ◌++◌, length, get_or, refl, sym, ◌∙◌, subst}
use Rattle.std.specs.Prelude.{Some, map, slice_get}
use Rattle.std.proofs.lemmas.Option.{none-some, same_Some, slice_get-get_or}
use Rattle.outcome_statistics.specs.Records.{EachIs}
use Rattle.test_report.specs.declared.point.Point.{Point}
use Rattle.test_report.specs.declared.verdict.Verdict.{Verdict}
use Rattle.test_report.specs.declared.verdict.Verdict.TheVariants.{Holds, Fails}

-- each of these holds
abbrev pub EachIsHolds : List Verdict → Type 0
EachIsHolds found = (k : ℕ) (verdict : Verdict) → slice_get found k ≡ Some verdict → verdict ≡ Holds

pub verdicts-hold : (points : List Point) → ((k : ℕ) (point : Point) → slice_get points k ≡ Some point → point.verdict ≡ Holds)
    → EachIsHolds (map (λ point. point.verdict) points)
verdicts-hold [] each zero verdict at = absurd (none-some verdict at)
verdicts-hold [] each (suc k) verdict at = absurd (none-some verdict at)
verdicts-hold (point ∷ points) each zero verdict at = sym (same_Some point.verdict verdict at) ∙ each 0 point refl
verdicts-hold (point ∷ points) each (suc k) verdict at = verdicts-hold points (λ j. each (suc j)) k verdict at

pub front-holds : (xs ys : List Verdict) → EachIsHolds (xs ++ ys) → EachIsHolds xs
front-holds [] ys each zero verdict at = absurd (none-some verdict at)
front-holds [] ys each (suc k) verdict at = absurd (none-some verdict at)
front-holds (x ∷ xs) ys each zero verdict at = each 0 verdict at
front-holds (x ∷ xs) ys each (suc k) verdict at = front-holds xs ys (λ j. each (suc j)) k verdict at

pub back-holds : (xs ys : List Verdict) → EachIsHolds (xs ++ ys) → EachIsHolds ys
back-holds [] ys each = each
back-holds (x ∷ xs) ys each = back-holds xs ys (λ j. each (suc j))

-- none of those that hold fails
pub none-fails : (found : List Verdict) → EachIs (λ verdict. verdict ≡ Fails) found → EachIsHolds found → found ≡ []
none-fails [] fail each = refl
none-fails (x ∷ xs) fail each = absurd (let holds = each 0 x refl in let fails = fail.0 in let t : Holds ≡ Fails = sym holds ∙ fails in cc)

pub one-more-fails : (found : List Verdict) (x : Verdict) → EachIs (λ verdict. verdict ≡ Fails) found → x ≡ Fails
    → EachIs (λ verdict. verdict ≡ Fails) (found ++ x ∷ [])
one-more-fails [] x fail is = (is, tt)
one-more-fails (y ∷ ys) x fail is = (fail.0, one-more-fails ys x fail.1 is)

-- each place within has a verdict that holds
pub holds-in : (P : ℕ → Verdict → Type 0) (found : List Verdict) → EachIsHolds found
    → ((place : ℕ) (verdict : Verdict) → slice_get found place ≡ Some verdict → P place verdict)
    → (place : ℕ) → place < length found → P place Holds
holds-in P found each is place below =
    let one : Verdict = get_or found place Holds in
    let at : slice_get found place ≡ Some one = slice_get-get_or found place Holds below in
    subst (P place) (each place one at) (is place one at)

-- each of one more: the last one is in the place behind those before
pub each-more : {X : Type 0} (P : ℕ → X → Type 0) (xs : List X) (x : X) → ((k : ℕ) (y : X) → slice_get xs k ≡ Some y → P k y)
    → P (length xs) x → (k : ℕ) (y : X) → slice_get (xs ++ x ∷ []) k ≡ Some y → P k y
each-more P [] x each last zero y at = subst (P 0) (same_Some x y at) last
each-more P [] x each last (suc k) y at = absurd (none-some y at)
each-more P (first ∷ xs) x each last zero y at = each 0 y at
each-more P (first ∷ xs) x each last (suc k) y at = each-more (λ j. P (suc j)) xs x (λ j. each (suc j)) last k y at
