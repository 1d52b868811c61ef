-- The first places of a record that are such.
use Rattle.std.proofs.Common.{◌≡◌, ◌↔◌, ℕ, ◌+◌, ◌<◌, ◌≤◌, List, Bool, true, false, length, get_or, refl, sym, ◌∙◌, subst, below_more, inl, inr, arith}
use Rattle.std.specs.Prelude.{Option, Some, None, MatchOption, is_some, not, nat_lt, slice_get}
use Rattle.std.proofs.lemmas.Bool.{cases_order, lt-ltb, ltb-true}
use Rattle.std.proofs.lemmas.Option.{get_or_from_slice_get, slice_get-get_or, slice_get_within}
use Rattle.access_marks.specs.declared.marks.Marks.{Marks}
use Rattle.access_marks.specs.Marks.{unmarked}
use Rattle.board_core.specs.History.{Event}
use Rattle.condition_script.specs.declared.patterns.Pattern.{Pattern}
use Rattle.condition_script.specs.declared.rules.Ending.{Ending}
use Rattle.condition_script.specs.declared.rules.Rule.{Rule}
use Rattle.condition_script.specs.declared.rules.Rule.TheVariants.{NeverAfter}
use Rattle.conditions.specs.Patterns.{FitsStep}
use Rattle.marked_conditions.specs.Marked.{AnswersFit, FitsMark, HoldsWith, IsAtWith, IsFailingWith, IsFirstPlace, IsUnfitWith, MatchesWith, mark_of}

pub contrary : (b : Bool) → b ≡ true → b ≡ false → ⊥
contrary b good bad = cc

-- what stands at a place
pub same-at : {A : Type 0} (xs : List A) (k : ℕ) (x d : A) → slice_get xs k ≡ Some x → d ≡ get_or xs k d → x ≡ d
same-at xs k x d at is = sym (get_or_from_slice_get xs k x d at) ∙ sym is

-- ---- searches

module _ (Is Other : ℕ → Type 0) where
  -- what a search found is told by whether it found something
  pub none-is-never : (found : Option ℕ) (none : Bool) → MatchOption found ((k : ℕ) → 0 ≤ k → ¬ Is k) (IsFirstPlace Is 0) → is_some found ≡ not none → (none ≡ true) ↔ ((k : ℕ) → ¬ Is k)
  none-is-never None true search is = ((λ good k. search k (omega arith)), (λ never. refl))
  none-is-never None false search is = absurd (let t = is in cc)
  none-is-never (Some k) true search is = absurd (let t = is in cc)
  none-is-never (Some k) false search is = ((λ bad. absurd (let t = bad in cc)), (λ never. absurd (never k search.here)))

  pub some-is-there : (found : Option ℕ) (some : Bool) → MatchOption found ((k : ℕ) → 0 ≤ k → ¬ Is k) (IsFirstPlace Is 0) → some ≡ is_some found → (some ≡ true) ↔ ((k : ℕ) × Is k)
  some-is-there None true search is = absurd (let t = is in cc)
  some-is-there None false search is = ((λ bad. absurd (let t = bad in cc)), (λ there. absurd (search there.0 (omega arith) there.1)))
  some-is-there (Some k) true search is = ((λ good. (k, search.here)), (λ there. refl))
  some-is-there (Some k) false search is = absurd (let t = is in cc)

  -- behind the first place of another kind
  pub later : (first : ℕ) (found : Option ℕ) (none : Bool) → IsFirstPlace Other 0 first
      → MatchOption found ((k : ℕ) → first + 1 ≤ k → ¬ Is k) (IsFirstPlace Is (first + 1)) → is_some found ≡ not none
      → (none ≡ true) ↔ ((j k : ℕ) → j < k → Other j → ¬ Is k)
  later first None true from search is = (
    (λ good j k below other. elim (cases_order j first) [
      | inl same ↦ search k (omega arith)
      | inr (inl before) ↦ absurd (from.none_before j before (omega arith) other)
      | inr (inr behind) ↦ search k (omega arith)
    ]),
    (λ all. refl),
  )
  later first None false from search is = absurd (let t = is in cc)
  later first (Some k) true from search is = absurd (let t = is in cc)
  later first (Some k) false from search is =
      let below : first < k = let b = search.behind in omega arith in
      ((λ bad. absurd (let t = bad in cc)), (λ all. absurd (all first k below from.here search.here)))

module _ (Is : ℕ → Type 0) where
  -- no two are the first
  one-first : (j k : ℕ) → IsFirstPlace Is 0 j → IsFirstPlace Is 0 k → j ≡ k
  one-first j k a b = elim (cases_order j k) [
    | inl same ↦ same
    | inr (inl before) ↦ absurd (b.none_before j before (omega arith) a.here)
    | inr (inr behind) ↦ absurd (a.none_before k behind (omega arith) b.here)
  ]

  pub no-first : (found : Option ℕ) → MatchOption found ((k : ℕ) → 0 ≤ k → ¬ Is k) (IsFirstPlace Is 0) → found ≡ None → (k : ℕ) → ¬ IsFirstPlace Is 0 k
  no-first None search is k first = search k (omega arith) first.here
  no-first (Some j) search is k first = absurd (let t = is in cc)

pub both-first : (Is Other : ℕ → Type 0) (j k : ℕ) → IsFirstPlace Is 0 j → IsFirstPlace Other 0 k
    → (nat_lt j k ≡ true) ↔ ((m n : ℕ) → IsFirstPlace Is 0 m → IsFirstPlace Other 0 n → m < n)
both-first Is Other j k a b = (
  (λ good m n c d.
      let left : j ≡ m = one-first Is j m a c in
      let right : k ≡ n = one-first Other k n b d in
      let below : j < k = ltb-true j k good in
      omega arith),
  (λ all. let below : j < k = all j k a b in lt-ltb j k below),
)

-- ---- a record with marks

-- the marks at a place
abbrev pub marks_at : List Marks → ℕ → Marks
marks_at marks k = get_or marks k unmarked

pub has-marks : (events : List Event) (marks : List Marks) (k : ℕ) → length events ≡ length marks → k < length events → slice_get marks k ≡ Some (marks_at marks k)
has-marks events marks k same within = slice_get-get_or marks k unmarked (omega (arith, same, within))

pub marks-are : (events : List Event) (marks : List Marks) (k : ℕ) → length events ≡ length marks → k < length events → marks_at marks k ≡ get_or marks k (marks_at marks k)
marks-are events marks k same within = sym (get_or_from_slice_get marks k (marks_at marks k) (marks_at marks k) (has-marks events marks k same within))

pub not-here : (p : Pattern) (events : List Event) (marks : List Marks) (k : ℕ) (e : Event) (m : Marks) (told : Bool) → e ≡ get_or events k e → m ≡ get_or marks k m
    → (MatchesWith p e m → told ≡ true) → told ≡ false → ¬ IsAtWith p events marks k
not-here p events marks k e m told is_e is_m tells bad at =
    let here : MatchesWith p e m =
    subst (λ (x : Event). MatchesWith p x m) (same-at events k at.event e at.happened is_e)
    (subst (λ (x : Marks). MatchesWith p at.event x) (same-at marks k at.of m at.marked is_m) at.matches) in
    contrary told (tells here) bad

pub none-behind : (p : Pattern) (events : List Event) (marks : List Marks) (from n : ℕ) → length events ≤ n → ((j : ℕ) → j < n → from ≤ j → ¬ IsAtWith p events marks j)
    → (k : ℕ) → from ≤ k → ¬ IsAtWith p events marks k
none-behind p events marks from n long none k behind at =
    let within : k < length events = slice_get_within events k at.event at.happened in
    none k (omega arith) behind at

-- ---- answers

abbrev pub AnswerBefore : Pattern → List Event → List Marks → ℕ → Type 0
AnswerBefore p events marks n = (j : ℕ) → j < n → (e : Event) (m : Marks) → slice_get events j ≡ Some e → slice_get marks j ≡ Some m → FitsStep p e → FitsMark (mark_of p) p e m

pub answers-keep : (p : Pattern) (events : List Event) (marks : List Marks) (n : ℕ) (e : Event) (m : Marks) → e ≡ get_or events n e → m ≡ get_or marks n m
    → (FitsStep p e → FitsMark (mark_of p) p e m) → AnswerBefore p events marks n → AnswerBefore p events marks (n + 1)
answers-keep p events marks n e m is_e is_m fits before =
    let P : ℕ → Type 0 = λ k. (e : Event) (m : Marks) → slice_get events k ≡ Some e → slice_get marks k ≡ Some m → FitsStep p e → FitsMark (mark_of p) p e m in
    below_more P n before (λ x y at_x at_y.
    subst (λ (x : Event). FitsStep p x → FitsMark (mark_of p) p x y) (sym (same-at events n x e at_x is_e))
    (subst (λ (y : Marks). FitsStep p e → FitsMark (mark_of p) p e y) (sym (same-at marks n y m at_y is_m)) fits))

pub answers-whole : (p : Pattern) (events : List Event) (marks : List Marks) (n : ℕ) → length events ≤ n → AnswerBefore p events marks n → AnswersFit p events marks
answers-whole p events marks n long before k e m at_e at_m =
    let within : k < length events = slice_get_within events k e at_e in
    before k (omega arith) e m at_e at_m

pub none-unfit : (p : Pattern) (events : List Event) (marks : List Marks) (n : ℕ) → AnswerBefore p events marks n → (j : ℕ) → j < n → ¬ IsUnfitWith p events marks j
none-unfit p events marks n before j below unfit = unfit.other (before j below unfit.event unfit.of unfit.happened unfit.marked unfit.fits)

pub none-fits : (p : Pattern) (events : List Event) (marks : List Marks) (found : Option ℕ) (none : Bool) → MatchOption found (AnswersFit p events marks) (IsFirstPlace (IsUnfitWith p events marks) 0)
    → is_some found ≡ not none → (none ≡ true) ↔ AnswersFit p events marks
none-fits p events marks None true search is = ((λ good. search), (λ fit. refl))
none-fits p events marks None false search is = absurd (let t = is in cc)
none-fits p events marks (Some k) true search is = absurd (let t = is in cc)
none-fits p events marks (Some k) false search is = (
  (λ bad. absurd (let t = bad in cc)),
  (λ fit. let unfit = search.here in absurd (unfit.other (fit k unfit.event unfit.of unfit.happened unfit.marked unfit.fits))),
)

-- ---- places of failures

pub at-first : (p : Pattern) (events : List Event) (marks : List Marks) (found : Option ℕ)
    → MatchOption found ((k : ℕ) → 0 ≤ k → ¬ IsAtWith p events marks k) (IsFirstPlace (IsAtWith p events marks) 0)
    → MatchOption found ((k : ℕ) → ¬ IsAtWith p events marks k) (IsFirstPlace (IsAtWith p events marks) 0)
at-first p events marks None search = λ k. search k (omega arith)
at-first p events marks (Some k) search = search

pub behind-first : (p q : Pattern) (events : List Event) (marks : List Marks) (first : ℕ) (found : Option ℕ) → IsFirstPlace (IsAtWith q events marks) 0 first
    → MatchOption found ((k : ℕ) → first + 1 ≤ k → ¬ IsAtWith p events marks k) (IsFirstPlace (IsAtWith p events marks) (first + 1))
    → IsFailingWith (NeverAfter p q) events marks found
behind-first p q events marks first None from search = λ j k below other. elim (cases_order j first) [
  | inl same ↦ search k (omega arith)
  | inr (inl before) ↦ absurd (from.none_before j before (omega arith) other)
  | inr (inr behind) ↦ search k (omega arith)
]
behind-first p q events marks first (Some k) from search = (first, from, search)

pub no-first-at-all : (p q : Pattern) (events : List Event) (marks : List Marks) (found : Option ℕ) → MatchOption found ((k : ℕ) → 0 ≤ k → ¬ IsAtWith q events marks k) (IsFirstPlace (IsAtWith q events marks) 0)
    → found ≡ None → IsFailingWith (NeverAfter p q) events marks None
no-first-at-all p q events marks None search is = λ j k below other. absurd (search j (omega arith) other)
no-first-at-all p q events marks (Some first) search is = absurd (let t = is in cc)

pub failing-by : (rule other : Rule) (events : List Event) (marks : List Marks) (found : Option ℕ) → rule ≡ other → IsFailingWith other events marks found → IsFailingWith rule events marks found
failing-by rule other events marks found same fails = subst (λ (r : Rule). IsFailingWith r events marks found) (sym same) fails

-- ---- conditions

pub holds-by : (rule other : Rule) (events : List Event) (marks : List Marks) (end : Option Ending) (told : Bool) → rule ≡ other → (told ≡ true) ↔ HoldsWith other events marks end
    → (told ≡ true) ↔ HoldsWith rule events marks end
holds-by rule other events marks end told same tells = subst (λ (r : Rule). (told ≡ true) ↔ HoldsWith r events marks end) (sym same) tells
