-- The first steps that patterns mean.
use Rattle.std.proofs.Common.{◌≡◌, ◌↔◌, ℕ, zero, suc, ◌+◌, ◌<◌, ◌≤◌, List, [], ◌∷◌, Bool, true, false, length, get_or, refl, sym, ap, ◌∙◌, subst, below_more, inl, inr, arith}
use Rattle.std.specs.Prelude.{Option, Some, None, MatchOption, is_some, not, nat_lt, slice_get, take}
use Rattle.std.proofs.lemmas.Bool.{cases_order, lt-ltb, ltb-true}
use Rattle.std.proofs.lemmas.Option.{get_or_from_slice_get, none-some, slice_get-get_or, slice_get_within}
use Rattle.board_core.specs.History.{Event}
use Rattle.condition_script.specs.declared.patterns.Pattern.{Pattern}
use Rattle.conditions.specs.Patterns.{FitsReply, FitsStep, Matches}
use Rattle.condition_script.specs.declared.rules.Ending.{Ending}
use Rattle.condition_script.specs.declared.rules.Rule.{Rule}
use Rattle.conditions.specs.Rules.{Holds, IsAt, IsFirst, IsFirstFrom, IsFirstUnfit, RepliesFit}

pub same-event : (events : List Event) (k : ℕ) (e d : Event) → slice_get events k ≡ Some e → d ≡ get_or events k d → e ≡ d
same-event events k e d at is = sym (get_or_from_slice_get events k e d at) ∙ sym is

contrary : (b : Bool) → b ≡ true → b ≡ false → ⊥
contrary b good bad = cc

pub not-here : (p : Pattern) (events : List Event) (k : ℕ) (d : Event) (told : Bool) → d ≡ get_or events k d → (Matches p d → told ≡ true) → told ≡ false → ¬ IsAt p events k
not-here p events k d told is tells bad at =
    let P : Event → Type 0 = λ x. Matches p x in
    contrary told (tells (subst P (same-event events k at.0 d at.1 is) at.2)) bad

pub none-behind : (p : Pattern) (events : List Event) (from n : ℕ) → length events ≤ n → ((j : ℕ) → j < n → from ≤ j → ¬ IsAt p events j) → (k : ℕ) → from ≤ k → ¬ IsAt p events k
none-behind p events from n long none k behind at =
    let within : k < length events = slice_get_within events k at.0 at.1 in
    none k (omega arith) behind at

-- what a search found is told by whether it found something
pub none-is-never : (p : Pattern) (events : List Event) (found : Option ℕ) (none : Bool)
    → MatchOption found ((k : ℕ) → 0 ≤ k → ¬ IsAt p events k) (IsFirstFrom p events 0) → is_some found ≡ not none → (none ≡ true) ↔ ((k : ℕ) → ¬ IsAt p events k)
none-is-never p events None true search is = ((λ good k. search k (omega arith)), (λ never. refl))
none-is-never p events None false search is = absurd (let t = is in cc)
none-is-never p events (Some k) true search is = absurd (let t = is in cc)
none-is-never p events (Some k) false search is = ((λ bad. absurd (let t = bad in cc)), (λ never. absurd (never k search.here)))

pub some-is-there : (p : Pattern) (events : List Event) (found : Option ℕ) (some : Bool)
    → MatchOption found ((k : ℕ) → 0 ≤ k → ¬ IsAt p events k) (IsFirstFrom p events 0) → some ≡ is_some found → (some ≡ true) ↔ ((k : ℕ) × IsAt p events k)
some-is-there p events None true search is = absurd (let t = is in cc)
some-is-there p events None false search is = ((λ bad. absurd (let t = bad in cc)), (λ there. absurd (search there.0 (omega arith) there.1)))
some-is-there p events (Some k) true search is = ((λ good. (k, search.here)), (λ there. refl))
some-is-there p events (Some k) false search is = absurd (let t = is in cc)

-- behind the first step that Q means
pub later : (p q : Pattern) (events : List Event) (first : ℕ) (found : Option ℕ) (none : Bool) → IsFirstFrom q events 0 first
    → MatchOption found ((k : ℕ) → first + 1 ≤ k → ¬ IsAt p events k) (IsFirstFrom p events (first + 1)) → is_some found ≡ not none
    → (none ≡ true) ↔ ((j k : ℕ) → j < k → IsAt q events j → ¬ IsAt p events k)
later p q events first None true from search is = (
  (λ good j k below at_q. elim (cases_order j first) [
    | inl same ↦ search k (omega arith)
    | inr (inl before) ↦ absurd (from.none_before j before (omega arith) at_q)
    | inr (inr behind) ↦ search k (omega arith)
  ]),
  (λ all. refl),
)
later p q events first None false from search is = absurd (let t = is in cc)
later p q events first (Some k) true from search is = absurd (let t = is in cc)
later p q events first (Some k) false from search is =
    let below : first < k = let b = search.behind in omega arith in
    ((λ bad. absurd (let t = bad in cc)), (λ all. absurd (all first k below from.here search.here)))

-- no two are the first
pub one-first : (p : Pattern) (events : List Event) (j k : ℕ) → IsFirst p events j → IsFirst p events k → j ≡ k
one-first p events j k a b = elim (cases_order j k) [
  | inl same ↦ same
  | inr (inl before) ↦ absurd (b.none_before j before (omega arith) a.here)
  | inr (inr behind) ↦ absurd (a.none_before k behind (omega arith) b.here)
]

pub both-first : (p q : Pattern) (events : List Event) (j k : ℕ) → IsFirst p events j → IsFirst q events k
    → (nat_lt j k ≡ true) ↔ ((m n : ℕ) → IsFirst p events m → IsFirst q events n → m < n)
both-first p q events j k a b = (
  (λ good m n c d.
      let left : j ≡ m = one-first p events j m a c in
      let right : k ≡ n = one-first q events k n b d in
      let below : j < k = ltb-true j k good in
      omega arith),
  (λ all. let below : j < k = all j k a b in lt-ltb j k below),
)

-- ---- replies

abbrev pub FitBefore : Pattern → List Event → ℕ → Type 0
FitBefore p events n = (j : ℕ) → j < n → (e : Event) → slice_get events j ≡ Some e → FitsStep p e → FitsReply p e

pub replies-keep : (p : Pattern) (events : List Event) (n : ℕ) (d : Event) → d ≡ get_or events n d → (FitsStep p d → FitsReply p d) → FitBefore p events n → FitBefore p events (n + 1)
replies-keep p events n d is fits before =
    let P : ℕ → Type 0 = λ k. (e : Event) → slice_get events k ≡ Some e → FitsStep p e → FitsReply p e in
    let Q : Event → Type 0 = λ x. FitsStep p x → FitsReply p x in
    below_more P n before (λ e at. subst Q (sym (same-event events n e d at is)) fits)

pub replies-whole : (p : Pattern) (events : List Event) (n : ℕ) → length events ≤ n → FitBefore p events n → RepliesFit p events
replies-whole p events n long before k e at =
    let within : k < length events = slice_get_within events k e at in
    before k (omega arith) e at

-- the first n of a list have its members
take-slice : {X : Type 0} (xs : List X) (n k : ℕ) → k < n → slice_get (take n xs) k ≡ slice_get xs k
take-slice xs zero k below = absurd (omega arith)
take-slice [] (suc n) k below = refl
take-slice (x ∷ xs) (suc n) zero below = refl
take-slice (x ∷ xs) (suc n) (suc k) below = take-slice xs n k (omega arith)

take-within : {X : Type 0} (xs : List X) (n k : ℕ) (x : X) → slice_get (take n xs) k ≡ Some x → k < n
take-within xs zero k x at = absurd (none-some x at)
take-within [] (suc n) k x at = absurd (none-some x at)
take-within (y ∷ xs) (suc n) zero x at = omega arith
take-within (y ∷ xs) (suc n) (suc k) x at = let below = take-within xs n k x at in omega arith

take-has : {X : Type 0} (xs : List X) (n k : ℕ) (x : X) → slice_get (take n xs) k ≡ Some x → slice_get xs k ≡ Some x
take-has xs n k x at = sym (take-slice xs n k (take-within xs n k x at)) ∙ at

pub replies-before : (p : Pattern) (events : List Event) (n : ℕ) → FitBefore p events n → RepliesFit p (take n events)
replies-before p events n before k e at = before k (take-within events n k e at) e (take-has events n k e at)

pub reply-misfit : (p : Pattern) (events : List Event) (n : ℕ) (d : Event) (told : Bool) → n < length events → d ≡ get_or events n d
    → FitsStep p d → (FitsReply p d → told ≡ true) → told ≡ false → ¬ RepliesFit p (take (suc n) events)
reply-misfit p events n d told below is step tells bad fit =
    let at : slice_get events n ≡ Some d = slice_get-get_or events n d below ∙ ap (λ (x : Event). Some x) (sym is) in
    contrary told (tells (fit n d (take-slice events (suc n) n (omega arith) ∙ at) step)) bad

other-misfits : (p : Pattern) (events : List Event) (k : ℕ) → IsFirstUnfit p events k → ¬ RepliesFit p events
other-misfits p events k first fit = first.here (λ j e at. fit j e (take-has events (suc k) j e at))

pub none-is-each : (p : Pattern) (events : List Event) (found : Option ℕ) (none : Bool)
    → MatchOption found (RepliesFit p events) (IsFirstUnfit p events) → is_some found ≡ not none → (none ≡ true) ↔ RepliesFit p events
none-is-each p events None true search is = ((λ good. search), (λ fit. refl))
none-is-each p events None false search is = absurd (let t = is in cc)
none-is-each p events (Some k) true search is = absurd (let t = is in cc)
none-is-each p events (Some k) false search is = ((λ bad. absurd (let t = bad in cc)), (λ fit. absurd (other-misfits p events k search fit)))

pub no-first : (p : Pattern) (events : List Event) (found : Option ℕ) → MatchOption found ((k : ℕ) → 0 ≤ k → ¬ IsAt p events k) (IsFirstFrom p events 0) → found ≡ None
    → (k : ℕ) → ¬ IsFirst p events k
no-first p events None search is k first = search k (omega arith) first.here
no-first p events (Some j) search is k first = absurd (let t = is in cc)

-- ---- conditions

pub holds-by : (rule other : Rule) (events : List Event) (end : Option Ending) (told : Bool) → rule ≡ other → (told ≡ true) ↔ Holds other events end → (told ≡ true) ↔ Holds rule events end
holds-by rule other events end told same tells =
    let P : Rule → Type 0 = λ r. (told ≡ true) ↔ Holds r events end in
    subst P (sym same) tells
