-- Tallies, record by record.
use Rattle.std.proofs.Common.{◌≡◌, ℕ, suc, ◌+◌, ◌-◌, ◌^◌, ◌<◌, List, [], ◌∷◌, ◌++◌, refl, sym, ap, ◌∙◌, subst, inl, inr, ◌⊎◌, length, arith}
use Rattle.std.specs.Prelude.{Bool, true, false, min, Option, Some, None, is_some, not, ◌↔◌}
use Rattle.conditions.specs.Pattern.{Pattern}
use Rattle.conditions.specs.Rule.{Rule}
use Rattle.conditions.specs.Rule.TheVariants.{OfSome}
use Rattle.outcome_statistics.specs.Records.{AllMeet, EachIs, IsCount, IsCounted, IsFirstOther, IsSo, SomeIs, Tells, Tried}
use Rattle.outcome_statistics.specs.declared.tally.Tally.{Tally}

-- ---- one record more

count-one : {X : Type 0} (P Q : X → Type 0) (x : X) (xs : List X) (n : ℕ) → P x → IsCount P Q xs n → IsCount P Q (x ∷ xs) (suc n)
unfolding IsCount
count-one P Q x xs n such count = inl (such, (n, refl, count))

count-other : {X : Type 0} (P Q : X → Type 0) (x : X) (xs : List X) (n : ℕ) → Q x → IsCount P Q xs n → IsCount P Q (x ∷ xs) n
unfolding IsCount
count-other P Q x xs n other count = inr (other, count)

pub counted-none : {X : Type 0} (P Q : X → Type 0) → IsCounted P Q [] 0
unfolding IsCount
counted-none P Q = (0, refl, refl)

up : (n m k : ℕ) → n ≡ min k (2 ^ 64 - 1) → m ≡ min (n + 1) (2 ^ 64 - 1) → m ≡ min (suc k) (2 ^ 64 - 1)
up n m k is next = grind arith

pub counted-one : {X : Type 0} (P Q : X → Type 0) (x : X) (xs : List X) (n m : ℕ) → P x → IsCounted P Q xs n → m ≡ min (n + 1) (2 ^ 64 - 1) → IsCounted P Q (x ∷ xs) m
counted-one P Q x xs n m such counted is = (suc counted.0, count-one P Q x xs counted.0 such counted.1, up n m counted.0 counted.2 is)

pub counted-other : {X : Type 0} (P Q : X → Type 0) (x : X) (xs : List X) (n : ℕ) → Q x → IsCounted P Q xs n → IsCounted P Q (x ∷ xs) n
counted-other P Q x xs n other counted = (counted.0, count-other P Q x xs counted.0 other counted.1, counted.2)

first-same : (P : Tried → Type 0) (x : Tried) (xs : List Tried) (first : Option ℕ) → P x → IsFirstOther P xs first → IsFirstOther P (x ∷ xs) first
unfolding IsFirstOther
first-same P x xs None such is = (such, is)
first-same P x xs (Some n) such is = inl is

first-kept : (P : Tried → Type 0) (x : Tried) (xs : List Tried) (n : ℕ) → IsFirstOther P xs (Some n) → IsFirstOther P (x ∷ xs) (Some n)
unfolding IsFirstOther
first-kept P x xs n is = inl is

first-here : (P : Tried → Type 0) (x : Tried) (xs : List Tried) → ¬ P x → IsFirstOther P xs None → IsFirstOther P (x ∷ xs) (Some x.number)
unfolding IsFirstOther
first-here P x xs other is = inr (is, other, refl)

pub tells-one : (P : Tried → Type 0) (x : Tried) (xs : List Tried) (before after : Tally) → P x → Tells P xs before
    → after.holding ≡ min (before.holding + 1) (2 ^ 64 - 1) → after.failing ≡ before.failing → after.first ≡ before.first → Tells P (x ∷ xs) after
tells-one P x xs before after such tells holding failing first =
    let F : ℕ → Type 0 = λ n. IsCounted (λ y. ¬ P y) P (x ∷ xs) n in
    let G : Option ℕ → Type 0 = λ k. IsFirstOther P (x ∷ xs) k in
    record {
      holding = counted-one P (λ y. ¬ P y) x xs before.holding after.holding such tells.holding holding;
      failing = subst F (sym failing) (counted-other (λ y. ¬ P y) P x xs before.failing such tells.failing);
      first = subst G (sym first) (first-same P x xs before.first such tells.first);
    }

first-after : (P : Tried → Type 0) (x : Tried) (xs : List Tried) (before : Option ℕ) → ¬ P x → IsFirstOther P xs before
    → (k : ℕ) → (before ≡ Some k) ⊎ ((before ≡ None) × (k ≡ x.number)) → IsFirstOther P (x ∷ xs) (Some k)
first-after P x xs before other is k (inl same) =
    let G : Option ℕ → Type 0 = λ f. IsFirstOther P xs f in
    first-kept P x xs k (subst G same is)
first-after P x xs before other is k (inr none) =
    let G : Option ℕ → Type 0 = λ f. IsFirstOther P xs f in
    let H : ℕ → Type 0 = λ n. IsFirstOther P (x ∷ xs) (Some n) in
    subst H (sym none.1) (first-here P x xs other (subst G none.0 is))

pub tells-other : (P : Tried → Type 0) (x : Tried) (xs : List Tried) (before after : Tally) (k : ℕ) → ¬ P x → Tells P xs before
    → after.holding ≡ before.holding → after.failing ≡ min (before.failing + 1) (2 ^ 64 - 1) → after.first ≡ Some k
    → (before.first ≡ Some k) ⊎ ((before.first ≡ None) × (k ≡ x.number)) → Tells P (x ∷ xs) after
tells-other P x xs before after k other tells holding failing first which =
    let F : ℕ → Type 0 = λ n. IsCounted P (λ y. ¬ P y) (x ∷ xs) n in
    let G : Option ℕ → Type 0 = λ f. IsFirstOther P (x ∷ xs) f in
    record {
      holding = subst F (sym holding) (counted-other P (λ y. ¬ P y) x xs before.holding other tells.holding);
      failing = counted-one (λ y. ¬ P y) P x xs before.failing after.failing other tells.failing failing;
      first = subst G (sym first) (first-after P x xs before.first other tells.first k which);
    }

-- ---- records behind others

count-both : {X : Type 0} (P Q : X → Type 0) (xs ys : List X) (n m : ℕ) → IsCount P Q xs n → IsCount P Q ys m → IsCount P Q (ys ++ xs) (m + n)
unfolding IsCount
count-both P Q xs [] n m count none =
    let same : n ≡ m + n = omega arith in
    subst (λ (k : ℕ). IsCount P Q xs k) same count
count-both P Q xs (y ∷ ys) n m count (inl one) =
    inl (one.0, (one.1.0 + n, (let e = one.1.1 in omega arith), count-both P Q xs ys n one.1.0 count one.1.2))
count-both P Q xs (y ∷ ys) n m count (inr other) = inr (other.0, count-both P Q xs ys n m count other.1)

both-up : (a b n m k : ℕ) → n ≡ min a (2 ^ 64 - 1) → m ≡ min b (2 ^ 64 - 1) → k ≡ min (n + m) (2 ^ 64 - 1) → k ≡ min (b + a) (2 ^ 64 - 1)
both-up a b n m k one other is = grind arith

pub counted-both : {X : Type 0} (P Q : X → Type 0) (xs ys : List X) (n m k : ℕ) → IsCounted P Q xs n → IsCounted P Q ys m → k ≡ min (n + m) (2 ^ 64 - 1) → IsCounted P Q (ys ++ xs) k
counted-both P Q xs ys n m k here there is =
    (there.0 + here.0, count-both P Q xs ys here.0 there.0 here.1 there.1, both-up here.0 there.0 n m k here.2 there.2 is)

first-both-kept : (P : Tried → Type 0) (xs ys : List Tried) (n : ℕ) → IsFirstOther P xs (Some n) → IsFirstOther P (ys ++ xs) (Some n)
first-both-kept P xs [] n is = is
first-both-kept P xs (y ∷ ys) n is = first-kept P y (ys ++ xs) n (first-both-kept P xs ys n is)

first-both-none : (P : Tried → Type 0) (xs ys : List Tried) (first : Option ℕ) → IsFirstOther P xs None → IsFirstOther P ys first → IsFirstOther P (ys ++ xs) first
unfolding IsFirstOther
first-both-none P xs [] first none is = subst (λ f. IsFirstOther P xs f) (sym is) none
first-both-none P xs (y ∷ ys) None none is = (is.0, first-both-none P xs ys None none is.1)
first-both-none P xs (y ∷ ys) (Some n) none (inl before) = inl (first-both-none P xs ys (Some n) none before)
first-both-none P xs (y ∷ ys) (Some n) none (inr here) = inr (first-both-none P xs ys None none here.0, here.1, here.2)

-- the first of two
pub first-of-both : (P : Tried → Type 0) (xs ys : List Tried) (one other : Option ℕ) → IsFirstOther P xs one → IsFirstOther P ys other
    → (first : Option ℕ) → ((one ≡ None) × (first ≡ other)) ⊎ (((n : ℕ) × (one ≡ Some n)) × (first ≡ one)) → IsFirstOther P (ys ++ xs) first
first-of-both P xs ys one other is later first (inl none) =
    subst (λ f. IsFirstOther P (ys ++ xs) f) (sym none.1) (first-both-none P xs ys other (subst (λ f. IsFirstOther P xs f) none.0 is) later)
first-of-both P xs ys one other is later first (inr some) =
    let same : first ≡ Some some.0.0 = some.1 ∙ some.0.1 in
    subst (λ f. IsFirstOther P (ys ++ xs) f) (sym same) (first-both-kept P xs ys some.0.0 (subst (λ f. IsFirstOther P xs f) some.0.1 is))

pub tells-both : (P : Tried → Type 0) (xs ys : List Tried) (one other both : Tally) → Tells P xs one → Tells P ys other
    → both.holding ≡ min (one.holding + other.holding) (2 ^ 64 - 1) → both.failing ≡ min (one.failing + other.failing) (2 ^ 64 - 1)
    → ((one.first ≡ None) × (both.first ≡ other.first)) ⊎ (((n : ℕ) × (one.first ≡ Some n)) × (both.first ≡ one.first)) → Tells P (ys ++ xs) both
tells-both P xs ys one other both here there holding failing first = record {
  holding = counted-both P (λ y. ¬ P y) xs ys one.holding other.holding both.holding here.holding there.holding holding;
  failing = counted-both (λ y. ¬ P y) P xs ys one.failing other.failing both.failing here.failing there.failing failing;
  first = first-of-both P xs ys one.first other.first here.first there.first both.first first;
}

-- ---- what a count tells

none-counted : {X : Type 0} (P Q : X → Type 0) (xs : List X) → IsCount P Q xs 0 → EachIs Q xs
unfolding IsCount
none-counted P Q [] count = tt
none-counted P Q (x ∷ xs) (inl one) = absurd (let t = one.1.1 in omega arith)
none-counted P Q (x ∷ xs) (inr other) = (other.0, none-counted P Q xs other.1)

each-other : {X : Type 0} (P Q : X → Type 0) (xs : List X) (n : ℕ) → ((x : X) → P x → ¬ Q x) → IsCount P Q xs n → EachIs Q xs → n ≡ 0
unfolding IsCount
each-other P Q [] n apart count each = count
each-other P Q (x ∷ xs) n apart (inl one) each = absurd (apart x one.0 each.0)
each-other P Q (x ∷ xs) n apart (inr other) each = each-other P Q xs n apart other.1 each.1

some-counted : {X : Type 0} (P Q : X → Type 0) (xs : List X) (n : ℕ) → IsCount P Q xs n → 0 < n → SomeIs P xs
unfolding IsCount
some-counted P Q [] n count some = absurd (omega arith)
some-counted P Q (x ∷ xs) n (inl one) some = inl one.0
some-counted P Q (x ∷ xs) n (inr other) some = inr (some-counted P Q xs n other.1 some)

some-there : {X : Type 0} (P Q : X → Type 0) (xs : List X) (n : ℕ) → ((x : X) → P x → ¬ Q x) → IsCount P Q xs n → SomeIs P xs → 0 < n
unfolding IsCount
some-there P Q [] n apart count some = absurd some
some-there P Q (x ∷ xs) n apart (inl one) some = let t = one.1.1 in omega arith
some-there P Q (x ∷ xs) n apart (inr other) (inl here) = absurd (apart x here other.0)
some-there P Q (x ∷ xs) n apart (inr other) (inr more) = some-there P Q xs n apart other.1 more

up-none : (n m : ℕ) → n ≡ min m (2 ^ 64 - 1) → n ≡ 0 → m ≡ 0
up-none n m is none = grind arith

up-some : (n m : ℕ) → n ≡ min m (2 ^ 64 - 1) → 0 < n → 0 < m
up-some n m is some = grind arith

down-none : (n m : ℕ) → n ≡ min m (2 ^ 64 - 1) → m ≡ 0 → n ≡ 0
down-none n m is none = grind arith

down-some : (n m : ℕ) → n ≡ min m (2 ^ 64 - 1) → 0 < m → 0 < n
down-some n m is some = grind arith

pub each-tells : (P : Tried → Type 0) (tried : List Tried) (t : Tally) → Tells P tried t → (t.failing ≡ 0) ↔ EachIs P tried
each-tells P tried t tells =
    let f : IsCounted (λ x. ¬ P x) P tried t.failing = tells.failing in
    let C : ℕ → Type 0 = λ n. IsCount (λ x. ¬ P x) P tried n in (
      (λ none. none-counted (λ x. ¬ P x) P tried (subst C (up-none t.failing f.0 f.2 none) f.1)),
      (λ each. down-none t.failing f.0 f.2 (each-other (λ x. ¬ P x) P tried f.0 (λ x no. no) f.1 each)),
    )

pub some-tells : (P : Tried → Type 0) (tried : List Tried) (t : Tally) → Tells P tried t → (0 < t.holding) ↔ SomeIs P tried
some-tells P tried t tells =
    let f : IsCounted P (λ x. ¬ P x) tried t.holding = tells.holding in (
      (λ some. some-counted P (λ x. ¬ P x) tried f.0 f.1 (up-some t.holding f.0 f.2 some)),
      (λ some. down-some t.holding f.0 f.2 (some-there P (λ x. ¬ P x) tried f.0 (λ x yes no. no yes) f.1 some)),
    )

-- each is such, or it isn't
count-all : {X : Type 0} (P : X → Type 0) (xs : List X) (n m : ℕ) → IsCount P (λ x. ¬ P x) xs n → IsCount (λ x. ¬ P x) P xs m → n + m ≡ length xs
unfolding IsCount
count-all P [] n m such other = omega arith
count-all P (x ∷ xs) n m (inl one) (inl none) = absurd (none.0 one.0)
count-all P (x ∷ xs) n m (inl one) (inr more) = let up = one.1.1 in let all = count-all P xs one.1.0 m one.1.2 more.1 in omega arith
count-all P (x ∷ xs) n m (inr more) (inl one) = let up = one.1.1 in let all = count-all P xs n one.1.0 more.1 one.1.2 in omega arith
count-all P (x ∷ xs) n m (inr none) (inr one) = absurd (none.0 one.0)

all-up : (a b n m k l : ℕ) → n ≡ min a (2 ^ 64 - 1) → m ≡ min b (2 ^ 64 - 1) → k ≡ min (n + m) (2 ^ 64 - 1) → a + b ≡ l → k ≡ min l (2 ^ 64 - 1)
all-up a b n m k l one other is all = grind arith

pub all-told : (P : Tried → Type 0) (tried : List Tried) (t : Tally) (k : ℕ) → Tells P tried t → k ≡ min (t.holding + t.failing) (2 ^ 64 - 1)
    → k ≡ min (length tried) (2 ^ 64 - 1)
all-told P tried t k tells is =
    let such : IsCounted P (λ x. ¬ P x) tried t.holding = tells.holding in
    let other : IsCounted (λ x. ¬ P x) P tried t.failing = tells.failing in
    all-up such.0 other.0 t.holding t.failing k (length tried) such.2 other.2 is (count-all P tried such.0 other.0 such.1 other.1)

-- ---- the program's own steps

pub none-is : (first : Option ℕ) (told : Bool) → is_some first ≡ not told → told ≡ true → first ≡ None
none-is None told is none = refl
none-is (Some n) told is none = absurd (let t = is ∙ ap not none in cc)

pub some-is : (first : Option ℕ) (told : Bool) → is_some first ≡ not told → told ≡ false → (n : ℕ) × (first ≡ Some n)
some-is None told is some = absurd (let t = is ∙ ap not some in cc)
some-is (Some n) told is some = (n, refl)

pub no-longer : {P : Type 0} (told : Bool) → (P → told ≡ true) → told ≡ false → ¬ P
no-longer told tells untrue such = absurd (let t = sym (tells such) ∙ untrue in cc)

pub tells-none : (P : Tried → Type 0) → Tells P [] (let t : Tally = record { holding = 0; failing = 0; first = None } in t)
unfolding IsCount IsFirstOther
tells-none P = record { holding = (0, refl, refl); failing = (0, refl, refl); first = refl }

pub all-some : (rule : Rule) (p : Pattern) (tried : List Tried) (told : Bool) → rule ≡ OfSome p → (told ≡ true) ↔ SomeIs (IsSo (Some rule)) tried → (told ≡ true) ↔ AllMeet rule tried
all-some rule p tried told is tells =
    let Q : Rule → Type 0 = λ r. (told ≡ true) ↔ SomeIs (IsSo (Some r)) tried → (told ≡ true) ↔ AllMeet r tried in
    subst Q (sym is) (λ (same : (told ≡ true) ↔ SomeIs (IsSo (Some (OfSome p))) tried). same) tells

pub all-each : (rule other : Rule) (tried : List Tried) (told : Bool) → rule ≡ other → ((told ≡ true) ↔ EachIs (IsSo (Some other)) tried → (told ≡ true) ↔ AllMeet other tried)
    → (told ≡ true) ↔ EachIs (IsSo (Some rule)) tried → (told ≡ true) ↔ AllMeet rule tried
all-each rule other tried told is same tells =
    let Q : Rule → Type 0 = λ r. (told ≡ true) ↔ EachIs (IsSo (Some r)) tried → (told ≡ true) ↔ AllMeet r tried in
    subst Q (sym is) same tells
