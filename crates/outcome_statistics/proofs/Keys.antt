-- The keys of sets, one by one.
use Rattle.std.proofs.Common.{◌≡◌, ◌↔◌, ◌⊎◌, ℕ, Bool, true, false, List, [], ◌∷◌, refl, sym, ap, ◌∙◌, subst, inl, inr}
use Rattle.std.specs.Prelude.{◌||◌, cond}
use Rattle.std.specs.declared.cmp.Ordering.{Ordering}
use Rattle.std.specs.declared.cmp.Ordering.TheVariants.{Less, Equal, Greater}
use Rattle.std.specs.Ordering.{is_eq, eq_by_cmp, nat_cmp, ordering_then}
use Rattle.std.specs.Cmp.Lexicographic.{slice_cmp}
use Rattle.std.specs.BTreeSet.{BTreeSet, InsertsAll, Updates, contains}
use Rattle.std.specs.Set.{is_member}
use Rattle.std.specs.Global.{Vec}
use Rattle.std.proofs.lemmas.Cmp.{nat_cmp_total, nat_list_cmp_total, tied_itself}
use Rattle.std.proofs.lemmas.Map.Lookups.{exact_bytes, exact_unsigned}
use Rattle.outcome_statistics.specs.declared.visits.Spot.{Spot}
use Rattle.outcome_statistics.specs.Records.{SomeIs}
use Rattle.outcome_statistics.specs.Visits.{HasKey}

eq-is : (o : Ordering) → is_eq o ≡ true → o ≡ Equal
eq-is Less told = absurd (let t = told in cc)
eq-is Equal told = refl
eq-is Greater told = absurd (let t = told in cc)

or-cases : (a b : Bool) → (a || b) ≡ true → (a ≡ true) ⊎ (b ≡ true)
or-cases true b told = inl refl
or-cases false b told = inr told

or-first : (a b : Bool) → a ≡ true → (a || b) ≡ true
or-first true b told = refl
or-first false b told = absurd (let t = told in cc)

or-second : (a b : Bool) → b ≡ true → (a || b) ≡ true
or-second true b told = refl
or-second false b told = told

cond-cases : (a b : Bool) → cond a true b ≡ true → (a ≡ true) ⊎ (b ≡ true)
cond-cases true b told = inl refl
cond-cases false b told = inr told

cond-first : (a b : Bool) → a ≡ true → cond a true b ≡ true
cond-first true b told = refl
cond-first false b told = absurd (let t = told in cc)

cond-second : (a b : Bool) → b ≡ true → cond a true b ≡ true
cond-second true b told = refl
cond-second false b told = told

pub some-none : {X : Type 0} (P : X → Type 0) (xs : List X) → xs ≡ [] → SomeIs P xs ↔ ⊥
some-none P [] is = ((λ some. some), (λ some. some))
some-none P (x ∷ xs) is = absurd (let t = is in cc)

module _ {K : Type 0} (R : K → K → Ordering) (P : K → Type 0) (same : (x : K) → R x x ≡ Equal) (on : (x y : K) → R x y ≡ Equal → P x → P y)
    (back : (x y : K) → R x y ≡ Equal → P y → P x) where
  some-member : (xs : List K) → SomeIs P xs → (v : K) × P v × (is_member (eq_by_cmp R) xs v ≡ true)
  some-member [] some = absurd some
  some-member (x ∷ xs) (inl here) = (x, here, or-first (is_eq (R x x)) (is_member (eq_by_cmp R) xs x) (ap is_eq (same x)))
  some-member (x ∷ xs) (inr there) =
      let found = some-member xs there in
      (found.0, found.1, or-second (is_eq (R found.0 x)) (is_member (eq_by_cmp R) xs found.0) found.2)

  member-some : (xs : List K) (v : K) → P v → is_member (eq_by_cmp R) xs v ≡ true → SomeIs P xs
  member-some [] v has member = absurd (let t = member in cc)
  member-some (x ∷ xs) v has member = elim (or-cases (is_eq (R v x)) (is_member (eq_by_cmp R) xs v) member) [
    | inl here ↦ inl (on v x (eq-is (R v x) here) has)
    | inr there ↦ inr (member-some xs v has there)
  ]

  -- a key more
  pub some-insert : (s n : BTreeSet K) (k : K) → Updates R s n k true → SomeIs P n.keys ↔ (SomeIs P s.keys ⊎ P k)
  some-insert s n k updates = (
    (λ some.
        let found = some-member n.keys some in
        elim (cond-cases (is_eq (R k found.0)) (contains R s found.0) (sym (updates.0 found.0) ∙ found.2)) [
          | inl here ↦ inr (back k found.0 (eq-is (R k found.0) here) found.1)
          | inr there ↦ inl (member-some s.keys found.0 found.1 there)
        ]),
    (λ either. elim either [
      | inl old ↦ (let found = some-member s.keys old in member-some n.keys found.0 found.1 (updates.0 found.0 ∙ cond-second (is_eq (R k found.0)) (contains R s found.0) found.2))
      | inr new ↦ member-some n.keys k new (updates.0 k ∙ cond-first (is_eq (R k k)) (contains R s k) (ap is_eq (same k)))
    ]),
  )

  -- the keys of another set
  pub some-append : (s n : BTreeSet K) (xs : List K) → InsertsAll R s xs n → SomeIs P n.keys ↔ (SomeIs P s.keys ⊎ SomeIs P xs)
  some-append s n xs inserts = (
    (λ some.
        let found = some-member n.keys some in
        elim (or-cases (is_member (eq_by_cmp R) s.keys found.0) (is_member (eq_by_cmp R) xs found.0) (sym (inserts.0 found.0) ∙ found.2)) [
          | inl here ↦ inl (member-some s.keys found.0 found.1 here)
          | inr there ↦ inr (member-some xs found.0 found.1 there)
        ]),
    (λ either. elim either [
      | inl old ↦ (
          let found = some-member s.keys old in
          member-some n.keys found.0 found.1 (inserts.0 found.0 ∙ or-first (is_member (eq_by_cmp R) s.keys found.0) (is_member (eq_by_cmp R) xs found.0) found.2)
          )
      | inr new ↦ (
          let found = some-member xs new in
          member-some n.keys found.0 found.1 (inserts.0 found.0 ∙ or-second (is_member (eq_by_cmp R) s.keys found.0) (is_member (eq_by_cmp R) xs found.0) found.2)
          )
    ]),
  )

  -- a set has a key exactly where one passes
  pub some-has : (xs : List K) (k : K) → P k → ((x : K) → P x → R k x ≡ Equal) → (is_member (eq_by_cmp R) xs k ≡ true) ↔ SomeIs P xs
  some-has [] k has one = ((λ member. absurd (let t = member in cc)), (λ some. absurd some))
  some-has (x ∷ xs) k has one = (
    member-some (x ∷ xs) k has,
    (λ some. elim some [
      | inl here ↦ or-first (is_eq (R k x)) (is_member (eq_by_cmp R) xs k) (ap is_eq (one x here))
      | inr there ↦ or-second (is_eq (R k x)) (is_member (eq_by_cmp R) xs k) ((some-has xs k has one).1 there)
    ]),
  )

-- ---- numbers

number-on : (n x y : ℕ) → nat_cmp x y ≡ Equal → x ≡ n → y ≡ n
number-on n x y tied is = sym (exact_unsigned x y tied) ∙ is

number-back : (n x y : ℕ) → nat_cmp x y ≡ Equal → y ≡ n → x ≡ n
number-back n x y tied is = exact_unsigned x y tied ∙ is

pub number-insert : (s n : BTreeSet ℕ) (k m : ℕ) → Updates nat_cmp s n k true → HasKey n.keys m ↔ (HasKey s.keys m ⊎ (k ≡ m))
number-insert s n k m = some-insert nat_cmp (λ x. x ≡ m) (tied_itself nat_cmp_total) (number-on m) (number-back m) s n k

pub number-append : (s n : BTreeSet ℕ) (xs : List ℕ) (m : ℕ) → InsertsAll nat_cmp s xs n → HasKey n.keys m ↔ (HasKey s.keys m ⊎ HasKey xs m)
number-append s n xs m = some-append nat_cmp (λ x. x ≡ m) (tied_itself nat_cmp_total) (number-on m) (number-back m) s n xs

-- ---- places of calls

abbrev pub spot_cmp : Spot → Spot → Ordering
spot_cmp x y = ordering_then (nat_cmp x.addr y.addr) (nat_cmp x.before y.before)

then-first : (o p : Ordering) → ordering_then o p ≡ Equal → o ≡ Equal
then-first Less p tied = tied
then-first Equal p tied = refl
then-first Greater p tied = tied

then-second : (o p : Ordering) → ordering_then o p ≡ Equal → p ≡ Equal
then-second Less p tied = absurd (let t = tied in cc)
then-second Equal p tied = tied
then-second Greater p tied = absurd (let t = tied in cc)

then-both : (o p : Ordering) → o ≡ Equal → p ≡ Equal → ordering_then o p ≡ Equal
then-both Less p one other = one
then-both Equal p one other = other
then-both Greater p one other = one

spot-same : (x : Spot) → spot_cmp x x ≡ Equal
spot-same x = then-both (nat_cmp x.addr x.addr) (nat_cmp x.before x.before) (tied_itself nat_cmp_total x.addr) (tied_itself nat_cmp_total x.before)

spot-exact : (x y : Spot) → spot_cmp x y ≡ Equal → x ≡ y
spot-exact x y tied =
    let addr = exact_unsigned x.addr y.addr (then-first (nat_cmp x.addr y.addr) (nat_cmp x.before y.before) tied) in
    let before = exact_unsigned x.before y.before (then-second (nat_cmp x.addr y.addr) (nat_cmp x.before y.before) tied) in
    λ i. record { addr = addr i; before = before i }

spot-on : (s x y : Spot) → spot_cmp x y ≡ Equal → x ≡ s → y ≡ s
spot-on s x y tied is = sym (spot-exact x y tied) ∙ is

spot-back : (s x y : Spot) → spot_cmp x y ≡ Equal → y ≡ s → x ≡ s
spot-back s x y tied is = spot-exact x y tied ∙ is

pub spot-insert : (s n : BTreeSet Spot) (k m : Spot) → Updates spot_cmp s n k true → HasKey n.keys m ↔ (HasKey s.keys m ⊎ (k ≡ m))
spot-insert s n k m = some-insert spot_cmp (λ x. x ≡ m) spot-same (spot-on m) (spot-back m) s n k

pub spot-append : (s n : BTreeSet Spot) (xs : List Spot) (m : Spot) → InsertsAll spot_cmp s xs n → HasKey n.keys m ↔ (HasKey s.keys m ⊎ HasKey xs m)
spot-append s n xs m = some-append spot_cmp (λ x. x ≡ m) spot-same (spot-on m) (spot-back m) s n xs

pub spot-has : (s : BTreeSet Spot) (k : Spot) → (contains spot_cmp s k ≡ true) ↔ HasKey s.keys k
spot-has s k = some-has spot_cmp (λ x. x ≡ k) spot-same (spot-on k) (spot-back k) s.keys k refl (λ x is. subst (λ y. spot_cmp k y ≡ Equal) (sym is) (spot-same k))

-- ---- records by their choices

abbrev pub choices_cmp : Vec ℕ → Vec ℕ → Ordering
choices_cmp x y = slice_cmp nat_cmp x.items y.items

choices-same : (x : Vec ℕ) → choices_cmp x x ≡ Equal
choices-same x = tied_itself nat_list_cmp_total x.items

choices-on : (c : List ℕ) (x y : Vec ℕ) → choices_cmp x y ≡ Equal → x.items ≡ c → y.items ≡ c
choices-on c x y tied is = sym (exact_bytes x.items y.items tied) ∙ is

choices-back : (c : List ℕ) (x y : Vec ℕ) → choices_cmp x y ≡ Equal → y.items ≡ c → x.items ≡ c
choices-back c x y tied is = exact_bytes x.items y.items tied ∙ is

pub choices-insert : (s n : BTreeSet (Vec ℕ)) (k : Vec ℕ) (c : List ℕ) → Updates choices_cmp s n k true
    → SomeIs (λ v. v.items ≡ c) n.keys ↔ (SomeIs (λ v. v.items ≡ c) s.keys ⊎ (k.items ≡ c))
choices-insert s n k c = some-insert choices_cmp (λ v. v.items ≡ c) choices-same (choices-on c) (choices-back c) s n k

pub choices-append : (s n : BTreeSet (Vec ℕ)) (xs : List (Vec ℕ)) (c : List ℕ) → InsertsAll choices_cmp s xs n
    → SomeIs (λ v. v.items ≡ c) n.keys ↔ (SomeIs (λ v. v.items ≡ c) s.keys ⊎ SomeIs (λ v. v.items ≡ c) xs)
choices-append s n xs c = some-append choices_cmp (λ v. v.items ≡ c) choices-same (choices-on c) (choices-back c) s n xs
