-- Whom an event wakes: sets that loops make.
use Rattle.std.proofs.Common.{◌≡◌, ℕ, ◌<◌, Bool, true, false, List, [], ◌∷◌, refl, subst, sym, ap, ◌∙◌, inl, inr, arith}
use Rattle.std.specs.Prelude.{◌==◌, ◌&&◌, ◌||◌, nat_lt, not}
use Rattle.std.proofs.lemmas.Bool.{cases_lt, le-ltb, or_right}
use Rattle.std.proofs.lemmas.Bool.Decides.{eqb_tells}
use Rattle.hart_mask.specs.Ids.{IsIdSet, has, ids_below, ids_where, intersection_of, union_of, with_id, without_id}
use Rattle.hart_mask.proofs.Below.{eqb-same}
use Rattle.hart_mask.proofs.Sets.{IsIdSet-ids_where, has-ids_where, ids_where-agree, passes-ids_where, same_sets}
use Rattle.board_lock.specs.Inside.Rests.{less}
use Rattle.board_lock.specs.declared.rests.Woken.{Woken}
use Rattle.board_lock.proofs.Resting.{and-left, no-ids}

same-number : (h i : ℕ) → (h == i) ≡ (i == h)
same-number h i = grind arith

-- ---- the ids of a set that aren't in another

out : (a b c : Bool) → ((not a && b) && not c) ≡ (b && not (a || c))
out true true c = refl
out true false c = refl
out false b c = refl

pub less-more : (ids rest : List ℕ) (h : ℕ) → less (without_id ids h) rest ≡ less ids (h ∷ rest)
less-more ids rest h = ids_where-agree _ _ (λ i low.
    ap (λ b. b && not (has rest i)) (has-ids_where (λ k. not (k == h) && has ids k) i low)
    ∙ out (i == h) (has ids i) (has rest i)
    ∙ ap (λ b. has ids i && not (b || has rest i)) (same-number i h))

pub less-one : (ids left rest old : List ℕ) (h : ℕ) → left ≡ h ∷ rest → less ids left ≡ old → less (without_id ids h) rest ≡ old
less-one ids left rest old h is same = less-more ids rest h ∙ ap (less ids) (sym is) ∙ same

all-of : (a : Bool) → (a && not false) ≡ a
all-of true = refl
all-of false = refl

pub less-none : (ids : List ℕ) → IsIdSet ids → ids ≡ less ids []
unfolding IsIdSet
less-none ids is = is ∙ ids_where-agree _ _ (λ i low. sym (all-of (has ids i)))

-- ---- those of a set that pass a test

passes-in : (come this left p : Bool) → this ≡ true → p ≡ true → ((this || come) || (left && p)) ≡ (come || ((this || left) && p))
passes-in true true left true is passed = refl
passes-in false true left true is passed = refl
passes-in come false left p is passed = absurd (let e = is in cc)
passes-in come true left false is passed = absurd (let e = passed in cc)

passes-else : (come this left p : Bool) → this ≡ false → ((this || come) || (left && p)) ≡ (come || ((this || left) && p))
passes-else come false left p is = refl
passes-else come true left p is = absurd (let e = is in cc)

fails-in : (come this left p : Bool) → (this ≡ true → p ≡ false) → (come || (left && p)) ≡ (come || ((this || left) && p))
fails-in come false left p fails = refl
fails-in come true left true fails = absurd (let e = fails refl in cc)
fails-in come true true false fails = refl
fails-in come true false false fails = refl

-- the loop over a set, so far
abbrev pub Sifts : (ids : List ℕ) → (p : ℕ → Bool) → (come left : List ℕ) → Type 0
Sifts ids p come left = IsIdSet come × ((i : ℕ) → i < 128 → (has come i || (has left i && p i)) ≡ (has ids i && p i))

module _ (ids : List ℕ) (p : ℕ → Bool) (come left rest : List ℕ) (h : ℕ) (is : left ≡ h ∷ rest) (sifts : Sifts ids p come left) where
  before : (i : ℕ) → i < 128 → (has come i || (((h == i) || has rest i) && p i)) ≡ (has ids i && p i)
  before i low = subst (λ (l : List ℕ). (has come i || (has l i && p i)) ≡ (has ids i && p i)) is (sifts.1 i low)

  pub sifts-in : p h ≡ true → Sifts ids p (with_id come h) rest
  sifts-in passed = (IsIdSet-ids_where (λ k. k == h || has come k), now)
    where
      now : (i : ℕ) → i < 128 → (has (with_id come h) i || (has rest i && p i)) ≡ (has ids i && p i)
      now i low =
          ap (λ b. b || (has rest i && p i)) (has-ids_where (λ k. k == h || has come k) i low)
          ∙ ap (λ b. (b || has come i) || (has rest i && p i)) (same-number i h)
          ∙ elim (eqb_tells h i) [
            | inl this ↦ passes-in (has come i) (h == i) (has rest i) (p i) this.0 (ap p (sym this.1) ∙ passed)
            | inr other ↦ passes-else (has come i) (h == i) (has rest i) (p i) other.0
          ]
          ∙ before i low

  pub sifts-out : p h ≡ false → Sifts ids p come rest
  sifts-out failed = (sifts.0, λ i low. fails-in (has come i) (h == i) (has rest i) (p i) (fails i) ∙ before i low)
    where
      fails : (i : ℕ) → (h == i) ≡ true → p i ≡ false
      fails i this = elim (eqb_tells h i) [
        | inl same ↦ ap p (sym same.1) ∙ failed
        | inr other ↦ absurd (let e = sym this ∙ other.0 in cc)
      ]

or-none : (a p : Bool) → a ≡ (a || (false && p))
or-none true p = refl
or-none false p = refl

pub sifts-none : (ids : List ℕ) (p : ℕ → Bool) → Sifts ids p [] ids
sifts-none ids p = (no-ids, λ i low. refl)

pub sifts-all : (ids : List ℕ) (p : ℕ → Bool) (come left : List ℕ) → left ≡ [] → Sifts ids p come left → come ≡ ids_where (λ h. has ids h && p h)
sifts-all ids p come left none sifts = same_sets come (ids_where (λ h. has ids h && p h)) sifts.0 (IsIdSet-ids_where (λ h. has ids h && p h)) agree
  where
    agree : (i : ℕ) → i < 128 → has come i ≡ has (ids_where (λ h. has ids h && p h)) i
    agree i low =
        or-none (has come i) (p i)
        ∙ ap (λ (l : List ℕ). has come i || (has l i && p i)) (sym none)
        ∙ sifts.1 i low
        ∙ sym (has-ids_where (λ h. has ids h && p h) i low)

-- ---- the seats that are woken

shape : (a e t c p : Bool) → ((a && e) || (((a && t) && c) && p)) ≡ (a && (e || (t && (c && p))))
shape true e true c p = refl
shape true e false c p = refl
shape false e t c p = refl

pub waking : (harts events firmware concerned : List ℕ) (p : ℕ → Bool)
    → union_of (intersection_of harts events) (ids_where (λ h. has (intersection_of (intersection_of harts firmware) concerned) h && p h))
    ≡ ids_where (λ h. has harts h && (has events h || (has firmware h && (has concerned h && p h))))
waking harts events firmware concerned p = ids_where-agree _ _ (λ i low.
    ap (λ b. b || has (ids_where (λ h. has (intersection_of (intersection_of harts firmware) concerned) h && p h)) i) (has-ids_where (λ h. has harts h && has events h) i low)
    ∙ ap (λ b. (has harts i && has events i) || b)
    (has-ids_where (λ h. has (intersection_of (intersection_of harts firmware) concerned) h && p h) i low
    ∙ ap (λ b. b && p i)
    (has-ids_where (λ h. has (intersection_of harts firmware) h && has concerned h) i low
    ∙ ap (λ b. b && has concerned i) (has-ids_where (λ h. has harts h && has firmware h) i low)))
    ∙ shape (has harts i) (has events i) (has firmware i) (has concerned i) (p i))

-- those of an intersection with a set are in it
pub of-both : (harts firmware concerned : List ℕ) (h : ℕ) → has (intersection_of (intersection_of harts firmware) concerned) h ≡ true → has harts h ≡ true
of-both harts firmware concerned h there =
    let both = (passes-ids_where (λ i. has (intersection_of harts firmware) i && has concerned i) h there).1 in
    let first = and-left (has (intersection_of harts firmware) h) _ both in
    and-left (has harts h) _ (passes-ids_where (λ i. has harts i && has firmware i) h first).1

-- ---- a loop that takes the first of a set

pub has-first : (left rest : List ℕ) (h : ℕ) → left ≡ h ∷ rest → has left h ≡ true
has-first left rest h is = ap (λ (l : List ℕ). has l h) is ∙ ap (λ b. b || has rest h) (eqb-same h)

pub below-rest : (left rest : List ℕ) (h n : ℕ) → left ≡ h ∷ rest → ((i : ℕ) → has left i ≡ true → i < n) → (i : ℕ) → has rest i ≡ true → i < n
below-rest left rest h n is below i there = below i (ap (λ (l : List ℕ). has l i) is ∙ or_right (h == i) (has rest i) there)

pub below-ids : (n h : ℕ) → has (ids_below n) h ≡ true → h < n
below-ids n h there =
    let low = (passes-ids_where (λ k. nat_lt k n) h there).1 in
    elim (cases_lt h n) [
      | inl inside ↦ inside
      | inr outside ↦ absurd (let e = sym (le-ltb h n outside) ∙ low in cc)
    ]

pub woken-of : (w v : Woken) → w.harts ≡ v.harts → w.clock ≡ v.clock → w ≡ v
woken-of w v harts clock = λ i. record { harts = harts i; clock = clock i }
