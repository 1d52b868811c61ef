-- Where an event stands among its actor's events.
use Rattle.std.proofs.Common.{◌≡◌, ℕ, zero, suc, ◌+◌, ◌-◌, ◌<◌, ◌≤◌, true, List, [], ◌∷◌, ◌++◌, length, get_or, refl, inl, inr, sym, ap, ◌∙◌, arith, append_assoc}
use Rattle.std.specs.Prelude.{Option, Some, None, slice_get}
use Rattle.std.proofs.lemmas.Bool.{cases_Bool}
use Rattle.std.proofs.lemmas.List.{length-append}
use Rattle.board_terms.specs.declared.op.Actor.{Actor}
use Rattle.board_core.specs.History.{Event}
use Rattle.board_lock.specs.Events.{events_from, is_same}
use Rattle.board_lock.specs.Inside.Kept.{count_of}
use Rattle.board_lock.proofs.Actors.{same-itself}

pub count_of-append : (a : Actor) (xs ys : List Event) → count_of a (xs ++ ys) ≡ count_of a xs + count_of a ys
count_of-append a [] ys = omega arith
count_of-append a (x ∷ xs) ys = let more = count_of-append a xs ys in omega arith

pub count_of-within : (a : Actor) (es : List Event) → count_of a es ≤ length es
count_of-within a [] = omega arith
count_of-within a (e ∷ es) = let more = count_of-within a es in elim (cases_Bool (is_same a e.actor)) [
  | inl same ↦ rw same (omega arith)
  | inr other ↦ rw other (omega arith)
]

pub length-events : (n : ℕ) (a : Actor) (es : List Event) → length (events_from n a es) ≡ count_of a es
length-events n a [] = refl
length-events n a (e ∷ es) = let more = length-events (n + 1) a es in elim (cases_Bool (is_same a e.actor)) [
  | inl same ↦ rw same (omega arith)
  | inr other ↦ rw other (omega arith)
]

-- the event after so many of the actor's is the member of that number
pub found : (n : ℕ) (a : Actor) (before : List Event) (e : Event) (rest : List Event) → is_same a e.actor ≡ true
    → slice_get (events_from n a (before ++ e ∷ rest)) (count_of a before) ≡ Some (n + length before, e)
found n a [] e rest same = rw same (let here : n ≡ n + 0 = omega arith in ap (λ (k : ℕ). Some (k, e)) here)
found n a (x ∷ xs) e rest same =
    let more = found (n + 1) a xs e rest same in
    let on : (n + 1) + length xs ≡ n + length (x ∷ xs) = omega arith in
    let behind : List (ℕ × Event) = events_from (n + 1) a (xs ++ e ∷ rest) in
    let one : 1 + count_of a xs ≡ suc (count_of a xs) = omega arith in
    let none : 0 + count_of a xs ≡ count_of a xs = omega arith in
    elim (cases_Bool (is_same a x.actor)) [
      | inl mine ↦ rw mine (ap (slice_get ((n, x) ∷ behind)) one ∙ more ∙ ap (λ (k : ℕ). Some (k, e)) on)
      | inr other ↦ rw other (ap (slice_get behind) none ∙ more ∙ ap (λ (k : ℕ). Some (k, e)) on)
    ]

-- what stands after others
pub after : (before : List Event) (e : Event) (rest : List Event) → slice_get (before ++ e ∷ rest) (length before) ≡ Some e
after [] e rest = refl
after (x ∷ xs) e rest = after xs e rest

Some-is : {e f : Event} → Some e ≡ Some f → e ≡ f
Some-is {e} {f} same = ap (from f) same
  where
    from : Event → Option Event → Event
    from d None = d
    from d (Some x) = x

pub slice_get-tells : (xs : List Event) (k : ℕ) (e d : Event) → slice_get xs k ≡ Some e → get_or xs k d ≡ e
slice_get-tells [] k e d there = absurd (let t = there in cc)
slice_get-tells (x ∷ xs) zero e d there = Some-is there
slice_get-tells (x ∷ xs) (suc k) e d there = slice_get-tells xs k e d there

-- the place of the event that was the last of those seen is that of an event
pub within : (first : ℕ) (whole seen rest before : List Event) (e : Event) (place : ℕ) → seen ++ rest ≡ whole → seen ≡ before ++ e ∷ [] → first + length before ≡ place
    → (first ≤ place) × (place - first < length whole)
within first whole seen rest before e place prefix last placed =
    let all : length whole ≡ length seen + length rest = ap length (sym prefix) ∙ length-append seen rest in
    let some : length seen ≡ length before + 1 = ap length last ∙ length-append before (e ∷ []) in
    (omega arith, omega arith)

-- The event that was the last of those seen is the member of its ordinal in every longer history.
pub member : (first : ℕ) (whole seen rest before : List Event) (e at : Event) (a : Actor) (ordinal index place : ℕ) → seen ++ rest ≡ whole → seen ≡ before ++ e ∷ [] → e.actor ≡ a
    → first + length before ≡ place → place ≡ first + index → count_of a before ≡ ordinal → at ≡ get_or whole index at
    → (at ≡ e) × (slice_get whole index ≡ Some at) × (slice_get (events_from first a whole) ordinal ≡ Some (place, at))
member first whole seen rest before e at a ordinal index place prefix last by placed from counted there =
    let spread : before ++ e ∷ rest ≡ whole = sym (append_assoc before (e ∷ []) rest) ∙ ap (λ (es : List Event). es ++ rest) (sym last) ∙ prefix in
    let same : is_same a e.actor ≡ true = ap (is_same a) by ∙ same-itself a in
    let mine : slice_get (events_from first a whole) ordinal ≡ Some (place, e) =
    ap (λ (es : List Event). slice_get (events_from first a es) ordinal) (sym spread) ∙ ap (slice_get (events_from first a (before ++ e ∷ rest))) (sym counted)
    ∙ found first a before e rest same ∙ ap (λ (k : ℕ). Some (k, e)) placed in
    let long : length before ≡ index = omega arith in
    let here : slice_get whole index ≡ Some e = ap (λ (es : List Event). slice_get es index) (sym spread) ∙ ap (slice_get (before ++ e ∷ rest)) (sym long) ∙ after before e rest in
    let is : at ≡ e = there ∙ slice_get-tells whole index e at here in
    (is, here ∙ ap (λ (x : Event). Some x) (sym is), mine ∙ ap (λ (x : Event). Some (place, x)) (sym is))

-- ---- later members stand at later places

abbrev Placed : Type 0
Placed = ℕ × Event

placed-is : (x y : Placed) → ◌≡◌ {A = Option Placed} (Some x) (Some y) → x.0 ≡ y.0
placed-is x y same = ap (from 0) same
  where
    from : ℕ → Option Placed → ℕ
    from d None = d
    from d (Some x) = x.0

none-there : (x : Placed) → ◌≡◌ {A = Option Placed} None (Some x) → ⊥
none-there x same = absurd (let e = same in cc)

-- the members of a list that goes on from place n, of which the first stands there
first-on : (n : ℕ) (x : Event) (rest : List Placed) → ((k : ℕ) (y : Placed) → slice_get rest k ≡ Some y → n + 1 ≤ y.0)
    → (k : ℕ) (y : Placed) → slice_get ((n, x) ∷ rest) k ≡ Some y → n ≤ y.0
first-on n x rest more zero y at = let same = placed-is (n, x) y at in omega arith
first-on n x rest more (suc k) y at = let on = more k y at in omega arith

from-on : (n : ℕ) (a : Actor) (es : List Event) (k : ℕ) (y : Placed) → slice_get (events_from n a es) k ≡ Some y → n ≤ y.0
from-on n a [] k y there = absurd (none-there y there)
from-on n a (x ∷ xs) k y there = elim (cases_Bool (is_same a x.actor)) [
  | inl mine ↦ first-on n x (events_from (n + 1) a xs) (from-on (n + 1) a xs) k y (rw mine at there)
  | inr other ↦ let rest = from-on (n + 1) a xs k y (rw other at there) in omega arith
]

first-later : (n : ℕ) (x : Event) (rest : List Placed) → ((k : ℕ) (y : Placed) → slice_get rest k ≡ Some y → n + 1 ≤ y.0)
    → ((k l : ℕ) (y z : Placed) → k < l → slice_get rest k ≡ Some y → slice_get rest l ≡ Some z → y.0 < z.0)
    → (k l : ℕ) (y z : Placed) → k < l → slice_get ((n, x) ∷ rest) k ≡ Some y → slice_get ((n, x) ∷ rest) l ≡ Some z → y.0 < z.0
first-later n x rest on more k zero y z less one two = absurd (omega arith)
first-later n x rest on more zero (suc l) y z less one two = let here = placed-is (n, x) y one in let there = on l z two in omega arith
first-later n x rest on more (suc k) (suc l) y z less one two = more k l y z (omega arith) one two

pub later : (n : ℕ) (a : Actor) (es : List Event) (k l : ℕ) (y z : Placed) → k < l → slice_get (events_from n a es) k ≡ Some y → slice_get (events_from n a es) l ≡ Some z → y.0 < z.0
later n a [] k l y z less one two = absurd (none-there y one)
later n a (x ∷ xs) k l y z less one two = elim (cases_Bool (is_same a x.actor)) [
  | inl mine ↦ first-later n x (events_from (n + 1) a xs) (from-on (n + 1) a xs) (later (n + 1) a xs) k l y z less (rw mine at one) (rw mine at two)
  | inr other ↦ later (n + 1) a xs k l y z less (rw other at one) (rw other at two)
]
