-- Seats whose actors are those of a new board's are one for each actor.
use Rattle.std.proofs.Common.{◌≡◌, ℕ, zero, suc, ◌+◌, ◌<◌, ◌≤◌, false, List, [], ◌∷◌, ◌++◌, length, map, refl, sym, ap, ◌∙◌, inl, inr, arith}
use Rattle.std.specs.Prelude.{◌==◌, if◌then◌else◌}
use Rattle.std.specs.List.{range_with_len}
use Rattle.std.proofs.lemmas.Bool.{cases_Bool}
use Rattle.std.proofs.lemmas.List.{length-append}
use Rattle.std.proofs.lemmas.List.FromFn.{length-map-range_with_len}
use Rattle.board_terms.specs.declared.config.Config.{Config}
use Rattle.board_terms.specs.declared.op.Actor.{Actor}
use Rattle.board_terms.specs.declared.op.Actor.TheVariants.{Hart, Clock}
use Rattle.board_lock.specs.Events.{IsActor, is_same}
use Rattle.board_lock.specs.Seats.{IsOneEach, Sitting, new_seats, seats_of, sitting}

abbrev harts : (from many : ℕ) → List Sitting
harts from many = map (λ h. sitting (Hart h) 0 [] []) (range_with_len from many)

abbrev clock : List Sitting
clock = sitting Clock 0 [] [] ∷ []

none-below : (from many h : ℕ) → h < from → seats_of (Hart h) (harts from many ++ clock) ≡ 0
none-below from zero h below = refl
none-below from (suc many) h below =
    let other : (from == h) ≡ false = grind arith in
    rw other (let rest = none-below (from + 1) many h (omega arith) in omega arith)

one-hart : (from many h : ℕ) → from ≤ h → h < from + many → seats_of (Hart h) (harts from many ++ clock) ≡ 1
one-hart from zero h up below = absurd (omega arith)
one-hart from (suc many) h up below = elim (cases_Bool (from == h)) [
  | inl same ↦ rw same (let rest = none-below (from + 1) many h (grind arith) in omega arith)
  | inr other ↦ rw other (let rest = one-hart (from + 1) many h (grind arith) (omega arith) in omega arith)
]

one-clock : (from many : ℕ) → seats_of Clock (harts from many ++ clock) ≡ 1
one-clock from zero = refl
one-clock from (suc many) = let rest = one-clock (from + 1) many in omega arith

pub new-seats : (c : Config) → IsOneEach c (new_seats c)
new-seats c = record {
  as_many = length-append (harts 0 c.harts) clock ∙ ap (λ (n : ℕ). n + 1) (length-map-range_with_len (λ h. sitting (Hart h) 0 [] []) 0 c.harts);
  one_each = one;
}
  where
    one : (a : Actor) → IsActor c a → seats_of a (new_seats c) ≡ 1
    one (Hart h) below = let inside : h < c.harts = below in one-hart 0 c.harts h (omega arith) (omega arith)
    one Clock is = one-clock 0 c.harts

abbrev actors : List Sitting → List Actor
actors seats = map (λ seat. seat.actor) seats

-- how many seats are an actor's, by their actors
abbrev those-of : Actor → List Actor → ℕ
those-of a [] = 0
those-of a (b ∷ bs) = (if is_same b a then 1 else 0) + those-of a bs

by-actors : (a : Actor) (seats : List Sitting) → seats_of a seats ≡ those-of a (actors seats)
by-actors a [] = refl
by-actors a (s ∷ seats) = ap (λ (n : ℕ). (if is_same s.actor a then 1 else 0) + n) (by-actors a seats)

length-actors : (seats : List Sitting) → length (actors seats) ≡ length seats
length-actors [] = refl
length-actors (s ∷ seats) = ap suc (length-actors seats)

pub back_again : (c : Config) (seats : List Sitting) → actors seats ≡ actors (new_seats c) → IsOneEach c seats
back_again c seats same = record {
  as_many = sym (length-actors seats) ∙ ap length same ∙ length-actors (new_seats c) ∙ (new-seats c).as_many;
  one_each = λ a is. by-actors a seats ∙ ap (those-of a) same ∙ sym (by-actors a (new_seats c)) ∙ (new-seats c).one_each a is;
}
