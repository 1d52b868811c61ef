-- The operations of an actor's events.
use Rattle.std.proofs.Common.{◌≡◌, ℕ, ◌+◌, true, List, [], ◌∷◌, ◌++◌, map, refl, sym, ap, ◌∙◌, append-nil, inl, inr, arith}
use Rattle.std.specs.Prelude.{if◌then◌else◌}
use mathlib.Core.List.{IsPrefix}
use Rattle.std.proofs.lemmas.Bool.{cases_Bool}
use Rattle.board_terms.specs.declared.op.Actor.{Actor}
use Rattle.board_terms.specs.declared.op.Op.{Op}
use Rattle.board_core.specs.History.{Event}
use Rattle.board_lock.specs.Events.{events_from, is_same, ops_of}
use Rattle.board_lock.specs.Inside.Kept.{count_of}
use Rattle.board_lock.specs.Seats.{Sitting}
use Rattle.board_lock.specs.Inside.Settling.{Knows}
use Rattle.board_lock.proofs.Places.{count_of-append}

-- the operations without the places
abbrev ops-in : Actor → List Event → List Op
ops-in a [] = []
ops-in a (e ∷ es) = if is_same a e.actor then e.op ∷ ops-in a es else ops-in a es

from-any : (n : ℕ) (a : Actor) (es : List Event) → map (λ placed. placed.1.op) (events_from n a es) ≡ ops-in a es
from-any n a [] = refl
from-any n a (e ∷ es) = let more = from-any (n + 1) a es in elim (cases_Bool (is_same a e.actor)) [
  | inl same ↦ rw same (ap (λ (ops : List Op). e.op ∷ ops) more)
  | inr other ↦ rw other more
]

in-append : (a : Actor) (xs ys : List Event) → ops-in a (xs ++ ys) ≡ ops-in a xs ++ ops-in a ys
in-append a [] ys = refl
in-append a (x ∷ xs) ys = let more = in-append a xs ys in elim (cases_Bool (is_same a x.actor)) [
  | inl same ↦ rw same (ap (λ (ops : List Op). x.op ∷ ops) more)
  | inr other ↦ rw other more
]

none-of : (a : Actor) (es : List Event) → count_of a es ≡ 0 → ops-in a es ≡ []
none-of a [] none = refl
none-of a (e ∷ es) none = elim (cases_Bool (is_same a e.actor)) [
  | inl same ↦ absurd (let some : 1 + count_of a es ≡ 0 = rw same at none in omega arith)
  | inr other ↦ let rest : 0 + count_of a es ≡ 0 = rw other at none in rw other (none-of a es (omega arith))
]

-- where no event of the actor came since, its operations are the same
pub ops-same : (a : Actor) (seen es : List Event) → IsPrefix seen es → count_of a seen ≡ count_of a es → ops_of a es ≡ ops_of a seen
ops-same a seen es prefix same =
    let split : count_of a es ≡ count_of a seen + count_of a prefix.0 = ap (count_of a) (sym prefix.1) ∙ count_of-append a seen prefix.0 in
    let none : ops-in a prefix.0 ≡ [] = none-of a prefix.0 (omega arith) in
    from-any 0 a es ∙ ap (ops-in a) (sym prefix.1) ∙ in-append a seen prefix.0 ∙ ap (λ (ops : List Op). ops-in a seen ++ ops) none
    ∙ append-nil (ops-in a seen) ∙ sym (from-any 0 a seen)

-- one event of the actor more
pub ops-more : (a : Actor) (es : List Event) (e : Event) → is_same a e.actor ≡ true → ops_of a (es ++ e ∷ []) ≡ ops_of a es ++ e.op ∷ []
ops-more a es e same =
    let one : ops-in a (e ∷ []) ≡ e.op ∷ [] = rw same refl in
    from-any 0 a (es ++ e ∷ []) ∙ in-append a es (e ∷ []) ∙ ap (λ (ops : List Op). ops-in a es ++ ops) one
    ∙ ap (λ (ops : List Op). ops ++ e.op ∷ []) (sym (from-any 0 a es))

-- one more seat knows its operations
pub knows-more : (es : List Event) (ss : List Sitting) (s : Sitting) → Knows es ss → (s.count ≡ count_of s.actor es → ops_of s.actor es ≡ s.ops) → Knows es (ss ++ s ∷ [])
knows-more es [] s all more = (more, tt)
knows-more es (x ∷ xs) s all more = (all.0, knows-more es xs s all.1 more)
