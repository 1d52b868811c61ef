-- Events of one actor, in what came later.
use Rattle.std.proofs.Common.{◌≡◌, ℕ, ◌+◌, ◌≤◌, true, false, List, [], ◌∷◌, ◌++◌, length, refl, sym, ap, subst, ◌∙◌, arith, inl, inr}
use Rattle.std.specs.Prelude.{reverse, if◌then◌else◌}
use Rattle.std.proofs.lemmas.Bool.{cases_Bool}
use Rattle.std.proofs.lemmas.List.{reverse-append}
use mathlib.Core.List.{IsPrefix, IsSuffix}
use Rattle.board_terms.specs.declared.op.Actor.{Actor}
use Rattle.board_terms.specs.declared.op.Actor.TheVariants.{Hart, Clock}
use Rattle.board_core.specs.Course.{is_hart}
use Rattle.board_core.specs.History.{Event}
use Rattle.board_lock.specs.Events.{events_from, events_of, is_same}
use Rattle.guest_programs.specs.Guests.{IsAt, IsBehind, Meaning, Next, Rest, Still, did, did_after, entry_after, last_entry, meaning_by}
use Rattle.hart_threads.specs.Shares.{EachOf, many_of}
use Rattle.hart_threads.specs.Inside.Works.{IsAtSeat}

abbrev one : Actor → Event → ℕ
one a e = if is_same a e.actor then 1 else 0

pub many-append : (a : Actor) (xs ys : List Event) → many_of a (xs ++ ys) ≡ many_of a xs + many_of a ys
many-append a [] ys = omega arith
many-append a (e ∷ xs) ys = let rest = many-append a xs ys in omega arith

-- what was seen earlier has no more of them
pub no-more : (a : Actor) (seen past : List Event) → IsSuffix seen past → many_of a seen ≤ many_of a past
no-more a seen past earlier = subst (λ (p : List Event). many_of a seen ≤ many_of a p) earlier.1 (let all = many-append a earlier.0 seen in omega arith)

pub none-since : (a : Actor) (since seen : List Event) → many_of a (since ++ seen) ≤ many_of a seen → many_of a since ≡ 0
none-since a since seen few = let all = many-append a since seen in omega arith

not-own : (a : Actor) (e : Event) (rest : ℕ) → one a e + rest ≡ 0 → is_same a e.actor ≡ false
not-own a e rest none = elim (cases_Bool (is_same a e.actor)) [
  | inl same ↦ absurd (let t = rw same at none in omega arith)
  | inr other ↦ other
]

own : (a : Actor) (e : Event) → is_same a e.actor ≡ true → one a e ≡ 1
own a e is = rw is refl

pub own-one-more : (a : Actor) (e : Event) (past : List Event) → is_same a e.actor ≡ true → many_of a (e ∷ past) ≡ many_of a past + 1
own-one-more a e past is = let t = own a e is in omega arith

-- each was as it should be, and none came since
pub each-still : (P : Event → List Event → Type 0) (a : Actor) (since past : List Event) → many_of a since ≡ 0 → EachOf P a past → EachOf P a (since ++ past)
each-still P a [] past none each = each
each-still P a (e ∷ since) past none each =
    ((λ is. absurd (let t = sym is ∙ not-own a e (many_of a since) none in cc)), each-still P a since past (let t = none in omega arith) each)

still : (h : ℕ) (a : Actor) (t : Meaning) → is_same (Hart h) a ≡ false → (if is_hart h a then t else Still) ≡ Still
still h (Hart n) t other = rw other refl
still h Clock t other = refl

rest-one : (guests : Next) (rest : Rest) (h : ℕ) (e : Event) (past : List Event) → is_same (Hart h) e.actor ≡ false
    → IsAt rest guests past h → IsAt rest guests (e ∷ past) h
rest-one guests rest h e past other is =
    subst (λ (t : Meaning). IsBehind rest guests (entry_after t (last_entry past h)) (did_after t (did past h))) (sym (still h e.actor (meaning_by e.op e.reply) other)) is

-- a guest is as far, where its hart did nothing since
pub rest-still : (guests : Next) (rest : Rest) (a : Actor) (since past : List Event) → many_of a since ≡ 0
    → IsAtSeat guests rest past a → IsAtSeat guests rest (since ++ past) a
rest-still guests rest Clock since past none is = tt
rest-still guests rest (Hart h) [] past none is = is
rest-still guests rest (Hart h) (e ∷ since) past none is =
    rest-one guests rest h e (since ++ past) (not-own (Hart h) e (many_of (Hart h) since) none)
    (rest-still guests rest (Hart h) since past (let t = none in omega arith) is)

-- what a seat saw before, newest first
pub earlier-of : (before now : List Event) → IsPrefix before now → IsSuffix (reverse before) (reverse now)
earlier-of before now begins = (reverse begins.0, sym (reverse-append before begins.0) ∙ ap reverse begins.1)

length-from : (n : ℕ) (a : Actor) (es : List Event) → length (events_from n a es) ≡ many_of a es
length-from n a [] = refl
length-from n a (e ∷ es) = elim (cases_Bool (is_same a e.actor)) [
  | inl same ↦ rw same (let rest = length-from (n + 1) a es in omega arith)
  | inr other ↦ rw other (let rest = length-from (n + 1) a es in omega arith)
]

many-reverse : (a : Actor) (es : List Event) → many_of a (reverse es) ≡ many_of a es
many-reverse a [] = refl
many-reverse a (e ∷ es) =
    ap (many_of a) (reverse-append (e ∷ []) es) ∙ many-append a (reverse es) (e ∷ []) ∙ (let rest = many-reverse a es in omega arith)

-- an actor's events in a record
pub length-events : (a : Actor) (es : List Event) → length (events_of a es) ≡ many_of a (reverse es)
length-events a es = length-from 0 a es ∙ sym (many-reverse a es)
