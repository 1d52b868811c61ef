-- Orders, one behind the other, and what they say.
use Rattle.std.proofs.Common.{◌≡◌, ℕ, zero, suc, ◌<◌, ◌≤◌, List, [], ◌∷◌, ◌++◌, inl, inr, ◌⊎◌, length, refl, sym, ap, subst, arith}
use Rattle.std.specs.Prelude.{OnOk, Option, Some, None, Result, Ok, Err, slice_get}
use Rattle.std.specs.Option.{option_map}
use Rattle.std.proofs.lemmas.Option.{none-some, same_Some, slice_get_past, slice_get_read, slice_get_within}
use Rattle.std.specs.Slice.{IsItemAt}
use denote.Ref.{Bor}
use Rattle.board_terms.specs.declared.config.Config.{Config}
use Rattle.conditions.specs.Condition.{Condition}
use Rattle.conditions.specs.declared.vacuity.NeedsMet.{NeedsMet}
use Rattle.guest_script.specs.Grammar.{Content}
use Rattle.guest_programs.specs.declared.blocks.Program.{Program}
use Rattle.guest_programs.specs.Programs.{blocks_of, ticks_of}
use Rattle.guest_programs.specs.Steps.{task_in, task_of}
use Rattle.outcome_statistics.specs.declared.findings.Findings.{Findings}
use Rattle.outcome_statistics.specs.declared.findings.Judged.{Judged}
use Rattle.outcome_statistics.specs.Findings.{AreFound, AreOrders}
use Rattle.outcome_statistics.specs.Records.{EachIs, Tried}
use Rattle.tried_orders.specs.Inside.Judging.{Judges}

pub orders-behind : (c : Config) (content : Content) (conditions : List Condition) (seed first from to : ℕ) (records more : List Tried)
    → AreOrders c content conditions seed first records from → AreOrders c content conditions seed from more to
    → AreOrders c content conditions seed first (more ++ records) to
orders-behind c content conditions seed first from to records [] here there =
    subst (λ (n : ℕ). AreOrders c content conditions seed first records n) (sym there) here
orders-behind c content conditions seed first from to records (x ∷ more) here there =
    (there.0, there.1, orders-behind c content conditions seed first from x.number records more here there.2)

pub same-task : (program : Program) (content : Content) → (task_in program).guests ≡ blocks_of content
    → program.ticks.now ≡ ticks_of content → task_in program ≡ task_of content
same-task program content guests ticks = λ i. record { guests = guests i; ticks = ticks i }

-- a member is one of those before the last, or the last
pub slice_get-either : {X : Type 0} (xs : List X) (x : X) (k : ℕ) (y : X) → slice_get (xs ++ x ∷ []) k ≡ Some y
    → (slice_get xs k ≡ Some y) ⊎ ((k ≡ length xs) × (x ≡ y))
slice_get-either [] x zero y h = inr (refl, same_Some x y h)
slice_get-either [] x (suc k) y h = absurd (none-some y h)
slice_get-either (z ∷ xs) x zero y h = inl h
slice_get-either (z ∷ xs) x (suc k) y h = elim (slice_get-either xs x k y h) [ inl a ↦ inl a | inr b ↦ inr (ap suc b.0, b.1) ]

-- an empty list has nothing in any place
pub none-at : {X : Type 0} (k : ℕ) (y : X) → slice_get [] k ≡ Some y → ⊥
none-at zero y at = none-some y at
none-at (suc k) y at = none-some y at

-- each of one more
pub each-one-more : {X : Type 0} (P : X → Type 0) (xs : List X) (x : X) → EachIs P xs → P x → EachIs P (xs ++ x ∷ [])
each-one-more P [] x each last = (last, tt)
each-one-more P (y ∷ xs) x each last = (each.0, each-one-more P xs x each.1 last)

-- what a look-up gives is the member, or none
pub got : {X : Type 0} (xs : List X) (i : ℕ) (r : Option (Bor X)) → IsItemAt xs i r → option_map (λ (x : Bor X). x.now) r ≡ slice_get xs i
got xs i None look = sym (slice_get_past xs i look.3)
got xs i (Some x) look = sym (slice_get_read xs (length xs) i x.now refl look.3.0 look.1)

-- what holds holds of a result
pub on-ok : {T E : Type 0} (r : Result T E) (P : Type 0) → P → OnOk r P
on-ok (Ok t) P holds = holds
on-ok (Err e) P holds = tt

not-none : {X : Type 0} (xs : List X) (i : ℕ) → i < length xs → slice_get xs i ≡ None → ⊥
not-none [] i below none = absurd (omega arith)
not-none (x ∷ xs) zero below none = none-some x (sym none)
not-none (x ∷ xs) (suc i) below none = not-none xs i (omega arith) none

judges-at : (harts : ℕ) (conditions : List Condition) (tried : List Tried) (found : Findings) (i : ℕ) (j : Judged) (asked : Option Condition)
    → AreFound harts conditions tried found → slice_get found.judged.items i ≡ Some j → i < length conditions
    → slice_get conditions i ≡ asked → Judges asked tried j
judges-at harts conditions tried found i j None right at below is = absurd (not-none conditions i below is)
judges-at harts conditions tried found i j (Some condition) right at below is =
    let told = right.each i condition j is at in record { tally = told.0; needs = told.1 }

pub judges-some : (harts : ℕ) (conditions : List Condition) (tried : List Tried) (found : Findings) (i : ℕ) (j : Judged)
    → AreFound harts conditions tried found → slice_get found.judged.items i ≡ Some j → Judges (slice_get conditions i) tried j
judges-some harts conditions tried found i j right at =
    let within = slice_get_within found.judged.items i j at in
    let many = right.many in
    judges-at harts conditions tried found i j (slice_get conditions i) right at (omega arith) refl

pub judges-none : (harts : ℕ) (conditions : List Condition) (tried : List Tried) (found : Findings) (i : ℕ) (met : NeedsMet)
    → AreFound harts conditions tried found → length found.judged.items ≤ i
    → Judges (slice_get conditions i) tried (record { tally = found.well; met = met })
judges-none harts conditions tried found i met right past =
    let many = right.many in
    let none : slice_get conditions i ≡ None = slice_get_past conditions i (omega arith) in
    subst (λ (asked : Option Condition). Judges asked tried (record { tally = found.well; met = met })) (sym none)
    (record { tally = right.well; needs = tt })
