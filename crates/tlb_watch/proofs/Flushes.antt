-- Fences that compare equal are the same.
use Rattle.std.proofs.Common.{◌≡◌, Bool, true, false, refl, ap, Option, Some, None}
use Rattle.std.specs.Prelude.{◌&&◌, nat_eq}
use Rattle.std.specs.Option.{option_eq}
use Rattle.std.proofs.lemmas.Bool.{eqb-true}
use Rattle.tlb_model.specs.contracts.fence.FencePartialEq.TheImpl as fences
use Rattle.tlb_model.specs.contracts.fence.FlushPartialEq.TheImpl as flushes
use Rattle.tlb_model.specs.contracts.fence.RangePartialEq.TheImpl as ranges
use Rattle.tlb_model.specs.declared.fence.Fence.{Fence}
use Rattle.tlb_model.specs.declared.fence.Flush.{Flush}
use Rattle.tlb_model.specs.declared.fence.Flush.TheVariants.{Entries, Words}
use Rattle.tlb_model.specs.declared.fence.Range.{Range}

both : (p q : Bool) → p && q ≡ true → (p ≡ true) × (q ≡ true)
both true true is = (refl, refl)
both true false is = cc
both false q is = cc

options-same : {A : Type 0} (eq : A → A → Bool) → ((x y : A) → eq x y ≡ true → x ≡ y) → (a b : Option A) → option_eq eq a b ≡ true → a ≡ b
options-same eq same None None is = refl
options-same eq same None (Some y) is = absurd cc
options-same eq same (Some x) None is = absurd cc
options-same eq same (Some x) (Some y) is = ap Some (same x y is)

ranges-same : (a b : Range) → ranges.ghosts.eq a b ≡ true → a ≡ b
ranges-same a b is =
    let parts = both (nat_eq a.start b.start) (nat_eq a.size b.size) is in
    let start = eqb-true a.start b.start parts.0 in
    let size = eqb-true a.size b.size parts.1 in
    λ i. record { start = start i; size = size i }

fences-same : (a b : Fence) → fences.ghosts.eq a b ≡ true → a ≡ b
fences-same a b is =
    let parts = both (option_eq nat_eq a.asid b.asid) (option_eq ranges.ghosts.eq a.range b.range) is in
    let asid = options-same nat_eq eqb-true a.asid b.asid parts.0 in
    let range = options-same ranges.ghosts.eq ranges-same a.range b.range parts.1 in
    λ i. record { asid = asid i; range = range i }

pub flushes-same : (a b : Flush) → flushes.ghosts.eq a b ≡ true → a ≡ b
flushes-same Words Words is = refl
flushes-same Words (Entries y) is = absurd cc
flushes-same (Entries x) Words is = absurd cc
flushes-same (Entries x) (Entries y) is = ap (λ f. Entries f) (fences-same x y is)
