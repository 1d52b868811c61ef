-- A hart that is STARTED, outside of a fence call, is quiet exactly where its guest is through.
use Rattle.std.proofs.Common.{◌≡◌, ◌↔◌, ℕ, Bool, true, false, List, refl, sym, ◌∙◌, inl, inr}
use Rattle.std.specs.Prelude.{Option, Some, None, is_some, not}
use Rattle.hsm.specs.declared.hart.HartState.TheVariants.{Started}
use Rattle.board_core.specs.Fences.{outstanding}
use Rattle.board_core.specs.History.{Event}
use Rattle.board_core.specs.Opening.{Opening}
use Rattle.board_core.specs.States.{state}
use Rattle.guest_programs.specs.Ends.{IsQuiet}
use Rattle.guest_programs.specs.Guests.{HasFollowed, Next, next_op}

none-is : {A : Type 0} (o : Option A) → is_some o ≡ false → o ≡ None
none-is None is = refl
none-is (Some x) is = absurd (let t = is in cc)

pub none-told : {A : Type 0} (o r : Option A) (none : Bool) → is_some o ≡ not none → o ≡ r → (none ≡ true) ↔ (r ≡ None)
none-told None r true told same = ((λ is. sym same), (λ is. refl))
none-told None r false told same = absurd (let t = told in cc)
none-told (Some x) r true told same = absurd (let t = told in cc)
none-told (Some x) r false told same = ((λ is. absurd (let t = is in cc)), (λ is. absurd (let t = same ∙ is in cc)))

pub is-quiet : (o : Opening) (past : List Event) (guests : Next) (h : ℕ) (is_through : Bool) (call : Option (List ℕ))
    → state o past h ≡ Started → is_some call ≡ false → call ≡ outstanding o past h
    → (is_through ≡ true) ↔ (HasFollowed guests past h × (next_op guests past h ≡ None)) → (is_through ≡ true) ↔ IsQuiet o past guests h
is-quiet o past guests h is_through call started none called tells = (
  (λ yes. let both = tells.0 yes in inr (record { started = started; outside = sym called ∙ none-is call none; followed = both.0; over = both.1 })),
  (λ quiet. elim quiet [
    | inl stopped ↦ absurd (let t = sym started ∙ stopped in cc)
    | inr through ↦ tells.1 (through.followed, through.over)
  ]),
)
