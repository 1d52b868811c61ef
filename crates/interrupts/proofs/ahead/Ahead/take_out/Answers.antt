use Rattle.std.proofs.Common.{◌≡◌, ℕ, ◌-◌, List, Option, Some, None, take, length, sym, ap, ◌∙◌, arith, drop}
use Rattle.std.specs.Prelude.{◌==◌}
use Rattle.std.specs.List.{position}
use Rattle.std.proofs.lemmas.List.{length-drop, take_rest}
use Rattle.std.proofs.lemmas.List.Quantifiers.{position-Some}
use Rattle.interrupts.specs.declared.ahead.Member.{Member}
use Rattle.interrupts.specs.Inside.Ahead.{member_of}
use Rattle.interrupts.proofs.Members.{IsNonDecreasingBy-remove, drop-remove, without-absent, without-position}
use Rattle.interrupts.proofs.ahead.Ahead.take_out.Goals as goal

-- what the code's look-up in the rest of the list answered
placed : (hart : ℕ) (members : List Member) (start : ℕ) (result : Option ℕ) (seen : List Member) → seen ≡ members
    → result ≡ position (λ (m : Member). m.hart == hart) (take (length seen - start) (drop start seen))
    → position (λ (m : Member). m.hart == hart) (drop start members) ≡ result
placed hart members start result seen same told =
    ap (position (λ (m : Member). m.hart == hart)) (sym (take_rest members start))
    ∙ ap (λ ms. position (λ (m : Member). m.hart == hart) (take (length ms - start) (drop start ms))) (sym same)
    ∙ sym told

pub invariant_of-self : goal.invariant_of-self
invariant_of-self c =
    let members = c.self.inside.members.items in
    let start = c.self.inside.start in
    let at : position (λ (m : Member). m.hart == c.args.hart) (drop start members) ≡ Some c.in-Some.place =
    placed c.args.hart members start c.place_of_hart.result _ c.as_slice.ensures.value c.place_of_hart.ensures ∙ c.in-Some.is in
    let is = position-Some (λ (m : Member). m.hart == c.args.hart) (drop start members) c.in-Some.place (member_of 0 0) at in
    let long = length-drop start members in
    let left = c.remove.ensures.len in
    let up = IsNonDecreasingBy-remove (λ (m : Member). m.deadline) (drop start members) c.in-Some.place is.0 c.self.invariant.1 in (
      omega (arith, long, left, is.0, c.self.invariant.0),
      rw (c.remove.ensures.items, drop-remove members start c.in-Some.place c.self.invariant.0) up,
    )

pub returns-in-Some : goal.returns-in-Some
returns-in-Some c =
    let members = c.self.inside.members.items in
    let start = c.self.inside.start in
    let at : position (λ (m : Member). m.hart == c.args.hart) (drop start members) ≡ Some c.in-Some.place =
    placed c.args.hart members start c.place_of_hart.result _ c.as_slice.ensures.value c.place_of_hart.ensures ∙ c.in-Some.is in
    rw (← c.self.view_is) (ap (drop start) c.remove.ensures.items ∙ drop-remove members start c.in-Some.place c.self.invariant.0
    ∙ without-position c.args.hart (drop start members) c.in-Some.place at)

pub returns-in_default : goal.returns-in_default
returns-in_default c =
    let members = c.self.inside.members.items in
    let start = c.self.inside.start in
    let at : position (λ (m : Member). m.hart == c.args.hart) (drop start members) ≡ None =
    placed c.args.hart members start c.place_of_hart.result _ c.as_slice.ensures.value c.place_of_hart.ensures ∙ c.in_default.is in
    rw (← c.self.view_is) (without-absent c.args.hart (drop start members) at)
