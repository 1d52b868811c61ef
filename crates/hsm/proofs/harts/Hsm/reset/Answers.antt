use Rattle.std.proofs.Common.{◌≡◌, ℕ, List, length, map, replicate, sym, ap, ◌∙◌, arith}
use Rattle.std.specs.Prelude.{slice_set}
use Rattle.hsm.specs.declared.phase.Phase.TheVariants.{Stopped}
use Rattle.hsm.specs.Harts.{Hart, resting, starting}
use Rattle.hsm.specs.Interruptible.{interruptible_ids}
use Rattle.hsm.specs.Inside.Phases.{hart_of}
use Rattle.hsm.specs.Transitions.{reset_to}
use Rattle.hsm.proofs.Interruptible.{AreKept-none, rests}
use Rattle.hsm.proofs.harts.Hsm.reset.Goals as goal

pub invariant_of-self : goal.invariant_of-self
invariant_of-self c = (
  AreKept-none c.self.inside.phases.items _ c.self.inside.interruptible _ c.self.invariant.0
      (c.fill.ensures.items (λ y same. same) ∙ ap (λ n. replicate n Stopped) c.self.inside.phases.ok.0) c.new-self-inside.ensures,
  let room = c.fill.ensures.capacity in let size = c.fill.ensures.len in let before = c.self.invariant.1 in omega arith,
)

pub invariant_of-self-in_default : goal.invariant_of-self-in_default
invariant_of-self-in_default c = (
  AreKept-none c.self.inside.phases.items _ c.self.inside.interruptible _ c.self.invariant.0
      (c.fill.ensures.items (λ y same. same) ∙ ap (λ n. replicate n Stopped) c.self.inside.phases.ok.0) c.new-self-inside.ensures,
  let room = c.fill.ensures.capacity in let size = c.fill.ensures.len in let before = c.self.invariant.1 in omega arith,
)

pub returns-in-Some : goal.returns-in-Some
returns-in-Some c =
    let all = rests c.self.inside.phases.items _ (c.fill.ensures.items (λ y same. same) ∙ ap (λ n. replicate n Stopped) c.self.inside.phases.ok.0)
    ∙ ap (λ (harts : List Hart). replicate (length harts) resting) c.self.view_is in
    rw c.in-Some.is (c.put.ensures ∙ ap (λ harts. slice_set harts c.args.boot_hart (starting c.in-Some.boot)) all)

pub returns-in_default : goal.returns-in_default
returns-in_default c =
    rw c.in_default.is (rests c.self.inside.phases.items _ (c.fill.ensures.items (λ y same. same) ∙ ap (λ n. replicate n Stopped) c.self.inside.phases.ok.0)
    ∙ ap (λ (harts : List Hart). replicate (length harts) resting) c.self.view_is)
