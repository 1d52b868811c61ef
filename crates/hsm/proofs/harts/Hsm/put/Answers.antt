use Rattle.std.proofs.Common.{List, length, set, sym, ap, ◌∙◌, arith}
use Rattle.std.proofs.lemmas.List.{map-set}
use Rattle.hsm.specs.Harts.{Hart}
use Rattle.hsm.specs.Inside.Phases.{hart_of}
use Rattle.hsm.specs.States.{is_interruptible}
use Rattle.hsm.proofs.Interruptible.{AreKept-with, AreKept-without}
use Rattle.hsm.proofs.harts.Hsm.put.Goals as goal

pub invariant_of-self : goal.invariant_of-self
invariant_of-self c =
    let long = ap length c.self.view_is in (
      AreKept-with c.self.inside.phases.items c.args.h c.args.phase c.self.inside.interruptible c.self.invariant.0 (omega (arith, long, c.requires)) _
          c.insert.ensures
          (sym (c.is_interruptible.ensures ∙ ap is_interruptible c.state.ensures) ∙ c.if-is_interruptible.true),
      c.self.invariant.1,
    )

pub invariant_of-self-else-is_interruptible : goal.invariant_of-self-else-is_interruptible
invariant_of-self-else-is_interruptible c =
    let long = ap length c.self.view_is in (
      AreKept-without c.self.inside.phases.items c.args.h c.args.phase c.self.inside.interruptible c.self.invariant.0 (omega (arith, long, c.requires)) _
          c.remove.ensures
          (sym (c.is_interruptible.ensures ∙ ap is_interruptible c.state.ensures) ∙ c.if-is_interruptible.false),
      c.self.invariant.1,
    )

pub returns-then-is_interruptible : goal.returns-then-is_interruptible
returns-then-is_interruptible c =
    map-set hart_of c.self.inside.phases.items c.args.h c.args.phase
    ∙ ap (λ (harts : List Hart). set harts c.args.h (hart_of c.args.phase)) c.self.view_is

pub returns-else-is_interruptible : goal.returns-else-is_interruptible
returns-else-is_interruptible c =
    map-set hart_of c.self.inside.phases.items c.args.h c.args.phase
    ∙ ap (λ (harts : List Hart). set harts c.args.h (hart_of c.args.phase)) c.self.view_is
