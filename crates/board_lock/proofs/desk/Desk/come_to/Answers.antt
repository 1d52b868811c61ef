use Rattle.std.proofs.Common.{◌≡◌, ℕ, [], List, subst, sym, ◌∙◌, rules}
use Rattle.board_lock.specs.Inside.Waking.{comes_to}
use Rattle.board_lock.proofs.Sifting.{Sifts, below-rest, has-first, sifts-all, sifts-in, sifts-none, sifts-out}
use Rattle.board_lock.proofs.desk.Desk.come_to.Goals as goal

pub loop-h-init : goal.loop-h-init
loop-h-init g c =
    (c.requires, subst (λ (come : List ℕ). Sifts c.args.harts (comes_to c.args.self.now) come c.args.harts) (sym c.new-come.ensures) (sifts-none c.args.harts (comes_to c.args.self.now)))

pub comes_to-requires : goal.comes_to-requires
comes_to-requires g c = c.loop-h.invariant.0 c.in-Some.h (has-first c.loop-h.left c.pop_first.new.self c.in-Some.h c.in-Some.ensures.lowest)

pub loop-h-preserved-then-comes_to : goal.loop-h-preserved-then-comes_to
loop-h-preserved-then-comes_to g c =
    let is = c.in-Some.ensures.lowest in (
      below-rest c.loop-h.left c.pop_first.new.self c.in-Some.h g.K.Room.opening.config.harts is c.loop-h.invariant.0,
      subst (λ (come : List ℕ). Sifts c.args.harts (comes_to c.args.self.now) come c.pop_first.new.self) (sym c.insert.ensures)
          (sifts-in c.args.harts (comes_to c.args.self.now) c.loop-h.come c.loop-h.left c.pop_first.new.self c.in-Some.h is c.loop-h.invariant.1 (sym c.comes_to.ensures ∙ c.if-comes_to.true)),
    )

pub loop-h-preserved : goal.loop-h-preserved
loop-h-preserved g c =
    let is = c.in-Some.ensures.lowest in (
      below-rest c.loop-h.left c.pop_first.new.self c.in-Some.h g.K.Room.opening.config.harts is c.loop-h.invariant.0,
      sifts-out c.args.harts (comes_to c.args.self.now) c.loop-h.come c.loop-h.left c.pop_first.new.self c.in-Some.h is c.loop-h.invariant.1 (sym c.comes_to.ensures ∙ c.if-comes_to.false),
    )

pub returns : goal.returns
returns g c =
    let none : c.loop-h.left ≡ [] = search rules in
    sifts-all c.args.harts (comes_to c.args.self.now) c.loop-h.come c.loop-h.left none c.loop-h.invariant.1
