use Rattle.std.proofs.Common.{◌≡◌, ◌-◌, ◌+◌, sym, ap, ◌∙◌, subst, arith}
use Rattle.board_terms.specs.declared.config.Config.{Config}
use Rattle.board_core.specs.Opening.{Opening}
use Rattle.seeded_orders.specs.Orders.{met_before, ordered}
use Rattle.guest_programs.specs.Places.{AreAt}
use Rattle.seeded_orders.proofs.Ordering.{ends, goes, nothing-met, stops}
use Rattle.seeded_orders.proofs.orders.follow.Goals as goal

pub returns-in_default-clause-past : goal.returns-in_default-clause-past
returns-in_default-clause-past g c p theirs at =
    let now = c.loop-i.invariant.1 p theirs at in
    stops c.loop-i.board.opening p (c.args.board.now.opening.config.limit - c.loop-i.i) c.loop-i.i c.loop-i.picker c.pick.new.self c.loop-i.board.past _ c.deref.result.now c.pick.result
    (c.deref.ensures.value ∙ c.in_ok-list.ensures p now.0) c.pick.ensures c.in_default.is now.1

pub returns-in_default-clause-met : goal.returns-in_default-clause-met
returns-in_default-clause-met g c p theirs at =
    let now = c.loop-i.invariant.1 p theirs at in
    nothing-met c.loop-i.board.opening p c.loop-i.i c.loop-i.picker c.pick.new.self c.loop-i.board.past c.deref.result.now c.pick.result
    (c.deref.ensures.value ∙ c.in_ok-list.ensures p now.0) c.pick.ensures c.in_default.is

pub loop-i-preserved : goal.loop-i-preserved
loop-i-preserved g c =
    let rest = g.G.Guests.rest c.args.guests.now in
    let limit : c.config.result.now.limit ≡ c.args.board.now.opening.config.limit = ap (λ (k : Config). k.limit) c.config.ensures.config in (
      c.take.ensures.opening ∙ c.loop-i.invariant.0,
      (λ p theirs at.
          let now = c.loop-i.invariant.1 p theirs at in (
            subst (λ (k : Opening). AreAt rest p k.config.harts c.take.new.board.past c.take.new.places) (sym c.take.ensures.opening) (c.take.ensures.places p theirs now.0),
            ap (λ (k : Opening). ordered k p (c.args.board.now.opening.config.limit - (c.loop-i.i + 1)) (c.loop-i.i + 1) c.pick.new.self c.take.new.board.past) c.take.ensures.opening
                ∙ goes c.loop-i.board.opening p c.args.board.now.opening.config.limit c.loop-i.i c.loop-i.picker c.pick.new.self c.loop-i.board.past c.take.new.board.past _
                c.deref.result.now c.pick.result c.in-Some.step (omega arith) (c.deref.ensures.value ∙ c.in_ok-list.ensures p now.0) c.pick.ensures c.in-Some.is
                (c.take.ensures.past p now.0) now.1,
          )),
    )

pub returns-clause-past : goal.returns-clause-past
returns-clause-past g c p theirs at =
    let now = c.loop-i.invariant.1 p theirs at in
    let limit : c.config.result.now.limit ≡ c.args.board.now.opening.config.limit = ap (λ (k : Config). k.limit) c.config.ensures.config in
    ends c.loop-i.board.opening p (c.args.board.now.opening.config.limit - c.loop-i.i) c.loop-i.i c.loop-i.picker c.loop-i.board.past _ (omega arith) now.1

pub returns-clause-met : goal.returns-clause-met
returns-clause-met g c p theirs at =
    let now = c.loop-i.invariant.1 p theirs at in
    c.met_before.ensures ∙ ap met_before (c.deref-2.ensures.value ∙ c.in_ok-list-2.ensures p now.0)
