use Rattle.std.proofs.Common.{◌≡◌, ℕ, List, ◌∙◌, ap, length, refl, subst, sym, arith}
use Rattle.access_marks.specs.declared.marks.Marks.{Marks}
use Rattle.board_core.specs.Opening.{opening_at}
use Rattle.board_terms.specs.declared.config.Config.{Config}
use Rattle.seeded_orders.specs.Orders.{IsTried}
use Rattle.guest_programs.specs.Steps.{task_in, Task}
use Rattle.outcome_statistics.specs.Findings.{AreFoundOf, AreMarkedFor, AskOfMarks}
use Rattle.outcome_statistics.proofs.Finding.{found-next, found-none}
use Rattle.outcome_statistics.proofs.orders.each_tried.Goals as goal

pub loop-order-init : goal.loop-order-init
loop-order-init c =
    let k : Config = c.args.board.now.opening.config in
    let none = c.in_ok-found.ensures k.harts c.args.batch.now.conditions.now refl in
    (refl, none.many, (λ body same. found-none k body c.args.batch.now.conditions.now c.args.batch.now.seed c.args.batch.now.from c.in_ok-found.found none))

pub marks_asked-requires : goal.marks_asked-requires
marks_asked-requires c = c.in_ok-end.ensures.opening ∙ ap opening_at (sym c.try_order_on.ensures.config)

pub see-requires : goal.see-requires
see-requires c = record {
  many = c.loop-order.invariant.1;
  marks = λ ask. c.in_ok-marks.ensures.length ask ∙ ap length (sym c.deref.ensures.value);
}

pub loop-order-preserved : goal.loop-order-preserved
loop-order-preserved c =
    let k : Config = c.args.board.now.opening.config in
    let P : Config → Task → Type 0 = λ k p. IsTried k p c.args.batch.now.seed c.loop-order.order c.try_order_on.new.board.past c.in_ok-end.end in
    let here = subst (λ (k : Config). P k (task_in c.args.program.now)) c.loop-order.invariant.0 c.in_ok-end.ensures.tried in
    let numbers = c.try_order_on.ensures.config ∙ c.loop-order.invariant.0 in
    let marks : List Marks = c.deref.result.now in
    let marked : AskOfMarks c.args.batch.now.conditions.now → AreMarkedFor c.args.batch.now.conditions.now k c.try_order_on.new.board.past marks = λ ask.
    subst (λ (k : Config). AreMarkedFor c.args.batch.now.conditions.now k c.try_order_on.new.board.past marks) numbers
    (subst (λ (all : List Marks). AreMarkedFor c.args.batch.now.conditions.now c.try_order_on.new.board.opening.config c.try_order_on.new.board.past all) (sym c.deref.ensures.value)
    (c.in_ok-marks.ensures.marked ask)) in (
      c.try_order_on.ensures.config ∙ c.loop-order.invariant.0,
      c.see.ensures.many,
      λ body same.
          found-next k body c.args.batch.now.conditions.now c.args.batch.now.seed c.args.batch.now.from c.loop-order.order c.try_order_on.new.board.past marks c.in_ok-end.end
          c.loop-order.found c.see.new.self c.try_order_on.new.board.opening.config.harts (ap (λ (k : Config). k.harts) numbers) (subst (P k) same here) marked c.in_ok-see.ensures.found (c.loop-order.invariant.2 body same),
    )

pub returns : goal.returns
returns c = λ body is.
    let over = c.loop-order-test.false in
    let most = c.loop-order.auto.order-end in
    let up = c.requires in
    let same : c.loop-order.order ≡ c.args.batch.now.to = grind arith in
    subst (λ (n : ℕ). AreFoundOf c.args.board.now.opening.config body c.args.batch.now.conditions.now c.args.batch.now.seed c.args.batch.now.from n c.loop-order.found) same (c.loop-order.invariant.2 body is)
