use Rattle.std.proofs.Common.{◌<◌, sym, ap, ◌∙◌}
use Rattle.interrupts.specs.declared.ahead.Member.{Member}
use Rattle.std.proofs.lemmas.List.Elements.{All-rest}
use Rattle.interrupts.specs.Inside.Ahead.{AreLater, IsFirst, member_of}
use Rattle.interrupts.specs.Inside.Listed.{due_after}
use Rattle.interrupts.proofs.Listing.{due-first, due-later, left-first, left-later}
use Rattle.interrupts.proofs.timers.move_due.Goals as goal

pub loop-hart-preserved : goal.loop-hart-preserved
loop-hart-preserved c =
    let first : IsFirst c.args.time c.in-Some.hart c.loop-hart.ahead c.pop_due.new.self = c.in-Some.ensures in
    let kept = c.loop-hart.invariant in
    record {
      left = left-first c.args.time c.in-Some.hart _ _ first ∙ kept.left;
      moved = ap (λ ids. due_after c.args.time ids c.pop_due.new.self) c.insert.ensures ∙ due-first c.args.time c.in-Some.hart _ _ _ first ∙ kept.moved;
      harts = All-rest (λ (member : Member). member.hart < 128) (member_of first.deadline c.in-Some.hart) _ _ first.is kept.harts;
    }

pub returns-clause-left : goal.returns-clause-left
returns-clause-left c =
    let none : AreLater c.args.time c.loop-hart.ahead c.pop_due.new.self = rw c.in_default.is at c.pop_due.ensures in
    none.same ∙ sym (left-later c.args.time c.loop-hart.ahead none.later) ∙ c.loop-hart.invariant.left

pub returns-clause-moved : goal.returns-clause-moved
returns-clause-moved c =
    let none : AreLater c.args.time c.loop-hart.ahead c.pop_due.new.self = rw c.in_default.is at c.pop_due.ensures in
    sym (due-later c.args.time c.loop-hart.due c.loop-hart.ahead none.later) ∙ c.loop-hart.invariant.moved
