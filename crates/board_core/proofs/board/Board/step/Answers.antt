use Rattle.std.proofs.Common.{sym, ap, subst, ◌∙◌}
use Rattle.std.specs.Prelude.{Ok}
use Rattle.board_terms.specs.declared.op.Actor.{Actor}
use Rattle.board_terms.specs.declared.op.Actor.TheVariants.{Hart}
use Rattle.board_core.specs.Course.{Course}
use Rattle.board_core.specs.Cuts.{IsOpened}
use Rattle.board_core.specs.Refusals.{first_refusal}
use Rattle.board_core.specs.Replies.{IsLegal, recorded}
use Rattle.board_core.specs.Serves.{KeepsNeeds}
use Rattle.board_core.proofs.Needs.{step-needs}
use Rattle.board_core.proofs.Steps.{refused}
use Rattle.board_core.proofs.board.Board.step.Goals as goal

-- the step is refused
pub returns-in-Some-clause-answer : goal.returns-in-Some-clause-answer
returns-in-Some-clause-answer c =
    let b = c.args.self.now in
    sym (refused b.opening b.past c.args.actor c.args.op c.in-Some.refusal (sym c.refusal.ensures ∙ c.in-Some.is))

pub returns-in-Some-clause-after : goal.returns-in-Some-clause-after
returns-in-Some-clause-after c = ap (recorded c.args.self.now c.args.actor c.args.op) (returns-in-Some-clause-answer c)

pub returns-in-Some-clause-needs : goal.returns-in-Some-clause-needs
returns-in-Some-clause-needs c =
    let b = c.args.self.now in
    let opened = subst (λ (b : Course). IsOpened b.opening) c.self.view_is c.self.invariant.0.opened in
    let legal = subst (λ (b : Course). IsLegal b.opening b.past) c.self.view_is c.self.invariant.0.legal in
    step-needs b opened legal c.args.actor c.args.op _ b (returns-in-Some-clause-answer c) (returns-in-Some-clause-after c)

-- the step is accepted
pub other_step-requires-clause-unrefused : goal.other_step-requires-clause-unrefused
other_step-requires-clause-unrefused c =
    let b = c.args.self.now in
    ap (λ (actor : Actor). first_refusal b.opening b.past actor c.args.op) (sym c.in-Hart-None.is-0) ∙ sym c.refusal.ensures ∙ c.in_default.is

pub returns-in-Hart-None-clause-needs : goal.returns-in-Hart-None-clause-needs
returns-in-Hart-None-clause-needs c =
    let b = c.args.self.now in
    let opened = subst (λ (b : Course). IsOpened b.opening) c.self.view_is c.self.invariant.0.opened in
    let legal = subst (λ (b : Course). IsLegal b.opening b.past) c.self.view_is c.self.invariant.0.legal in
    subst (λ actor. KeepsNeeds b c.other_step.new.self actor c.args.op (Ok c.other_step.result)) (sym c.in-Hart-None.is-0)
    (step-needs b opened legal (Hart c.in-Hart-None.h) c.args.op _ _ c.other_step.ensures.answer c.other_step.ensures.after)
