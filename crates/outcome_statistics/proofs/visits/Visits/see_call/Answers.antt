use Rattle.std.proofs.Common.{ap, inl, inr, refl, sym, ◌∙◌}
use Rattle.board_core.specs.ErrorLaw.{is_error}
use Rattle.outcome_statistics.specs.Visits.{is_call}
use Rattle.outcome_statistics.proofs.Visiting.{no-call, with-succeeded, with-failed}
use Rattle.outcome_statistics.proofs.visits.Visits.see_call.Goals as goal

pub returns-in_default : goal.returns-in_default
returns-in_default c = no-call c.args.guest c.args.event.now c.args.self.now (inl c.in_default.is)

pub returns-then-not-is_call : goal.returns-then-not-is_call
returns-then-not-is_call c = no-call c.args.guest c.args.event.now c.args.self.now (inr (ap is_call (sym c.op.ensures) ∙ sym c.is_call.ensures ∙ c.if-not-is_call.true))

pub returns-then-is_error : goal.returns-then-is_error
returns-then-is_error c = with-failed c.args.guest c.args.event.now c.in-Some.spot c.args.self.now _ c.in-Some.is
    (ap is_call (sym c.op.ensures) ∙ sym c.is_call.ensures ∙ c.if-not-is_call.false)
    (ap is_error (sym c.reply.ensures) ∙ sym c.is_error.ensures ∙ c.if-is_error.true) c.in_ok-insert.ensures.updates refl refl

pub returns : goal.returns
returns c = with-succeeded c.args.guest c.args.event.now c.in-Some.spot c.args.self.now _ c.in-Some.is
    (ap is_call (sym c.op.ensures) ∙ sym c.is_call.ensures ∙ c.if-not-is_call.false)
    (ap is_error (sym c.reply.ensures) ∙ sym c.is_error.ensures ∙ c.if-is_error.false) c.in_ok-insert-2.ensures.updates refl refl
