use Rattle.std.proofs.Common.{sym, ap, ◌∙◌, arith, inl, inr}
use Rattle.std.proofs.lemmas.Bool.{cases_lt}
use Rattle.fence_queue.specs.Positions.{position_of}
use Rattle.fence_queue.specs.Queues.{is_from, queue_at}
use Rattle.fence_queue.proofs.Positions.{position_of-outside}
use Rattle.rfence.proofs.Bounds.{are-bounded}
use Rattle.rfence.proofs.Needs.{need-caller}
use Rattle.rfence.proofs.Stands.{length-queues, queue_at-stands}
use Rattle.rfence.proofs.fences.Fences.need.Goals as goal

pub returns-clause-need : goal.returns-clause-need
returns-clause-need g c = λ o n turns stands right.
    let told = c.position.ensures ∙ ap (λ f. position_of (is_from c.args.c) (queue_at f.queues c.args.t)) c.self.view_is in
    elim (cases_lt c.args.t n) [
      | inl near ↦ told ∙ ap (position_of (is_from c.args.c)) (queue_at-stands o n turns _ stands c.args.t near) ∙ need-caller o n turns c.args.c c.args.t right
      | inr far ↦ told ∙ position_of-outside _ c.args.t c.args.c (omega (arith, length-queues o n turns _ stands)) ∙ sym ((are-bounded o n turns c.args.c right).no_target c.args.t far)
    ]
