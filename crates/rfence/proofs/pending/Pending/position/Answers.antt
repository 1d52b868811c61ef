use Rattle.std.proofs.Common.{length, ap, sym, ◌∙◌, arith, inl, inr}
use Rattle.std.proofs.lemmas.Bool.{cases_lt}
use Rattle.fence_queue.specs.Positions.{position_of}
use Rattle.fence_queue.specs.Queues.{is_from, queue_at}
use Rattle.fence_queue.proofs.Positions.{position_of-outside}
use Rattle.rfence.proofs.ByCaller.{length-by, position_of-by, queue_at-by}
use Rattle.rfence.proofs.pending.Pending.position.Goals as goal

pub returns : goal.returns
returns g c =
    let fences = c.self.inside.fences.items in
    let idle = c.self.inside.idle in
    let callers = c.self.inside.callers in
    rw (sym c.self.view_is) (elim (cases_lt c.args.t (length callers)) [
      | inl near ↦ c.position.ensures ∙ position_of-by fences idle c.args.from (queue_at callers c.args.t)
          ∙ ap (position_of (is_from c.args.from)) (sym (queue_at-by fences idle callers c.args.t near))
      | inr far ↦ c.position.ensures ∙ position_of-outside callers c.args.t c.args.from far
          ∙ sym (position_of-outside _ c.args.t c.args.from (omega (arith, far, length-by fences idle callers)))
    ])
