use Rattle.std.proofs.Common.{[], ap, sym, ◌∙◌}
use Rattle.board_terms.specs.declared.op.Actor.{Actor}
use Rattle.board_lock.specs.Seats.{sitting}
use Rattle.hart_threads.proofs.starting.work_at.Goals as goal

pub tick-requires-clause-fresh : goal.tick-requires-clause-fresh
tick-requires-clause-fresh g c = c.requires.fresh.is ∙ ap (λ (a : Actor). sitting a 0 [] []) (sym c.actor.ensures.actor ∙ c.in-Clock.is)
