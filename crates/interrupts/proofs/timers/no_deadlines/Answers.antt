use Rattle.std.proofs.Common.{◌∙◌, ◌++◌, ◌∷◌, [], ap, arith, None}
use Rattle.std.proofs.lemmas.List.{replicate_more}
use Rattle.interrupts.proofs.timers.no_deadlines.Goals as goal

pub loop-preserved : goal.loop-preserved
loop-preserved c = (
  c.push_reserved.ensures.items ∙ ap (λ ds. ds ++ None ∷ []) c.loop.invariant.0 ∙ replicate_more c.loop.counter None,
  let more = c.push_reserved.ensures.len in let long = c.loop.invariant.1 in omega arith,
  c.push_reserved.ensures.capacity ∙ c.loop.invariant.2,
)
