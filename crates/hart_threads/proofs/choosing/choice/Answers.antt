use Rattle.std.proofs.Common.{sym, ◌∙◌}
use Rattle.board_core.specs.Refusals.{situation}
use Rattle.hart_threads.proofs.InCalls.{waits_in_call}
use Rattle.hart_threads.proofs.choosing.choice.Goals as goal

pub returns-then-is_some-clause-rests : goal.returns-then-is_some-clause-rests
returns-then-is_some-clause-rests c config past h legal sees none =
    waits_in_call (situation config past h) _ _ (sym sees.call) (sym c.is_some.ensures ∙ c.if-is_some.true)
    (λ harts inside. c.calls_are_made_started.ensures config past legal h harts inside)
    (c.firmware_choice.ensures.serve (situation config past h) sees c.in_default.is) (c.firmware_choice.ensures.poll (situation config past h) sees c.in_default.is)
