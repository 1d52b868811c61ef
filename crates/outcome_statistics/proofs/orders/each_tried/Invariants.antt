use Rattle.std.proofs.Common.{◌≡◌, length}
use Rattle.guest_script.specs.Grammar.{Content}
use Rattle.guest_programs.specs.Steps.{task_in, task_of}
use Rattle.outcome_statistics.specs.Findings.{AreFoundOf}
use Rattle.outcome_statistics.proofs.orders.each_tried.Given as goal

abbrev pub invariant-loop-order : goal.invariant-loop-order
invariant-loop-order l =
    (l.board.opening.config ≡ l.initial.board.opening.config)
    × (length l.found.judged.items ≡ length l.batch.conditions.now)
    × ((body : Content) → task_in l.program ≡ task_of body → AreFoundOf l.initial.board.opening.config body l.batch.conditions.now l.batch.seed l.batch.from l.order l.found)
