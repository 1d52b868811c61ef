use Rattle.std.proofs.Common.{◌≡◌, ◌≤◌, ◌-◌, List, []}
use Rattle.guest_script.specs.Grammar.{content}
use Rattle.outcome_statistics.specs.Findings.{AreFound, AreOrders}
use Rattle.outcome_statistics.specs.Records.{Tried}
use Rattle.tried_orders.proofs.orders.try_up_to.Given as goal

abbrev pub decreases-loop-from : goal.decreases-loop-from
decreases-loop-from g l = l.fn.many - l.from

-- the orders so far were tried
abbrev pub invariant-loop-from : goal.invariant-loop-from
invariant-loop-from g l =
    (l.from ≤ l.many) × (l.file.points ≡ l.fn.file.points) × (l.file.is_cut ≡ l.fn.file.is_cut)
    × (AreFound l.trial.script.now.config.harts l.trial.case.conditions.now [] l.fn.found
    → (records : List Tried)
    × AreOrders l.trial.script.now.config (content l.trial.script.now.body) l.trial.case.conditions.now l.trial.options.now.seed 0 records l.from
    × AreFound l.trial.script.now.config.harts l.trial.case.conditions.now records l.found)
