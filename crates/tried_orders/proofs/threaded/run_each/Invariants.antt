use Rattle.std.proofs.Common.{◌≡◌, List, length}
use Rattle.guest_script.specs.Grammar.{content}
use Rattle.outcome_statistics.specs.Findings.{AreFound}
use Rattle.outcome_statistics.specs.Records.{EachIs, Tried}
use Rattle.tried_orders.specs.Verdicts.{IsRunRecord}
use Rattle.tried_orders.proofs.threaded.run_each.Given as goal

-- the runs so far were judged
abbrev pub invariant-loop-number : goal.invariant-loop-number
invariant-loop-number g l =
    (l.file.points ≡ l.fn.file.points) × (l.tried.source ≡ l.fn.tried.source) × (l.file.is_cut ≡ l.fn.file.is_cut)
    × ((records : List Tried) × (length records ≡ l.number)
    × EachIs (IsRunRecord l.trial.script.now.config (content l.trial.script.now.body) l.trial.case.conditions.now) records
    × AreFound l.trial.script.now.config.harts l.trial.case.conditions.now records l.tried.found)
