use Rattle.std.proofs.Common.{subst}
use Rattle.std.specs.Prelude.{IfSome, Option, slice_get}
use Rattle.test_report.specs.declared.verdict.Unjudged.{Unjudged}
use Rattle.all_orders.specs.Verdicts.{IsUnjudged, rule_of}
use Rattle.all_orders.proofs.points.judged.Goals as goal

pub returns-in-Some : goal.returns-in-Some
returns-in-Some g c p seconds states told seen =
    let n = c.args.search.now.scope.now.widest in
    let asked = rule_of (slice_get c.args.search.now.trial.now.case.conditions.now c.args.place) in
    subst (λ (unsaid : Option Unjudged). IfSome unsaid (IsUnjudged n p seconds states asked)) c.in-Some.is told.unjudged
