use Rattle.std.proofs.Common.{inr, sym, subst}
use Rattle.test_report.specs.declared.report.Mode.{Mode}
use Rattle.test_runner.specs.Findings.{IsFoundOf}
use Rattle.test_runner.proofs.testing.test_script.Goals as goal

-- another script has no orders
pub returns-in_ok-failing-in-Explore : goal.returns-in_ok-failing-in-Explore
returns-in_ok-failing-in-Explore g c =
    let trial = c.args.trial.now in
    let file = c.in_ok-failing-in-Explore.field-0 in
    subst (λ (mode : Mode). IsFoundOf trial.options.now trial.script.now trial.case.conditions.now mode file)
    (sym c.in-Explore.is)
    (inr ((λ program. absurd (let is = c.is_program.ensures.1 program in let no = c.if-is_program.false in cc)), c.in_ok-failing-in-Explore.ensures))

pub returns-in_ok-test_steps-in-Test : goal.returns-in_ok-test_steps-in-Test
returns-in_ok-test_steps-in-Test g c =
    let trial = c.args.trial.now in
    let file = c.in_ok-test_steps-in-Test.field-0 in
    subst (λ (mode : Mode). IsFoundOf trial.options.now trial.script.now trial.case.conditions.now mode file)
    (sym c.in-Test.is)
    (inr (inr (λ program. absurd (let is = c.is_program.ensures.1 program in let no = c.if-is_program.false in cc))))
