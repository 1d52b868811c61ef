use Rattle.std.proofs.Common.{Some}
use Rattle.outcome_statistics.proofs.Counting.{all-each, all-some}
use Rattle.outcome_statistics.proofs.tally.Tally.all_meet.Goals as goal

pub returns-in-OfSome : goal.returns-in-OfSome
returns-in-OfSome c tried tells = all-some c.args.rule.now _ tried c.is_some.result c.in-OfSome.is (c.is_some.ensures (Some c.args.rule.now) tried tells)

pub returns-in-Never : goal.returns-in-Never
returns-in-Never c tried tells = all-each c.args.rule.now _ tried c.is_each.result c.in-Never.is (λ same. same) (c.is_each.ensures (Some c.args.rule.now) tried tells)

pub returns-in-NeverAfter : goal.returns-in-NeverAfter
returns-in-NeverAfter c tried tells = all-each c.args.rule.now _ tried c.is_each-in-NeverAfter.result c.in-NeverAfter.is (λ same. same)
    (c.is_each-in-NeverAfter.ensures (Some c.args.rule.now) tried tells)

pub returns-in-Each : goal.returns-in-Each
returns-in-Each c tried tells = all-each c.args.rule.now _ tried c.is_each-in-Each.result c.in-Each.is (λ same. same) (c.is_each-in-Each.ensures (Some c.args.rule.now) tried tells)

pub returns-in-End : goal.returns-in-End
returns-in-End c tried tells = all-each c.args.rule.now _ tried c.is_each-in-End.result c.in-End.is (λ same. same) (c.is_each-in-End.ensures (Some c.args.rule.now) tried tells)

pub returns-in-Before : goal.returns-in-Before
returns-in-Before c tried tells = all-each c.args.rule.now _ tried c.is_each-in-Before.result c.in-Before.is (λ same. same) (c.is_each-in-Before.ensures (Some c.args.rule.now) tried tells)

pub returns-in-CanEnd : goal.returns-in-CanEnd
returns-in-CanEnd c tried tells = all-each c.args.rule.now _ tried c.is_each-in-CanEnd.result c.in-CanEnd.is (λ same. same) (c.is_each-in-CanEnd.ensures (Some c.args.rule.now) tried tells)
