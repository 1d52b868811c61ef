use Rattle.condition_script.specs.declared.rules.Rule.TheVariants.{Never, NeverAfter, OfSome, Each, Before}
use Rattle.conditions.proofs.Unheld.{misfit-by}
use Rattle.conditions.proofs.misfits.misfit_by.Goals as goal

pub returns-in-Never : goal.returns-in-Never
returns-in-Never c = misfit-by c.args.told c.args.harts c.args.rule.now (Never c.in-Never.p) c.in-Never.is c.in_pattern.result c.in_pattern.ensures

pub returns-in-NeverAfter : goal.returns-in-NeverAfter
returns-in-NeverAfter c = misfit-by c.args.told c.args.harts c.args.rule.now (NeverAfter c.in-NeverAfter.p c.in-NeverAfter.q) c.in-NeverAfter.is c.in_patterns.result c.in_patterns.ensures

pub returns-in-OfSome : goal.returns-in-OfSome
returns-in-OfSome c = misfit-by c.args.told c.args.harts c.args.rule.now (OfSome c.in-OfSome.p) c.in-OfSome.is c.in_pattern-in-OfSome.result c.in_pattern-in-OfSome.ensures

pub returns-in-Each : goal.returns-in-Each
returns-in-Each c = misfit-by c.args.told c.args.harts c.args.rule.now (Each c.in-Each.p) c.in-Each.is c.in_pattern-in-Each.result c.in_pattern-in-Each.ensures

pub returns-in-Before : goal.returns-in-Before
returns-in-Before c = misfit-by c.args.told c.args.harts c.args.rule.now (Before c.in-Before.p c.in-Before.q) c.in-Before.is c.in_patterns-in-Before.result c.in_patterns-in-Before.ensures
