use Rattle.std.proofs.Common.{inr}
use Rattle.condition_script.proofs.Asked.{no_rule, rule_with}
use Rattle.condition_script.proofs.asking.rule.Goals as goal

pub returns-in-Some-of : goal.returns-in-Some-of
returns-in-Some-of c = rule_with c.args.words.now c.in-Some.first.now c.in-Some.rest.now c.in-Some.ensures.cases.0 c.in-Some-of.keyword c.in-Some-of.ensures c.asks.result c.asks.ensures

pub returns-in-None : goal.returns-in-None
returns-in-None c = inr (λ a is. no_rule c.args.words.now c.in-Some.first.now c.in-Some.rest.now c.in-Some.ensures.cases.0 c.in-None.ensures a is)
