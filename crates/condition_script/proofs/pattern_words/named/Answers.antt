use Rattle.std.proofs.Common.{inr}
use Rattle.condition_script.proofs.Asked.{named_with, none_named_so}
use Rattle.condition_script.proofs.pattern_words.named.Goals as goal

pub returns-in_ok-push-in-Some-name : goal.returns-in_ok-push-in-Some-name
returns-in_ok-push-in-Some-name c = named_with c.args.is_reply c.args.words.now c.in-Some.first.now c.in-Some.rest.now c.in-Some.ensures.cases.0 c.in-Some-name.item c.in-Some-name.most c.in-Some-name.ensures _ _ _ c.in_ok-push-in-Some-name.ensures.items c.numbers.result c.numbers.ensures

pub returns-in-None : goal.returns-in-None
returns-in-None c = inr (λ items named. none_named_so c.args.is_reply c.args.words.now c.in-Some.first.now c.in-Some.rest.now c.in-Some.ensures.cases.0 c.in-None.ensures items named)
