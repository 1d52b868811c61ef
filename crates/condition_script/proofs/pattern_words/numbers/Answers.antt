use Rattle.std.proofs.Common.{◌+◌, inr, arith}
use Rattle.condition_script.proofs.Asked.{numbers_all, numbers_more, numbers_none}
use Rattle.condition_script.proofs.pattern_words.numbers.Goals as goal

pub loop-k-preserved : goal.loop-k-preserved
loop-k-preserved c = numbers_more c.args.words.now c.args.most c.loop-k.k (c.loop-k.k + 1) _ _ _ _ _ c.loop-k-test.true c.in-Some.ensures.0 c.in-Some.ensures.1 c.in_ok-push-in-Some.ensures.items (omega arith) c.loop-k.invariant

pub returns-in-None : goal.returns-in-None
returns-in-None c = inr (λ items are. numbers_none c.args.words.now c.args.most c.loop-k.k _ c.loop-k-test.true c.in-None.ensures items are)

pub returns : goal.returns
returns c = numbers_all c.args.words.now c.args.most c.loop-k.k _ _ c.loop-k-test.false c.loop-k.auto.k-end c.loop-k.invariant
