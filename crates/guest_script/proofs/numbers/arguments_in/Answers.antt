use Rattle.std.proofs.Common.{arith}
use Rattle.guest_script.proofs.ArgumentsIn.{AreRead-more, one_too_many, too_few, all_good_arguments, a_bad_argument}
use Rattle.guest_script.proofs.numbers.arguments_in.Goals as goal

pub returns-then-len-places : goal.returns-then-len-places
returns-then-len-places c =
    one_too_many _ _ _ _ _ _ _ _ c.loop-word.invariant _ _ c.in-Some.ensures.words (omega arith)

pub loop-word-preserved : goal.loop-word-preserved
loop-word-preserved c =
    rw (c.push.ensures.items, c.is_argument-all_good.ensures, c.number-value.ensures.value)
    (AreRead-more _ _ _ _ _ _ _ _ _ c.loop-word.invariant c.in-Some.ensures.words (omega arith))

pub returns-then-len-places-2 : goal.returns-then-len-places-2
returns-then-len-places-2 c = too_few _ _ _ _ _ _ _ _ c.loop-word.invariant c.in_default.ensures.words (omega arith)

pub returns-then-all_good : goal.returns-then-all_good
returns-then-all_good c = all_good_arguments _ _ _ _ _ _ _ _ c.loop-word.invariant c.in_default.ensures.words (omega arith) c.if-all_good.true

pub returns-else-all_good : goal.returns-else-all_good
returns-else-all_good c = a_bad_argument _ _ _ _ _ _ _ _ c.loop-word.invariant c.in_default.ensures.words (omega arith) c.if-all_good.false
