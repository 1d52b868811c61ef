use Rattle.std.proofs.Common.{sym, ◌∙◌, refl}
use Rattle.condition_script.specs.Inside.Reading.{texts}
use Rattle.condition_script.proofs.GoingOn.{goes_here, none_goes, none_more_goes}
use Rattle.condition_script.proofs.beginnings.goes_on_by.Goals as goal

pub returns-then-is : goal.returns-then-is
returns-then-is c = ((λ _. goes_here (texts c.args.words.now) c.args.completions.now c.loop-more.more-index _ c.loop-more-test.true (c.in_ok-is.ensures.0 c.if-is.true)), (λ _. refl))

pub loop-more-preserved : goal.loop-more-preserved
loop-more-preserved c = none_more_goes (texts c.args.words.now) c.args.completions.now c.loop-more.more-index _ c.loop-more-test.true (λ is. let e = sym (c.in_ok-is.ensures.1 is) ∙ c.if-is.false in cc) c.loop-more.invariant

pub returns : goal.returns
returns c = ((λ t. absurd (cc t)), (λ on. absurd (none_goes (texts c.args.words.now) c.args.completions.now c.loop-more.more-index c.loop-more-test.false c.loop-more.invariant on)))
