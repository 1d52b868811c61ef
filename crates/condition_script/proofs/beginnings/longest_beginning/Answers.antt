use Rattle.std.proofs.Common.{arith}
use Rattle.condition_script.proofs.GoingOn.{longest_is, nothing_begins}
use Rattle.condition_script.proofs.beginnings.longest_beginning.Goals as goal

pub loop-least-init : goal.loop-least-init
loop-least-init c = record { ordered = omega arith; within = omega arith; goes_on = nothing_begins; stops = λ less. absurd (omega (arith, less)) }

pub returns : goal.returns
returns c = longest_is c.args.words.now c.loop-least.least c.loop-least.most c.loop-least-test.false c.loop-least.invariant
