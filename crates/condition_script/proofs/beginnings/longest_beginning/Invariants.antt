use Rattle.std.proofs.Common.{◌-◌}
use Rattle.condition_script.specs.Inside.Reading.{IsBetween}
use Rattle.condition_script.proofs.beginnings.longest_beginning.Given as goal

abbrev pub invariant-loop-least : goal.invariant-loop-least
invariant-loop-least l = IsBetween l.words l.least l.most

abbrev pub decreases-loop-least : goal.decreases-loop-least
decreases-loop-least l = l.most - l.least
