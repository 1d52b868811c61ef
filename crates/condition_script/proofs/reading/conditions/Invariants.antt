use Rattle.std.proofs.Common.{◌+◌, ◌≤◌, length, map}
use Rattle.condition_script.specs.Grammar.{condition_value}
use Rattle.condition_script.specs.Inside.Reading.{HasRead}
use Rattle.condition_script.proofs.reading.conditions.Given as goal

abbrev pub invariant-loop-rest : goal.invariant-loop-rest
invariant-loop-rest l = record {
  read : HasRead l.text l.line l.rest (map condition_value l.found.items);
  within : l.line + length l.rest ≤ length l.text + 1;
}

abbrev pub decreases-loop-rest : goal.decreases-loop-rest
decreases-loop-rest l = length l.rest
