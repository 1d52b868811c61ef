use Rattle.std.proofs.Common.{◌≡◌, ◌<◌, length}
use Rattle.std.specs.List.{All}
use Rattle.interrupts.specs.declared.ahead.Member.{Member}
use Rattle.interrupts.specs.Inside.Listed.{due_after, left_after}
use Rattle.interrupts.proofs.timers.move_due.Given as goal

abbrev pub invariant-loop-hart : goal.invariant-loop-hart
invariant-loop-hart l = record {
  left : left_after l.time l.ahead ≡ left_after l.time l.initial.ahead;
  moved : due_after l.time l.due l.ahead ≡ due_after l.time l.initial.due l.initial.ahead;
  harts : All (λ (member : Member). member.hart < 128) l.ahead;
}

abbrev pub decreases-loop-hart : goal.decreases-loop-hart
decreases-loop-hart l = length l.ahead
