use Rattle.std.proofs.Common.{◌≡◌, ◌++◌, ◌-◌}
use Rattle.asm_program.specs.Code.{copies}
use Rattle.asm_program.proofs.code.add_copies.Given as goal

abbrev pub invariant-loop-copy : goal.invariant-loop-copy
invariant-loop-copy l =
    l.lines.items ++ copies (l.count - l._copy) l.instruction l.next l.left
    ≡ l.initial.lines.items ++ copies l.count l.instruction l.at l.left
