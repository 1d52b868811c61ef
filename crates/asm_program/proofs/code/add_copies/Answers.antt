use Rattle.std.proofs.Common.{◌≡◌, suc, ◌+◌, ◌-◌, ◌++◌, arith}
use Rattle.asm_program.specs.Code.{copies}
use Rattle.asm_program.proofs.More.{copies_more}
use Rattle.asm_program.proofs.code.add_copies.Goals as goal

pub loop-copy-preserved : goal.loop-copy-preserved
loop-copy-preserved c =
    let n = c.args.count - c.loop-copy._copy in
    let m = c.args.count - (c.loop-copy._copy + 1) in
    let instruction = c.args.instruction.now in
    let one_less : n ≡ suc m = omega arith in
    copies_more c.loop-copy.lines.items c.push.new.self.items n m instruction c.loop-copy.next c.args.left
    (c.args.lines.now.items ++ copies c.args.count instruction c.args.at c.args.left)
    c.loop-copy.invariant c.in_ok-push.ensures.items one_less
