use Rattle.std.proofs.Common.{◌-◌, inr, sym, arith}
use Rattle.script_lines.proofs.Packed.{used_before, used_is, used_le}
use Rattle.script_lines.proofs.op_shape.used.Goals as goal

pub loop-count-init : goal.loop-count-init
loop-count-init c = (omega (arith, used_le c.args.numbers.now), omega arith)

pub loop-count-preserved : goal.loop-count-preserved
loop-count-preserved c =
    (used_before c.args.numbers.now (c.loop-count.count - 1) (omega (arith, c.loop-count.invariant.0)) c.if-numbers-count-eq0.true, omega (arith, c.loop-count.invariant.1))

pub returns-else-numbers-count-eq0-clause-count : goal.returns-else-numbers-count-eq0-clause-count
returns-else-numbers-count-eq0-clause-count c = sym (used_is c.args.numbers.now c.loop-count.count c.loop-count.invariant.0 (inr c.if-numbers-count-eq0.false))
