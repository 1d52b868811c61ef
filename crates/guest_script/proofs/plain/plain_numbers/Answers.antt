use Rattle.std.proofs.Common.{arith}
use Rattle.guest_script.proofs.PlainParts.{numbers_more}
use Rattle.guest_script.proofs.plain.plain_numbers.Goals as goal

pub loop-rest-preserved : goal.loop-rest-preserved
loop-rest-preserved c = (
  rw c.push.ensures.items (numbers_more c.args.bytes.now c.loop-rest.found.items c.loop-rest.rest.now c.in-Some.n c.in-Some.after.now c.loop-rest.invariant.0 c.in-Some.ensures.number),
  omega (arith, c.in-Some.ensures.shorter, c.loop-rest.invariant.1),
  omega arith,
)
