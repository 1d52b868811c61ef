use Rattle.std.proofs.Common.{arith, w64}
use Rattle.std.proofs.lemmas.Int.{ints, to_z-of_z}
use Rattle.guest_script.proofs.PlainParts.{below_begins}
use Rattle.guest_script.proofs.plain.plain_signed.Goals as goal

pub returns-then-n-le-LAST_BELOW-clause-error : goal.returns-then-n-le-LAST_BELOW-clause-error
returns-then-n-le-LAST_BELOW-clause-error c =
    rw (to_z-of_z w64 c.below_zero.result (grind (arith, ints)), c.below_zero.ensures)
    (below_begins c.args.bytes.now c.in-Some.digits.now c.in_ok-n-in-Some.n c.in_ok-n-in-Some.rest.now c.in-Some.ensures.front c.if-n-le-LAST_BELOW.true c.in_ok-n-in-Some.ensures.number)
