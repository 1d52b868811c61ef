use Rattle.std.proofs.Common.{arith, w64}
use Rattle.std.proofs.lemmas.Int.{ints, to_z-of_z}
use Rattle.guest_script.proofs.PlainParts.{ret_begins}
use Rattle.guest_script.proofs.plain.plain_ret.Goals as goal

pub returns-clause-said : goal.returns-clause-said
returns-clause-said c = λ before at.
    rw (to_z-of_z w64 c.in_ok-error.error (grind (arith, ints)))
    (ret_begins before c.args.bytes.now c.in_ok-error.error c.in_ok-error.rest.now c.in_ok-value.value c.in_ok-value.rest.now at c.in_ok-error.ensures.error c.in_ok-value.ensures.number)
