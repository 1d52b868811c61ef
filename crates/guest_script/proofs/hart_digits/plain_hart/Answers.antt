use Rattle.std.proofs.Common.{◌+◌, arith}
use Rattle.guest_script.proofs.HartDigits.{hart_read, one_at_most}
use Rattle.guest_script.proofs.PlainParts.{rest_of}
use Rattle.guest_script.proofs.hart_digits.plain_hart.Goals as goal

pub returns-clause-number : goal.returns-clause-number
returns-clause-number c =
    let bytes = c.args.bytes.now in
    let long = c.in-len3-up.len_at_least in
    rw (rest_of bytes (1 + c.from.result + c.from-2.result) (omega (arith, long, one_at_most _ _ c.from.ensures, one_at_most _ _ c.from-2.ensures)))
    (hart_read bytes c.digit_value-one.result c.digit_value-two.result c.digit_value-three.result c.with_digit-n.result c.with_digit-n-2.result c.from.result c.from-2.result long
    (λ i. (c.type_inv.bytes i).fits) c.digit_value-one.ensures.value c.digit_value-two.ensures.value c.digit_value-three.ensures.value (omega (arith, c.if-one-gt9.false))
    c.with_digit-n.ensures c.with_digit-n-2.ensures c.from.ensures c.from-2.ensures)
