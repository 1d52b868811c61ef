use Rattle.std.proofs.Common.{◌∙◌, sym, arith}
use Rattle.guest_script.proofs.PlainParts.{digit_small, digits_begin, digits_more, rest_of}
use Rattle.guest_script.proofs.plain_digits.plain_digits.Goals as goal

pub returns-in-None-2-clause-number : goal.returns-in-None-2-clause-number
returns-in-None-2-clause-number c =
    digits_begin c.args.radix c.args.bytes.now c.loop-i.i c.loop-i.n _ (omega arith) c.loop-i.invariant.1 (omega arith) (omega arith)
    (rest_of c.args.bytes.now c.loop-i.i (omega arith)) c.loop-i.invariant.0

pub loop-i-preserved : goal.loop-i-preserved
loop-i-preserved c =
    let digit = sym c.push_digit.ensures ∙ c.in-Some.is in
    (digits_more c.args.radix c.args.bytes.now c.loop-i.i c.loop-i.n c.in-Some.more (omega arith) c.loop-i.invariant.0 digit, digit_small c.args.radix c.loop-i.n _ c.in-Some.more digit)
