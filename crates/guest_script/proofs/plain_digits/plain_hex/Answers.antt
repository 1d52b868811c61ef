use Rattle.std.proofs.Common.{◌∙◌, ◌-◌, ◌*◌, ◌/◌, ◌^◌, Some, take, refl, sym, ap, arith}
use Rattle.std.proofs.lemmas.List.{length-take-le}
use Rattle.std.proofs.lemmas.Nat.{shr_le}
use Rattle.guest_script.specs.Inside.HexDigits.{number_after}
use Rattle.guest_script.proofs.HexDigits.{hex_read}
use Rattle.guest_script.proofs.PlainParts.{digits_begin, rest_of}
use Rattle.guest_script.proofs.plain_digits.plain_hex.Goals as goal

pub returns-clause-number : goal.returns-clause-number
returns-clause-number c =
    let bytes = c.args.bytes.now in
    let count = c.digit_count-count.result in
    let read = hex_read bytes (take 16 bytes) count refl (length-take-le 16 bytes (omega arith)) c.digit_count-count.ensures.count c.digit_count-count.ensures.bytes
    (rw (← c.nibbles.ensures.value) c.nibbles.ensures.bound) in
    digits_begin 16 bytes count _ _ (omega arith) (omega (arith, shr_le c.number.result (64 - 4 * count))) (omega arith) (omega (arith, c.digit_count-count.ensures.most))
    (rest_of bytes count (omega (arith, c.digit_count-count.ensures.most)))
    (read ∙ ap (λ m. Some (m / 2 ^ (64 - 4 * count))) (sym (c.number.ensures ∙ ap (number_after 0) c.nibbles.ensures.value)))
