use Rattle.std.proofs.Common.{◌≡◌, drop}
use Rattle.asm_tokens.specs.Numbers.{digits_in}
use Rattle.asm_tokens.proofs.numbers.numeral.Given as goal

abbrev pub invariant-loop-digit : goal.invariant-loop-digit
invariant-loop-digit l = digits_in l.radix l.n (drop l.digit-index l.digits) ≡ digits_in l.radix 0 l.digits
