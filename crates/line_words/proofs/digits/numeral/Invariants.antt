use Rattle.std.proofs.Common.{◌≡◌, drop}
use Rattle.line_words.specs.Inside.Scanning.{digits_after}
use Rattle.line_words.proofs.digits.numeral.Given as goal

abbrev pub invariant-loop-digit : goal.invariant-loop-digit
invariant-loop-digit l = digits_after l.radix l.n (drop l.digit-index l.digits) ≡ digits_after l.radix 0 l.digits
