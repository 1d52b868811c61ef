use Rattle.std.proofs.Common.{◌≡◌, ◌<◌, ◌^◌, take, Some}
use Rattle.line_words.specs.Inside.Scanning.{digits_after}
use Rattle.guest_script.proofs.plain_digits.plain_digits.Given as goal

abbrev pub invariant-loop-i : goal.invariant-loop-i
invariant-loop-i l = (digits_after l.radix 0 (take l.i l.bytes) ≡ Some l.n) × (l.n < 2 ^ 64)
