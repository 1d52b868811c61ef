use Rattle.std.proofs.Common.{◌<◌, subst, sym}
use Rattle.std.specs.Simd.Lanes.{Each1}
use Rattle.printed_lines.proofs.HexText.{last_digits-small, pairs-last}
use Rattle.printed_lines.proofs.hex_text.sixteen_digits.Goals as goal

pub returns-clause-values : goal.returns-clause-values
returns-clause-values c = rw c.to_be_bytes-pairs.ensures (pairs-last 8 c.args.n)

pub returns-clause-bound : goal.returns-clause-bound
returns-clause-bound c = subst (λ ds. Each1 (λ d. d < 16) ds) (sym (returns-clause-values c)) (last_digits-small 16 c.args.n)
