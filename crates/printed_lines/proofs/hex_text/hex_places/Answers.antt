use Rattle.std.proofs.Common.{sym, arith}
use Rattle.printed_lines.proofs.Hex.{length-hex-one, length-hex-log}
use Rattle.printed_lines.proofs.hex_text.hex_places.Goals as goal

pub returns-then-n-eq0-clause-places : goal.returns-then-n-eq0-clause-places
returns-then-n-eq0-clause-places c = sym (length-hex-one c.args.n (omega arith))

pub returns-clause-places : goal.returns-clause-places
returns-clause-places c = sym (length-hex-log c.args.n c.ilog2.result c.ilog2.ensures.power_le c.ilog2.ensures.next_power_gt (omega arith))
