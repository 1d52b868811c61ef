use Rattle.std.proofs.Common.{length}
use Rattle.rows.proofs.devices.cuts.whole_lines.Given as goal

abbrev pub decreases-loop-front : goal.decreases-loop-front
decreases-loop-front l = length l.front
