use Rattle.std.proofs.Common.{◌≡◌, ◌-◌, ◌<◌, ◌≤◌, take, vec_len}
use Rattle.script_tasks.specs.Sources.{HasTaken, read_limit}
use Rattle.script_tasks.proofs.device.pieces.read_pieces.Given as goal

abbrev pub invariant-loop-left : goal.invariant-loop-left
invariant-loop-left g l =
    HasTaken (g.S.Source.left l.fn.source) (g.S.Source.left l.source) l.reader (take l.pending l.bytes.items) (read_limit - l.left)
    × (g.S.Source.failures l.source ≡ g.S.Source.failures l.fn.source)
    × (l.pending ≤ vec_len l.bytes)
    × (l.left ≤ read_limit)
    × (0 < vec_len l.bytes)

abbrev pub decreases-loop-left : goal.decreases-loop-left
decreases-loop-left g l = l.left
