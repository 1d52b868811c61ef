use Rattle.std.proofs.Common.{arith, length-take-le}
use Rattle.script_tasks.proofs.UpTo.{reads-behind}
use Rattle.script_tasks.proofs.device.pieces.read_at.Goals as goal

pub returns-clause-bytes : goal.returns-clause-bytes
returns-clause-bytes g c =
    reads-behind _ _ c.read.result _ c.read.new.buffer _ c.args.at (length-take-le _ c.args.bytes.now (omega (arith, c.requires.room))) c.read.ensures.bound
    c.read.ensures.bytes
