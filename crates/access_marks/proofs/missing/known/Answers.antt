use Rattle.std.proofs.Common.{refl, sym}
use Rattle.access_marks.proofs.missing.known.Goals as goal

pub returns-then-is : goal.returns-then-is
returns-then-is c =
    (c.watch-item.result, (c.loop-watch.watch-index, c.loop-watch-test.true, sym c.watch-item.is), c.is.ensures c.if-is.true, refl)
