use Rattle.std.proofs.Common.{◌≡◌, take}
use Rattle.access_marks.specs.Inside.Missing.{is_among}
use Rattle.access_marks.proofs.use_watch.is_among.Given as goal

abbrev pub invariant-loop-other : goal.invariant-loop-other
invariant-loop-other l = l.found ≡ is_among (take l.other-index l.harts) l.hart
