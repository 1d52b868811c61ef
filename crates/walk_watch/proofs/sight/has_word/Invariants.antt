use Rattle.std.proofs.Common.{◌≡◌, take}
use Rattle.walk_watch.specs.Inside.Sights.{has_word}
use Rattle.walk_watch.proofs.sight.has_word.Given as goal

abbrev pub invariant-loop-other : goal.invariant-loop-other
invariant-loop-other l = l.found ≡ has_word (take l.other-index l.words) l.word
