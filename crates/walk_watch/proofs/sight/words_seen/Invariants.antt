use Rattle.std.proofs.Common.{◌≡◌, drop}
use Rattle.walk_watch.specs.Inside.Sights.{seen_on, words_seen}
use Rattle.walk_watch.proofs.sight.words_seen.Given as goal

abbrev pub invariant-loop-note : goal.invariant-loop-note
invariant-loop-note l = seen_on l.spot l.sight l.found.items (drop l.note-index l.notes) ≡ words_seen l.spot l.notes l.fn.word
