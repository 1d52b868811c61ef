use Rattle.std.proofs.Common.{◌≡◌, length, take}
use Rattle.std.specs.List.{list_all}
use Rattle.sv39.specs.Memory.{word_in}
use Rattle.walk_watch.specs.Inside.Fits.{word_fits}
use Rattle.walk_watch.proofs.seeking.Sought.+fits_from.Given as goal

abbrev pub decreases-fits_from : goal.decreases-fits_from
decreases-fits_from l = length l.levels.now

abbrev pub invariant-loop-seen : goal.invariant-loop-seen
invariant-loop-seen l =
    l.fits ≡ list_all (word_fits l.self l.notes (word_in l.ram) l.level l.under l.global) (take l.seen-index l.seen-items)
