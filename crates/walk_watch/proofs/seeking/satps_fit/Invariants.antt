use Rattle.std.proofs.Common.{◌≡◌, take}
use Rattle.std.specs.Prelude.{◌&&◌}
use Rattle.std.specs.List.{list_all}
use Rattle.sv39.specs.Memory.{word_in}
use Rattle.walk_watch.specs.Inside.Fits.{former_fits, satp_fits}
use Rattle.walk_watch.proofs.seeking.satps_fit.Given as goal

abbrev pub invariant-loop-former : goal.invariant-loop-former
invariant-loop-former l =
    l.fits ≡ (satp_fits l.wanted l.met l.notes (word_in l.ram) l.present l.present && list_all (former_fits l.wanted l.met l.notes (word_in l.ram) l.present) (take l.former-index l.satps))
