use Rattle.std.proofs.Common.{◌<◌, take}
use Rattle.std.specs.List.{All}
use Rattle.tlb_watch.specs.declared.hart_address.HartAddress.{HartAddress}
use Rattle.access_marks.specs.Inside.Accessed.{IsWatched}
use Rattle.access_marks.proofs.accessed.accessed.Given as goal

abbrev pub invariant-loop-event : goal.invariant-loop-event
invariant-loop-event l =
    All (λ (at : HartAddress). at.hart < l.harts) l.addresses.items
    × All (IsWatched l.harts l.addresses.items) (take l.event-index l.events)
