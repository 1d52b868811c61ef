use Rattle.std.proofs.Common.{◌≡◌, ◌∷◌, ◌<◌, List}
use Rattle.std.specs.List.{All}
use Rattle.std.specs.Vec.Iter.{into_iter_items}
use Rattle.board_core.specs.History.{Event}
use Rattle.access_marks.specs.declared.use_watch.UseWatch.{UseWatch}
use Rattle.access_marks.specs.Inside.Missing.{IsKept, call_step}
use Rattle.access_marks.proofs.missing.UseWatches.happened.Given as goal

abbrev pub invariant-loop-watch : goal.invariant-loop-watch
invariant-loop-watch l =
    All (λ (w : UseWatch). w.of.at.hart < l.board.opening.config.harts) (into_iter_items l.watch-iterator)
    × ((event : Event) (past : List Event) → l.board.past ≡ event ∷ past → l.step ≡ call_step l.board.opening event
    → All (IsKept l.board.opening past) (into_iter_items l.initial.watch-iterator)
    → All (IsKept l.board.opening past) (into_iter_items l.watch-iterator) × All (IsKept l.board.opening (event ∷ past)) l.after.items)
