use Rattle.std.proofs.Common.{◌≡◌, ◌-◌}
use Rattle.seeded_orders.specs.Orders.{ordered}
use Rattle.guest_programs.specs.Places.{AreAt}
use Rattle.guest_programs.specs.Steps.{Task}
use Rattle.seeded_orders.proofs.orders.follow.Given as goal

abbrev pub invariant-loop-i : goal.invariant-loop-i
invariant-loop-i g l =
    let rest = g.G.Guests.rest l.guests in
    (l.board.opening ≡ l.initial.board.opening)
    × ((p : Task) → p.guests ≡ g.G.Guests.next l.guests → AreAt rest p l.initial.board.opening.config.harts l.initial.board.past l.initial.places
    → AreAt rest p l.board.opening.config.harts l.board.past l.places
    × (ordered l.board.opening p (l.initial.board.opening.config.limit - l.i) l.i l.picker l.board.past
    ≡ ordered l.initial.board.opening p l.initial.board.opening.config.limit 0 l.initial.picker l.initial.board.past))
