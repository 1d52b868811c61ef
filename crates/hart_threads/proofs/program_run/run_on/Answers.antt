use Rattle.std.proofs.Common.{◌≡◌, ◌+◌, List, ◌∙◌, ap, subst, length, map, refl, true, false, arith}
use Rattle.std.specs.List.{All}
use Rattle.std.proofs.lemmas.List.{reverse-reverse}
use mathlib.Core.List.{IsPrefix}
use Rattle.board_terms.specs.declared.op.Actor.TheVariants.{Clock}
use Rattle.board_core.specs.History.{Event}
use Rattle.board_lock.specs.Events.{events_in, events_of}
use Rattle.board_lock.specs.Seats.{Sitting, seats_of}
use Rattle.hart_threads.specs.Inside.Works.{met_by_all, Task, task}
use Rattle.hart_threads.specs.Shares.{AreThreads}
use Rattle.hart_threads.proofs.NewSeats.{back_again, new-seats}
use Rattle.hart_threads.proofs.Ticked.{clock-ticked, seats-fresh}
use Rattle.hart_threads.proofs.Whole.{are-threads, settle-all}
use Rattle.hart_threads.proofs.program_run.run_on.Goals as goal

no-way : false ≡ true → ⊥
no-way e = let t = e in cc

pub unreachable-requires : goal.unreachable-requires
unreachable-requires g c =
    let one_each = back_again g.K.Room.opening.config c.in_ok-seats.seats.items (c.in_ok-seats.ensures.seats ∙ c.in_ok-all.ensures.seats ∙ ap (map (λ seat. seat.actor)) c.requires.seats) in
    no-way (c.in-Err.ensures.all.1 one_each)

pub work_all-requires-clause-fresh : goal.work_all-requires-clause-fresh
work_all-requires-clause-fresh g c κs lives = seats-fresh g.K.Room.opening.config c.args.seats.items c.requires.seats

pub invariant_of-work-clause-counted : goal.invariant_of-work-clause-counted
invariant_of-work-clause-counted g c =
    let ok = c.args.seats.ok.0 in
    let many : length c.args.seats.items ≡ g.K.Room.opening.config.harts + 1 = ap length c.requires.seats ∙ (new-seats g.K.Room.opening.config).as_many in
    let long = c.len.ensures in
    omega arith

pub returns-clause-ticks : goal.returns-clause-ticks
returns-clause-ticks g c =
    let one = (c.in-Ok.ensures.all.0 refl).one_each Clock tt in
    rw c.into_board.ensures (clock-ticked g.K.Plan.ticks (events_in c.in-Ok.record) c.in_ok-seats.seats.items one c.in-Ok.ensures.ops c.in_ok-seats.ensures.ticks)

pub returns-clause-threads : goal.returns-clause-threads
returns-clause-threads g c =
    let t : Task = task g.K.Plan.lets g.K.Plan.heard g.K.Room.opening g.K.Plan.guests g.K.Plan.ticks in
    let es : List Event = events_in c.in-Ok.record in
    let same = c.in_ok-seats.ensures.same in
    let all = c.in_ok-all.all.items in
    let one = (c.in-Ok.ensures.all.0 refl).one_each in
    let settled = settle-all t es (λ worked. worked.seat) (λ worked. worked.met) all
    (subst (All (λ (s : Sitting). length (events_of s.actor es) ≡ s.count)) same c.in-Ok.ensures.counts)
    (subst (All (λ (s : Sitting). IsPrefix s.saw es)) same c.in-Ok.ensures.saw) c.in_ok-all.ensures.worked in
    let threads = are-threads t es (λ worked. worked.seat) (λ worked. worked.met) all
    (λ a acting. subst (λ (seats : List Sitting). seats_of a seats ≡ 1) same (one a acting)) settled in
    rw c.into_board.ensures rw c.in_ok-seats.ensures.met
    (subst (λ (past : List Event). AreThreads t.lets t.heard t.opening t.guests t.ticks past (met_by_all (map (λ worked. worked.met) all))) (reverse-reverse c.in-Ok.record.past) threads)
