use Rattle.std.proofs.Common.{◌∷◌, ap, arith}
use Rattle.rfence.specs.Turns.{Stop}
use Rattle.rfence.proofs.Stands.{affected-stop, length-calls, length-queues, stands-seen, taken-stop}
use Rattle.rfence.proofs.Takes.{has-turns, takes-stop}
use Rattle.rfence.proofs.fences.Fences.discharge_all.Goals as goal

pub len-requires : goal.len-requires
len-requires g c =
    let takes = takes-stop c.args.self.now (has-turns _ _ c.self.view_is c.self.invariant) c.args.t c.requires.in_range in
    let stands = stands-seen takes.o takes.n takes.turns _ _ c.self.view_is takes.stands in
    let inside = takes.right.0 in
    omega (arith, length-queues takes.o takes.n takes.turns _ stands)

pub overflow_add-self : goal.overflow_add-self
overflow_add-self g c =
    let takes = takes-stop c.args.self.now (has-turns _ _ c.self.view_is c.self.invariant) c.args.t c.requires.in_range in
    let room = c.requires.room.applied in
    let stands = stands-seen takes.o takes.n takes.turns _ _ c.self.view_is takes.stands in
    let limit = takes.stands.limit in
    omega (arith, length-queues takes.o takes.n takes.turns _ stands, c.len.ensures.limit, ap (λ f. f.applied) c.self.view_is)

pub drain-requires : goal.drain-requires
drain-requires g c =
    let takes = takes-stop c.args.self.now (has-turns _ _ c.self.view_is c.self.invariant) c.args.t c.requires.in_range in
    let stands = stands-seen takes.o takes.n takes.turns _ _ c.self.view_is takes.stands in
    let inside = takes.right.0 in
    omega (arith, length-queues takes.o takes.n takes.turns _ stands)

pub forget_all-requires : goal.forget_all-requires
forget_all-requires g c =
    let takes = takes-stop c.args.self.now (has-turns _ _ c.self.view_is c.self.invariant) c.args.t c.requires.in_range in
    let inside = takes.right.0 in
    let limit = takes.stands.limit in
    omega arith

pub clear_at-requires : goal.clear_at-requires
clear_at-requires g c =
    let takes = takes-stop c.args.self.now (has-turns _ _ c.self.view_is c.self.invariant) c.args.t c.requires.in_range in
    let inside = takes.right.0 in
    omega (arith, length-calls takes.o takes.n takes.turns _ takes.stands, c.requires.caches)

pub returns-clause-taken : goal.returns-clause-taken
returns-clause-taken g c = λ o n turns stands right.
    taken-stop o n turns _ (stands-seen o n turns _ _ c.self.view_is stands) c.args.t right _ _ _ c.drain.ensures c.forget_all.ensures c.len.ensures.count

pub returns-clause-affected : goal.returns-clause-affected
returns-clause-affected g c = λ o n turns stands right.
    affected-stop o n turns _ stands g.C.Fenced.dropped g.C.Fenced.emptied c.args.t c.args.caches.now _ c.clear_at.ensures

-- the turns that it stood for and this one
pub invariant_of-self : goal.invariant_of-self
invariant_of-self g c =
    let takes = takes-stop c.args.self.now (has-turns _ _ c.self.view_is c.self.invariant) c.args.t c.requires.in_range in
    let stands = stands-seen takes.o takes.n takes.turns _ _ c.self.view_is takes.stands in
    record {
      o = takes.o;
      n = takes.n;
      turns = Stop c.args.t ∷ takes.turns;
      stands = taken-stop takes.o takes.n takes.turns _ stands c.args.t takes.right _ _ _ c.drain.ensures c.forget_all.ensures c.len.ensures.count;
      right = takes.right;
    }
