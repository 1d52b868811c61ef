use Rattle.std.proofs.Common.{◌∷◌, sym, ap, ◌∙◌, arith}
use Rattle.rfence.specs.Turns.{Serve}
use Rattle.rfence.proofs.Stands.{affected-serve, length-calls, length-queues, request-below, serve-request, stands-seen, taken-serve}
use Rattle.rfence.proofs.Takes.{has-turns, takes-serve}
use Rattle.rfence.proofs.fences.Fences.serve.Goals as goal

pub pop-requires : goal.pop-requires
pop-requires g c =
    let takes = takes-serve c.args.self.now (has-turns _ _ c.self.view_is c.self.invariant) c.args.t c.requires.in_range c.requires.waits in
    let stands = stands-seen takes.o takes.n takes.turns _ _ c.self.view_is takes.stands in
    let inside = takes.right.0.0 in
    omega (arith, length-queues takes.o takes.n takes.turns _ stands)

pub unreachable-requires : goal.unreachable-requires
unreachable-requires g c =
    let takes = takes-serve c.args.self.now (has-turns _ _ c.self.view_is c.self.invariant) c.args.t c.requires.in_range c.requires.waits in
    let stands = stands-seen takes.o takes.n takes.turns _ _ c.self.view_is takes.stands in
    c.in_default.not-Some _ (c.pop.ensures.answer ∙ serve-request takes.o takes.n takes.turns _ stands c.args.t takes.right)

pub apply_at-requires : goal.apply_at-requires
apply_at-requires g c =
    let takes = takes-serve c.args.self.now (has-turns _ _ c.self.view_is c.self.invariant) c.args.t c.requires.in_range c.requires.waits in
    let inside = takes.right.0.0 in
    omega (arith, length-calls takes.o takes.n takes.turns _ takes.stands, c.requires.caches)

pub forget-requires : goal.forget-requires
forget-requires g c =
    let takes = takes-serve c.args.self.now (has-turns _ _ c.self.view_is c.self.invariant) c.args.t c.requires.in_range c.requires.waits in
    let stands = stands-seen takes.o takes.n takes.turns _ _ c.self.view_is takes.stands in
    let below = request-below takes.o takes.n takes.turns _ stands c.args.t takes.right c.in-Some.request (sym c.in-Some.is ∙ c.pop.ensures.answer) in
    let inside = takes.right.0.0 in
    let limit = takes.stands.limit in
    record { in_range = omega (arith, below, length-calls takes.o takes.n takes.turns _ stands); id = omega arith }

pub overflow_add-self : goal.overflow_add-self
overflow_add-self g c =
    let room = c.requires.room.applied in
    omega (arith, ap (λ f. f.applied) c.self.view_is)

pub returns-clause-taken : goal.returns-clause-taken
returns-clause-taken g c = λ o n turns stands right.
    taken-serve o n turns _ (stands-seen o n turns _ _ c.self.view_is stands) c.args.t right c.in-Some.request _ _ (sym c.in-Some.is ∙ c.pop.ensures.answer) c.pop.ensures.after c.forget.ensures

pub returns-clause-affected : goal.returns-clause-affected
returns-clause-affected g c = λ o n turns stands right.
    affected-serve o n turns _ (stands-seen o n turns _ _ c.self.view_is stands) c.args.t right g.C.Fenced.dropped g.C.Fenced.emptied c.args.caches.now _ c.in-Some.request
    (sym c.in-Some.is ∙ c.pop.ensures.answer) c.apply_at.ensures

-- the turns that it stood for and this one
pub invariant_of-self : goal.invariant_of-self
invariant_of-self g c =
    let takes = takes-serve c.args.self.now (has-turns _ _ c.self.view_is c.self.invariant) c.args.t c.requires.in_range c.requires.waits in
    let stands = stands-seen takes.o takes.n takes.turns _ _ c.self.view_is takes.stands in
    record {
      o = takes.o;
      n = takes.n;
      turns = Serve c.args.t ∷ takes.turns;
      stands = taken-serve takes.o takes.n takes.turns _ stands c.args.t takes.right c.in-Some.request _ _
          (sym c.in-Some.is ∙ c.pop.ensures.answer) c.pop.ensures.after c.forget.ensures;
      right = takes.right;
    }
