use Rattle.std.proofs.Common.{◌∷◌, ◌+◌, ◌<◌, ap, ◌∙◌, arith}
use Rattle.std.specs.Prelude.{if◌then◌else◌}
use Rattle.fence_queue.specs.Queues.{has_from}
use Rattle.hart_mask.specs.Ids.{has}
use Rattle.rfence.specs.Turns.{Ask}
use Rattle.rfence.specs.Effects.{changed_at}
use Rattle.rfence.proofs.Stands.{affected-ask, can-ask-others, length-calls, length-opened, length-ids, length-queues, none-of, one_or_none, queue_at-stands, stands-seen, taken-ask}
use Rattle.rfence.proofs.Takes.{has-turns, takes-ask}
use Rattle.rfence.proofs.fences.Fences.ask.Goals as goal

pub apply_where-requires : goal.apply_where-requires
apply_where-requires g c =
    let takes = takes-ask c.args.self.now (has-turns _ _ c.self.view_is c.self.invariant) c.args.place c.requires.place c.args.c c.args.asked c.args.flush c.requires.caller c.requires.targets c.requires.outside in
    let inside = takes.right.0.0 in
    omega (arith, length-calls takes.o takes.n takes.turns _ takes.stands, c.requires.caches)

pub contains-own-requires : goal.contains-own-requires
contains-own-requires g c =
    let takes = takes-ask c.args.self.now (has-turns _ _ c.self.view_is c.self.invariant) c.args.place c.requires.place c.args.c c.args.asked c.args.flush c.requires.caller c.requires.targets c.requires.outside in
    let inside = takes.right.0.0 in
    let limit = takes.stands.limit in
    omega arith

pub remove-requires : goal.remove-requires
remove-requires g c =
    let takes = takes-ask c.args.self.now (has-turns _ _ c.self.view_is c.self.invariant) c.args.place c.requires.place c.args.c c.args.asked c.args.flush c.requires.caller c.requires.targets c.requires.outside in
    let inside = takes.right.0.0 in
    let limit = takes.stands.limit in
    omega arith

pub ask-requires-clause-caller : goal.ask-requires-clause-caller
ask-requires-clause-caller g c =
    let takes = takes-ask c.args.self.now (has-turns _ _ c.self.view_is c.self.invariant) c.args.place c.requires.place c.args.c c.args.asked c.args.flush c.requires.caller c.requires.targets c.requires.outside in
    let stands = stands-seen takes.o takes.n takes.turns _ _ c.self.view_is takes.stands in
    let inside = takes.right.0.0 in
    omega (arith, length-queues takes.o takes.n takes.turns _ stands)

-- outside of its call a hart waits for none
pub ask-requires-clause-out : goal.ask-requires-clause-out
ask-requires-clause-out g c = λ t inside.
    let takes = takes-ask c.args.self.now (has-turns _ _ c.self.view_is c.self.invariant) c.args.place c.requires.place c.args.c c.args.asked c.args.flush c.requires.caller c.requires.targets c.requires.outside in
    let stands = stands-seen takes.o takes.n takes.turns _ _ c.self.view_is takes.stands in
    let below : t < takes.n = omega (arith, inside, length-queues takes.o takes.n takes.turns _ stands) in
    ap (has_from c.args.c) (queue_at-stands takes.o takes.n takes.turns _ stands t below)
    ∙ none-of takes.o takes.n takes.turns _ stands c.args.c c.args.asked c.args.flush c.contains-own.ensures.whole takes.right t

pub ask-requires-clause-can : goal.ask-requires-clause-can
ask-requires-clause-can g c =
    let takes = takes-ask c.args.self.now (has-turns _ _ c.self.view_is c.self.invariant) c.args.place c.requires.place c.args.c c.args.asked c.args.flush c.requires.caller c.requires.targets c.requires.outside in
    let stands = stands-seen takes.o takes.n takes.turns _ _ c.self.view_is takes.stands in
    can-ask-others takes.o takes.n takes.turns _ stands c.args.c c.args.asked c.args.flush c.contains-own.ensures.whole takes.right _ c.remove.ensures

pub index_mut-requires : goal.index_mut-requires
index_mut-requires g c =
    let takes = takes-ask c.args.self.now (has-turns _ _ c.self.view_is c.self.invariant) c.args.place c.requires.place c.args.c c.args.asked c.args.flush c.requires.caller c.requires.targets c.requires.outside in
    let stands = stands-seen takes.o takes.n takes.turns _ _ c.self.view_is takes.stands in
    let inside = takes.right.0.0 in
    omega (arith, length-calls takes.o takes.n takes.turns _ stands, c.self.inside.calls.ok.0)

pub index_mut-requires-2 : goal.index_mut-requires-2
index_mut-requires-2 g c =
    let takes = takes-ask c.args.self.now (has-turns _ _ c.self.view_is c.self.invariant) c.args.place c.requires.place c.args.c c.args.asked c.args.flush c.requires.caller c.requires.targets c.requires.outside in
    let stands = stands-seen takes.o takes.n takes.turns _ _ c.self.view_is takes.stands in
    let inside = takes.right.0.0 in
    omega (arith, length-opened takes.o takes.n takes.turns _ stands, c.self.inside.opened.ok.0)

pub returns-clause-taken : goal.returns-clause-taken
returns-clause-taken g c = λ o n turns stands right at.
    rw c.new.ensures (taken-ask o n turns _ (stands-seen o n turns _ _ c.self.view_is stands) c.args.c c.args.asked c.args.flush c.contains-own.ensures.whole right
    _ _ _ _ _ at c.remove.ensures c.ask.ensures
    (ap (λ m. c.self.inside.asked + m) c.len.ensures)
    (ap (λ m. c.self.inside.applied + m) (c.one_if.ensures ∙ ap (λ b. if b then 1 else 0) c.contains-own.ensures.answer)))

pub returns-clause-affected : goal.returns-clause-affected
returns-clause-affected g c = λ o n turns stands right.
    affected-ask o n turns _ stands c.args.c c.args.asked c.args.flush c.contains-own.ensures.whole right g.C.Fenced.dropped g.C.Fenced.emptied c.args.caches.now _
    (c.apply_where.ensures ∙ ap (λ b. if b then changed_at (g.C.Fenced.dropped c.args.flush) c.args.caches.now c.args.c else c.args.caches.now) c.contains-own.ensures.answer)

pub overflow_add-self : goal.overflow_add-self
overflow_add-self g c =
    let room = c.requires.room.applied in
    omega (arith, ap (λ f. f.applied) c.self.view_is, c.one_if.ensures, one_or_none c.contains-own.result)

pub overflow_add-self-2 : goal.overflow_add-self-2
overflow_add-self-2 g c =
    let room = c.requires.room.asked in
    omega (arith, ap (λ f. f.asked) c.self.view_is, c.len.ensures, length-ids c.args.asked c.contains-own.ensures.whole)

-- the turns that it stood for and this one
pub invariant_of-self : goal.invariant_of-self
invariant_of-self g c =
    let takes = takes-ask c.args.self.now (has-turns _ _ c.self.view_is c.self.invariant) c.args.place c.requires.place c.args.c c.args.asked c.args.flush c.requires.caller c.requires.targets c.requires.outside in
    let stands = stands-seen takes.o takes.n takes.turns _ _ c.self.view_is takes.stands in
    record {
      o = takes.o;
      n = takes.n;
      turns = Ask c.args.c (has c.args.asked) c.args.flush ∷ takes.turns;
      stands = rw c.new.ensures (taken-ask takes.o takes.n takes.turns _ stands c.args.c c.args.asked c.args.flush c.contains-own.ensures.whole takes.right
          _ _ _ _ _ takes.at c.remove.ensures c.ask.ensures
          (ap (λ m. c.self.inside.asked + m) c.len.ensures)
          (ap (λ m. c.self.inside.applied + m) (c.one_if.ensures ∙ ap (λ b. if b then 1 else 0) c.contains-own.ensures.answer)));
      right = takes.right;
    }

pub returns-clause-made : goal.returns-clause-made
returns-clause-made g c = takes-ask c.args.self.now (has-turns _ _ c.self.view_is c.self.invariant) c.args.place c.requires.place c.args.c c.args.asked c.args.flush c.requires.caller c.requires.targets c.requires.outside
