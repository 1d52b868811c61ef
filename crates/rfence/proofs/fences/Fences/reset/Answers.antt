use Rattle.std.proofs.Common.{◌∷◌, replicate, ap, ◌∙◌, arith}
use Rattle.std.specs.Prelude.{None}
use Rattle.rfence.specs.Turns.{Reset}
use Rattle.rfence.proofs.Stands.{affected-reset, length-opened, stands-seen, taken-reset, total-small}
use Rattle.rfence.proofs.Takes.{has-turns, takes-reset}
use Rattle.rfence.proofs.fences.Fences.reset.Goals as goal

pub overflow_add-self : goal.overflow_add-self
overflow_add-self g c =
    let room = c.requires.applied in
    let takes = takes-reset c.args.self.now (has-turns _ _ c.self.view_is c.self.invariant) in
    let stands = stands-seen takes.o takes.n takes.turns _ _ c.self.view_is takes.stands in
    let small = total-small takes.o takes.n takes.turns _ stands takes.right.1 in
    omega (arith, small, c.total.ensures, ap (λ f. f.applied) c.self.view_is)

pub returns-clause-taken : goal.returns-clause-taken
returns-clause-taken g c = λ o n turns stands right.
    let seen = stands-seen o n turns _ _ c.self.view_is stands in
    taken-reset o n turns _ seen _ _ _ _ c.clear.ensures c.close_all.ensures
    (c.close_all-2.ensures ∙ ap (λ m. replicate m None) (length-opened o n turns _ seen)) c.total.ensures

pub returns-clause-affected : goal.returns-clause-affected
returns-clause-affected g c = λ o n turns stands right.
    affected-reset o n turns _ stands g.C.Fenced.dropped g.C.Fenced.emptied c.args.caches.now _ c.clear_all.ensures

-- the turns that it stood for and this one
pub invariant_of-self : goal.invariant_of-self
invariant_of-self g c =
    let takes = takes-reset c.args.self.now (has-turns _ _ c.self.view_is c.self.invariant) in
    let stands = stands-seen takes.o takes.n takes.turns _ _ c.self.view_is takes.stands in
    record {
      o = takes.o;
      n = takes.n;
      turns = Reset ∷ takes.turns;
      stands = taken-reset takes.o takes.n takes.turns _ stands _ _ _ _ c.clear.ensures c.close_all.ensures
          (c.close_all-2.ensures ∙ ap (λ m. replicate m None) (length-opened takes.o takes.n takes.turns _ stands)) c.total.ensures;
      right = takes.right;
    }
