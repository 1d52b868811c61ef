use Rattle.std.proofs.Common.{◌∷◌, arith}
use Rattle.rfence.specs.Turns.{Poll}
use Rattle.rfence.proofs.Stands.{length-calls, length-opened, stands-poll, stands-seen}
use Rattle.rfence.proofs.Takes.{has-turns, takes-poll}
use Rattle.rfence.proofs.fences.Fences.poll.Goals as goal

pub index_mut-requires : goal.index_mut-requires
index_mut-requires g c =
    let takes = takes-poll c.args.self.now (has-turns _ _ c.self.view_is c.self.invariant) c.args.c c.requires.in_range c.requires.over in
    let stands = stands-seen takes.o takes.n takes.turns _ _ c.self.view_is takes.stands in
    let inside = takes.right.0.0 in
    omega (arith, length-calls takes.o takes.n takes.turns _ stands, c.self.inside.calls.ok.0)

pub index_mut-requires-2 : goal.index_mut-requires-2
index_mut-requires-2 g c =
    let takes = takes-poll c.args.self.now (has-turns _ _ c.self.view_is c.self.invariant) c.args.c c.requires.in_range c.requires.over in
    let stands = stands-seen takes.o takes.n takes.turns _ _ c.self.view_is takes.stands in
    let inside = takes.right.0.0 in
    omega (arith, length-opened takes.o takes.n takes.turns _ stands, c.self.inside.opened.ok.0)

pub returns : goal.returns
returns g c = λ o n turns stands right. stands-poll o n turns _ (stands-seen o n turns _ _ c.self.view_is stands) c.args.c right

-- the turns that it stood for and this one
pub invariant_of-self : goal.invariant_of-self
invariant_of-self g c =
    let takes = takes-poll c.args.self.now (has-turns _ _ c.self.view_is c.self.invariant) c.args.c c.requires.in_range c.requires.over in
    let stands = stands-seen takes.o takes.n takes.turns _ _ c.self.view_is takes.stands in
    record {
      o = takes.o;
      n = takes.n;
      turns = Poll c.args.c ∷ takes.turns;
      stands = stands-poll takes.o takes.n takes.turns _ stands c.args.c takes.right;
      right = takes.right;
    }
