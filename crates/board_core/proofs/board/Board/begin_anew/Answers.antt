use Rattle.std.proofs.Common.{refl, arith}
use Rattle.board_core.proofs.Beginning.{opens}
use Rattle.board_core.proofs.board.Board.begin_anew.Goals as goal

pub invariant_of-self : goal.invariant_of-self
invariant_of-self c =
    let cleared = c.clear.ensures in
    rw cleared.items (
      record {
        good = c.self.invariant.0.good;
        opened = record { cuts = 0; opens = (c.self.invariant.0.good, refl) };
        legal = opens c.self.inside.config c.self.invariant.0.good;
        within = omega arith;
        early = omega arith;
      },
      c.in_ok-self-inside.ensures.stands,
      rw cleared.capacity c.self.invariant.2,
      refl,
    )
