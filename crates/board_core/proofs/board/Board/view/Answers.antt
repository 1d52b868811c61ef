use Rattle.board_core.proofs.board.Board.view.Goals as goal

pub invariant_of-result : goal.invariant_of-result
invariant_of-result c = rw (c.as_ref.ensures.value, c.deref.ensures.value) (c.self.invariant.0, c.self.invariant.1)
