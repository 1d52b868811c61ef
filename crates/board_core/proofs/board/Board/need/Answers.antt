use Rattle.board_core.proofs.board.Board.need.Goals as goal

pub returns-clause-total : goal.returns-clause-total
returns-clause-total c = rw (← c.view.ensures) c.need.ensures.total
