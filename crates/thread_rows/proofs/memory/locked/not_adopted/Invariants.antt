use Rattle.thread_rows.proofs.memory.locked.not_adopted.Given as goal

-- the room that was just made, and what the board began with
abbrev pub ghosts-not_adopted_in-K-Ledger : goal.ghosts-not_adopted_in-K-Ledger
ghosts-not_adopted_in-K-Ledger g a = record { name = a.room.ledger; parts = a.room.parts }

abbrev pub ghosts-not_adopted_in-K-Room : goal.ghosts-not_adopted_in-K-Room
ghosts-not_adopted_in-K-Room g a = record { opening = a.board.opening; log = a.room.log; all = a.room.parts }
