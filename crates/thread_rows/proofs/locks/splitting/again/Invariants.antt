use Rattle.thread_rows.proofs.locks.splitting.again.Given as goal

-- the room that was just made, and what the board began with
abbrev pub ghosts-in_room-K-Ledger : goal.ghosts-in_room-K-Ledger
ghosts-in_room-K-Ledger g a = record { name = a.room.ledger; parts = a.room.parts }

abbrev pub ghosts-in_room-K-Room : goal.ghosts-in_room-K-Room
ghosts-in_room-K-Room g a = record { opening = a.board.opening; log = a.room.log; all = a.room.parts }
