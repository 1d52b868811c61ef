use Rattle.board_core.specs.Opening.{opening_at}
use Rattle.thread_rows.proofs.locks.done.Given as goal

-- the room that was just made
abbrev pub ghosts-in_room-K-Ledger : goal.ghosts-in_room-K-Ledger
ghosts-in_room-K-Ledger g a = record { name = a.room.ledger; parts = a.room.parts }

abbrev pub ghosts-in_room-K-Room : goal.ghosts-in_room-K-Room
ghosts-in_room-K-Room g a = record { opening = opening_at a.room.config; log = a.room.log; all = a.room.parts }
