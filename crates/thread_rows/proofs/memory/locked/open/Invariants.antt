use Rattle.board_core.specs.Opening.{opening_at}
use Rattle.thread_rows.proofs.memory.locked.open.Given as goal

-- the room that was just made
abbrev pub ghosts-is_open-K-Ledger : goal.ghosts-is_open-K-Ledger
ghosts-is_open-K-Ledger g a = record { name = a.room.ledger; parts = a.room.parts }

abbrev pub ghosts-is_open-K-Room : goal.ghosts-is_open-K-Room
ghosts-is_open-K-Room g a = record { opening = opening_at a.room.config; log = a.room.log; all = a.room.parts }
