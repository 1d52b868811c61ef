-- Rooms, which tie seats, receipts and a record to their board (profile).
use Rattle.std.specs.Prelude.{ℕ}
use Rattle.board_terms.specs.declared.config.Config.{Config}

-- The numbers of the board that will be behind the lock, and the names of the ghosts that count and log its events.
pub record RoomNames : Type 0 where
  pub config : Config
  pub ledger : ℕ
  pub parts : ℕ
  pub log : ℕ
