-- The limit of a board's history (profile). Answers depend on it only through whether the history is full.
use Rattle.std.specs.Prelude.{ℕ}
use Rattle.board_core.specs.Opening.{Opening, on}

-- The same opening, of a board whose history has this limit.
abbrev pub with_limit : ℕ → Opening → Opening
with_limit limit o = on (record o.config { limit = limit }) o
