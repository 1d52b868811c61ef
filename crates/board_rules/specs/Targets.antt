-- The harts that a hart list names, and those that a call reaches (SBI 3, 7, 8).
use Rattle.std.specs.Prelude.{ℕ, List, Bool, false, ◌&&◌, Option, Some, None}
use Rattle.hart_mask.specs.HartList.{targets_of}
use Rattle.hart_mask.specs.Ids.{has}
use Rattle.hsm.specs.declared.hart.HartState.{HartState}
use Rattle.hsm.specs.States.{is_interruptible}
use Rattle.board_terms.specs.declared.config.Config.{Config}

-- whether a hart is one of the targets of a valid hart list
abbrev pub is_target : Option (List ℕ) → ℕ → Bool
is_target None h = false
is_target (Some ids) h = has ids h

-- Whether a call reaches hart h: its hart list names the hart, and the hart is in an interruptible state (SBI 7.1, 8;
-- that harts in other states are skipped: profile).
abbrev pub is_reached : Config → (state : ℕ → HartState) → (mask base : ℕ) → ℕ → Bool
is_reached c state mask base h = is_target (targets_of mask base c.harts) h && is_interruptible (state h)
