-- The choices of a record (profile).
use Rattle.std.specs.Prelude.{ℕ, ◌+◌, ◌*◌, ◌%◌}
use Rattle.board_terms.specs.declared.op.Actor.{Actor}
use Rattle.board_terms.specs.declared.op.Actor.TheVariants as actors
use Rattle.board_terms.specs.declared.op.Op.{Op}
use Rattle.board_terms.specs.declared.op.Op.TheVariants as ops
use Rattle.board_core.specs.History.{Event}

-- the number of an operation's kind, of a hart's four
abbrev pub own_number : Op → ℕ
own_number ops.Serve = 1
own_number ops.Poll = 2
own_number ops.Advance = 3
own_number op = 0

abbrev pub choice : Actor → Op → ℕ
choice (actors.Hart h) op = 4 * (h % 128) + own_number op
choice actors.Clock op = 512

-- The choice of a step: its actor and its kind, as a number.
abbrev pub choice_of : Event → ℕ
choice_of e = choice e.actor e.op
