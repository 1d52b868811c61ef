-- The number of serves that a fence call still needs (profile; that a call is complete when all harts have fenced: SBI
-- 8).
use Rattle.std.specs.Prelude.{ℕ, List}
use Rattle.rfence.specs.Need as fences
use Rattle.board_rules.specs.Opening.{Opening}
use Rattle.board_rules.specs.Fences.{turns}
use Rattle.board_rules.specs.History.{Event}

-- The number of serves by hart t after which hart h's fence call no longer waits for t: the position, counted from 1,
-- of the call's fence among those that wait at t; 0 if it doesn't wait there, or h is in no call.
abbrev pub need : Opening → List Event → (h t : ℕ) → ℕ
need o past h t = fences.need o.fences (turns o past) h t

-- the serves that it needs of all harts of the board together
abbrev pub total_need : Opening → List Event → (h : ℕ) → ℕ
total_need o past h = fences.total_need o.fences o.config.harts (turns o past) h
