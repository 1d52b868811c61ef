-- Ends of runs, from their records and programs (profile).
use Rattle.std.specs.Prelude.{◌≡◌, ◌≢◌, ◌⊎◌, ℕ, ◌<◌, true, false, List, length, None}
use Rattle.hsm.specs.declared.hart.HartState.TheVariants.{Started, Stopped}
use Rattle.board_core.specs.Fences.{outstanding}
use Rattle.board_core.specs.History.{Event}
use Rattle.board_core.specs.Opening.{Opening}
use Rattle.board_core.specs.Resets.{is_off}
use Rattle.board_core.specs.States.{state}
use Rattle.guest_programs.specs.declared.ends.End.{End}
use Rattle.guest_programs.specs.declared.ends.End.TheVariants.{GateLimit, Off, HistoryFull, Quiet, Stuck}
use Rattle.guest_programs.specs.declared.met.Met.{Met}
use Rattle.guest_programs.specs.declared.met.Met.TheVariants.{FullHistory, ClosedGate}
use Rattle.guest_programs.specs.Guests.{HasFollowed, Next, next_op}

-- A hart is through: it is STARTED and in no fence call; since its last entry its guest did only its next operations,
-- and has none left.
pub record IsThrough (o : Opening) (past : List Event) (guests : Next) (h : ℕ) : Type 0 where
  pub started : state o past h ≡ Started
  pub outside : outstanding o past h ≡ None
  pub followed : HasFollowed guests past h
  pub over : next_op guests past h ≡ None

-- A hart that is STOPPED, or through, is quiet.
abbrev pub IsQuiet : Opening → List Event → Next → ℕ → Type 0
IsQuiet o past guests h = (state o past h ≡ Stopped) ⊎ IsThrough o past guests h

-- Each hart is quiet.
abbrev pub AreQuiet : Opening → List Event → Next → Type 0
AreQuiet o past guests = (h : ℕ) → h < o.config.harts → IsQuiet o past guests h

-- An actor met a full history, and the history is full.
abbrev pub IsFull : Met → Opening → List Event → Type 0
IsFull met o past = (met ≡ FullHistory) × (length past ≡ o.config.limit)

-- The end of a run, by what its actors met together and by its record. A closed gate comes first, then the power, then
-- a full history, then the harts.
abbrev pub IsEndBy : Met → Opening → List Event → Next → End → Type 0
IsEndBy met o past guests GateLimit = met ≡ ClosedGate
IsEndBy met o past guests Off = (met ≢ ClosedGate) × (is_off o past ≡ true)
IsEndBy met o past guests HistoryFull = (met ≡ FullHistory) × (is_off o past ≡ false) × (length past ≡ o.config.limit)
IsEndBy met o past guests Quiet = (met ≢ ClosedGate) × (is_off o past ≡ false) × ¬ IsFull met o past
    × AreQuiet o past guests
IsEndBy met o past guests Stuck =
    (met ≢ ClosedGate) × (is_off o past ≡ false) × ¬ IsFull met o past
    × ((h : ℕ) × (h < o.config.harts) × ¬ IsQuiet o past guests h)

-- What the record shows about each end. It shows nothing about a gate.
abbrev pub IsEnd : End → Opening → List Event → Next → Type 0
IsEnd GateLimit o past guests = Unit {0}
IsEnd Off o past guests = is_off o past ≡ true
IsEnd HistoryFull o past guests = (is_off o past ≡ false) × (length past ≡ o.config.limit)
IsEnd Quiet o past guests = (is_off o past ≡ false) × AreQuiet o past guests
IsEnd Stuck o past guests = (is_off o past ≡ false) × ((h : ℕ) × (h < o.config.harts) × ¬ IsQuiet o past guests h)
