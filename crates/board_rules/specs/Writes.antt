-- What events write: registers of harts, states of harts, and starts.
use Rattle.std.specs.Prelude.{ℕ, Bool, ◌==◌, if◌then◌else◌, Option, Some, None}
use Rattle.hsm.specs.declared.hart.HartState.{HartState}
use Rattle.sbi_abi.specs.declared.reset.Reset.{Reset}

-- a write to a register: of the hart that makes the step, or of every hart
pub data Write (A : Type 0) : Type 0 where
  Here : A → Write A
  Everywhere : A → Write A

-- a hart's register after an event: the value written to it, else the one before; `own` says whether the hart made the
-- event
abbrev pub latest : {A : Type 0} → Option (Write A) → (own : Bool) → A → A
latest None own before = before
latest (Some (Here value)) own before = if own then value else before
latest (Some (Everywhere value)) own before = value

-- a reset writes this value at every hart
abbrev pub at_reset : {A : Type 0} → Option Reset → A → Option (Write A)
at_reset None value = None
at_reset (Some reset) value = Some (Everywhere value)

-- a change of states: of one hart, or of each hart
pub data Move : Type 0 where
  One : ℕ → HartState → Move
  Each : (ℕ → HartState) → Move

-- the state of hart h after a change
abbrev pub moved_to : Option Move → (h : ℕ) → HartState → HartState
moved_to None h before = before
moved_to (Some (One x s)) h before = if h == x then s else before
moved_to (Some (Each state)) h before = state h

-- a start of a hart: its id, the address at which it begins, and the value in its a1
pub record Start : Type 0 where
  pub hart : ℕ
  pub addr : ℕ
  pub opaque : ℕ
