-- A hart as look-ups see it, and a hart in each state (SBI 9, HSM states).
use Rattle.std.specs.Prelude.{Option, Some, None}
use Rattle.hsm.specs.declared.hart.HartState.{HartState}
use Rattle.hsm.specs.declared.hart.HartState.TheVariants.{Started, Stopped, StartPending, StopPending, Suspended, SuspendPending, ResumePending}
use Rattle.hsm.specs.declared.hart.EntryPoint.{EntryPoint}

-- A hart's state, and the entry point that its pending start or its suspend keeps (SBI 9.1, 9.4).
pub record Hart : Type 0 where
  pub state : HartState
  pub kept : Option EntryPoint

-- a hart that runs its guest
abbrev pub running : Hart
running = record { state = Started; kept = None }

-- a hart at rest
abbrev pub resting : Hart
resting = record { state = Stopped; kept = None }

-- a hart whose start is pending
abbrev pub starting : EntryPoint → Hart
starting kept = record { state = StartPending; kept = Some kept }

-- a hart whose stop is pending
abbrev pub stopping : Hart
stopping = record { state = StopPending; kept = None }

-- a hart whose suspend is pending
abbrev pub suspending : Option EntryPoint → Hart
suspending kept = record { state = SuspendPending; kept = kept }

-- a hart that is suspended
abbrev pub sleeping : Option EntryPoint → Hart
sleeping kept = record { state = Suspended; kept = kept }

-- a hart whose resume is pending
abbrev pub resuming : Option EntryPoint → Hart
resuming kept = record { state = ResumePending; kept = kept }
