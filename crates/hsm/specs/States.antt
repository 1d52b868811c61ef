-- The states of a hart, and their numbers (SBI 9, HSM states).
use Rattle.std.specs.Prelude.{ℕ, Bool, true, false}
use Rattle.hsm.specs.declared.hart.HartState.{HartState}
use Rattle.hsm.specs.declared.hart.HartState.TheVariants.{Started, Stopped, StartPending, StopPending, Suspended, SuspendPending, ResumePending}

-- The number of each state, as hart_get_status returns it (SBI 9, HSM states).
abbrev pub state_number : HartState → ℕ
state_number Started = 0
state_number Stopped = 1
state_number StartPending = 2
state_number StopPending = 3
state_number Suspended = 4
state_number SuspendPending = 5
state_number ResumePending = 6

-- Whether a hart is STARTED: it runs its guest (SBI 9, HSM states).
abbrev pub is_started : HartState → Bool
is_started Started = true
is_started Stopped = false
is_started StartPending = false
is_started StopPending = false
is_started Suspended = false
is_started SuspendPending = false
is_started ResumePending = false

abbrev pub is_stopped : HartState → Bool
is_stopped Started = false
is_stopped Stopped = true
is_stopped StartPending = false
is_stopped StopPending = false
is_stopped Suspended = false
is_stopped SuspendPending = false
is_stopped ResumePending = false

-- Whether a hart is START_PENDING: it was started, and hasn't begun yet (SBI 9, HSM states).
abbrev pub is_start_pending : HartState → Bool
is_start_pending Started = false
is_start_pending Stopped = false
is_start_pending StartPending = true
is_start_pending StopPending = false
is_start_pending Suspended = false
is_start_pending SuspendPending = false
is_start_pending ResumePending = false

-- Whether a hart is in a suspend: SUSPEND_PENDING, SUSPENDED or RESUME_PENDING (SBI 9.4).
abbrev pub is_in_suspend : HartState → Bool
is_in_suspend Started = false
is_in_suspend Stopped = false
is_in_suspend StartPending = false
is_in_suspend StopPending = false
is_in_suspend Suspended = true
is_in_suspend SuspendPending = true
is_in_suspend ResumePending = true

-- Whether an IPI or a remote fence reaches a hart: it is STARTED or in a suspend. They skip other harts (profile).
abbrev pub is_interruptible : HartState → Bool
is_interruptible Started = true
is_interruptible Stopped = false
is_interruptible StartPending = false
is_interruptible StopPending = false
is_interruptible Suspended = true
is_interruptible SuspendPending = true
is_interruptible ResumePending = true

-- Whether the firmware can advance a hart: its state is pending, or it is SUSPENDED and has wake (SBI 9.4; that a step
-- does it: profile).
abbrev pub goes_on : (wake : Bool) → HartState → Bool
goes_on wake Started = false
goes_on wake Stopped = false
goes_on wake StartPending = true
goes_on wake StopPending = true
goes_on wake Suspended = wake
goes_on wake SuspendPending = true
goes_on wake ResumePending = true
