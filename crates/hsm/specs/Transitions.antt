-- How a hart goes from state to state (SBI 9, HSM states), one row of the table at a time.
use Rattle.std.specs.Prelude.{ℕ, Bool, true, false, List, ◌==◌, if◌then◌else◌, Option, Some, None, map, option_map, replicate, slice_index_or, slice_set}
use Rattle.std.specs.List.{range_with_len}
use Rattle.sbi_abi.specs.declared.suspend.SuspendKind.{SuspendKind}
use Rattle.sbi_abi.specs.declared.suspend.SuspendKind.TheVariants.{Retentive, NonRetentive}
use Rattle.hsm.specs.declared.hart.HartState.{HartState}
use Rattle.hsm.specs.declared.hart.HartState.TheVariants.{Started, Stopped, StartPending, StopPending, Suspended, SuspendPending, ResumePending}
use Rattle.hsm.specs.declared.hart.EntryPoint.{EntryPoint}
use Rattle.hsm.specs.declared.hart.Moved.{Moved}
use Rattle.hsm.specs.declared.hart.Moved.TheVariants.{Entered, Resumed, Returned, To}
use Rattle.hsm.specs.Harts.{Hart, running, resting, starting, stopping, suspending, sleeping, resuming}

-- A STOPPED hart can be started. A hart in any other state is already available (SBI 9.1; for other states than
-- STARTED: profile).
abbrev pub started_from : EntryPoint → HartState → Option Hart
started_from kept Stopped = Some (starting kept)
started_from kept Started = None
started_from kept StartPending = None
started_from kept StopPending = None
started_from kept Suspended = None
started_from kept SuspendPending = None
started_from kept ResumePending = None

-- The start of a hart, from STOPPED to START_PENDING (SBI 9.1). None: it isn't STOPPED.
abbrev pub started : EntryPoint → Hart → Option Hart
started kept hart = started_from kept hart.state

-- A hart whose stop is pending after hart_stop (SBI 9.2).
abbrev pub stopped : Hart
stopped = stopping

-- The entry point that a suspend keeps: a non-retentive suspend keeps its own, a retentive suspend none (SBI 9.4).
abbrev pub kept_by : SuspendKind → EntryPoint → Option EntryPoint
kept_by Retentive kept = None
kept_by NonRetentive kept = Some kept

-- A hart whose suspend is pending after hart_suspend (SBI 9.4).
abbrev pub suspended : SuspendKind → EntryPoint → Hart
suspended kind kept = suspending (kept_by kind kept)

-- a hart after the firmware's step, and what the step did
pub record Step : Type 0 where
  pub hart : Hart
  pub moved : Moved

-- A SUSPENDED hart resumes if it has wake: an enabled interrupt is pending. Otherwise it stays SUSPENDED (SBI 9.4).
abbrev pub woken : Bool → Option EntryPoint → Option Step
woken true kept = Some (record { hart = resuming kept; moved = To ResumePending })
woken false kept = None

-- After a non-retentive suspend the hart begins at the suspend's entry point; after a retentive suspend its call
-- returns (SBI 9.4).
abbrev pub resumed : Option EntryPoint → Moved
resumed (Some kept) = Resumed kept
resumed None = Returned

-- The firmware's step, by the hart's state. A hart that is STARTED or STOPPED has no next state (profile).
abbrev pub advanced_from : Bool → HartState → Option EntryPoint → Option Step
advanced_from wake StartPending kept = option_map (λ k. record { hart = running; moved = Entered k }) kept
advanced_from wake StopPending kept = Some (record { hart = resting; moved = To Stopped })
advanced_from wake SuspendPending kept = Some (record { hart = sleeping kept; moved = To Suspended })
advanced_from wake Suspended kept = woken wake kept
advanced_from wake ResumePending kept = Some (record { hart = running; moved = resumed kept })
advanced_from wake Started kept = None
advanced_from wake Stopped kept = None

-- The firmware's own step (SBI 9, HSM states). START_PENDING becomes STARTED, and the hart begins at its entry point.
-- STOP_PENDING becomes STOPPED. SUSPEND_PENDING becomes SUSPENDED, with wake RESUME_PENDING, then STARTED. None: the
-- hart can't advance.
abbrev pub advanced : Bool → Hart → Option Step
advanced wake hart = advanced_from wake hart.state hart.kept

-- the hart with an id; a STOPPED one if there is none
abbrev pub hart_at : List Hart → ℕ → Hart
hart_at harts h = slice_index_or harts h resting

-- the harts with this value of hart h; None changes nothing
abbrev pub changed : List Hart → ℕ → Option Hart → List Hart
changed harts h (Some hart) = slice_set harts h hart
changed harts h None = harts

-- a hart of a new board: START_PENDING if it is the boot hart, else STOPPED
abbrev pub hart_at_opening : ℕ → EntryPoint → ℕ → Hart
hart_at_opening boot_hart boot h = if h == boot_hart then starting boot else resting

-- On a new board the boot hart's start is pending, and the other harts are STOPPED (profile).
abbrev pub opening : ℕ → ℕ → EntryPoint → List Hart
opening harts boot_hart boot = map (hart_at_opening boot_hart boot) (range_with_len 0 harts)

-- A reset makes every hart STOPPED. Then, on a reboot, the boot hart's start is pending (profile).
abbrev pub reset_to : (harts boot_hart : ℕ) → (boot : Option EntryPoint) → List Hart
reset_to harts boot_hart None = replicate harts resting
reset_to harts boot_hart (Some boot) = slice_set (replicate harts resting) boot_hart (starting boot)
