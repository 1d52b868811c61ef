-- The hart that a phase stands for.
use Rattle.std.specs.Prelude.{◌≡◌, ◌≤◌, ℕ, List, length}
use Rattle.hsm.specs.declared.phase.Phase.{Phase}
use Rattle.hsm.specs.declared.phase.Phase.TheVariants.{Started, Stopped, StartPending, StopPending, SuspendPending, Suspended, ResumePending}
use Rattle.hsm.specs.Harts.{Hart, running, resting, starting, stopping, suspending, sleeping, resuming}
use Rattle.hsm.specs.Interruptible.{interruptible_ids}

abbrev pub hart_of : Phase → Hart
hart_of Started = running
hart_of Stopped = resting
hart_of (StartPending kept) = starting kept
hart_of StopPending = stopping
hart_of (SuspendPending kept) = suspending kept
hart_of (Suspended kept) = sleeping kept
hart_of (ResumePending kept) = resuming kept

-- There are at most 128 harts (profile), and the set has the interruptible ones.
pub record AreKept (harts : List Hart) (set : List ℕ) : Type 0 where
  pub limit : length harts ≤ 128
  pub interruptible : set ≡ interruptible_ids harts
