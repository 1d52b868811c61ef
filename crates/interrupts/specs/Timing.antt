-- The time and the harts' deadlines (SBI 6).
use Rattle.std.specs.Prelude.{ℕ, ◌+◌, ◌-◌, ◌^◌, nat_le, if◌then◌else◌, Bool, false, List, length, replicate, slice_index_or, slice_set, Option, Some, None}

-- The time in ticks, and each hart's deadline, if it has one (SBI 6).
pub record Timing : Type 0 where
  pub time : ℕ
  pub deadlines : List (Option ℕ)

-- no deadline for each of so many harts
abbrev pub no_deadlines : ℕ → List (Option ℕ)
no_deadlines harts = replicate harts None

-- On a new board the time is 0, and no hart has a deadline (profile).
abbrev pub opening_timing : ℕ → Timing
opening_timing harts = record { time = 0; deadlines = no_deadlines harts }

-- the deadline of hart h, if the hart exists and has one
abbrev pub deadline_of : Timing → ℕ → Option ℕ
deadline_of timing h = slice_index_or timing.deadlines h None

-- Whether there is a deadline and it is at most the time (SBI 6.1).
abbrev pub is_due : ℕ → Option ℕ → Bool
is_due time (Some deadline) = nat_le deadline time
is_due time None = false

-- STIP of hart h: its timer interrupt is pending if and only if its deadline is due (SBI 6.1; Privileged 4.1.3).
abbrev pub is_timer_pending : Timing → ℕ → Bool
is_timer_pending timing h = is_due timing.time (deadline_of timing h)

-- Hart h has this deadline, or none, whatever it had. The other harts keep theirs (SBI 6.1).
abbrev pub with_deadline : Timing → ℕ → Option ℕ → Timing
with_deadline timing h deadline = record timing { deadlines = slice_set timing.deadlines h deadline }

-- No hart has a deadline any more; the time stays (profile).
abbrev pub without_deadlines : Timing → Timing
without_deadlines timing = record timing { deadlines = no_deadlines (length timing.deadlines) }

-- A deadline of 2^64-1 is infinitely far in the future (SBI 6.1), so the time ends before it (profile).
abbrev pub last_time : ℕ
last_time = 2 ^ 64 - 2

-- The time advances by n ticks. None: it would exceed the last time (profile).
abbrev pub ticked : Timing → ℕ → Option Timing
ticked timing n = if nat_le (timing.time + n) last_time then Some (record timing { time = timing.time + n }) else None
