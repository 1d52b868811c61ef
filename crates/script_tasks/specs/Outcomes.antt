-- The program's exit statuses, and what it says on standard error (profile).
use Rattle.std.specs.Prelude.{◌≡◌, ◌≢◌, ◌⊎◌, ℕ, Bool, true, false, Result, MatchResult}
use Rattle.std.specs.IoError.{error_kind}
use Rattle.std.specs.declared.io.ErrorKind.{ErrorKind}
use Rattle.std.specs.declared.io.ErrorKind.TheVariants as io_kinds
use Rattle.clap.specs.Values.{kind_of}
use Rattle.clap.specs.declared.error.kind.ErrorKind as clap_kind
use Rattle.clap.specs.declared.error.kind.ErrorKind.TheVariants as clap_kinds
use Rattle.script_tasks.specs.declared.ending.NoOutcome.{NoOutcome}
use Rattle.script_tasks.specs.declared.ending.NoOutcome.TheVariants.{Usage, System}
use Rattle.script_tasks.specs.declared.outcome.Outcome.{Outcome}
use Rattle.script_tasks.specs.declared.outcome.Outcome.TheVariants.{Good, Script, BadBoard, WrongKind, HistoryFull, Stuck, Differs, NoMemory, Io}

-- The exit status of each outcome.
abbrev pub status_of : Outcome → ℕ
status_of Good = 0
status_of (Script line number) = 1
status_of BadBoard = 1
status_of WrongKind = 1
status_of HistoryFull = 3
status_of Stuck = 4
status_of Differs = 5
status_of NoMemory = 6
status_of Io = 7

-- whether standard error gets a line about how a run ended
abbrev pub is_reported : Outcome → Bool
is_reported Good = false
is_reported (Script line number) = true
is_reported BadBoard = true
is_reported WrongKind = true
is_reported HistoryFull = true
is_reported Stuck = true
is_reported Differs = false
is_reported NoMemory = true
is_reported Io = true

-- The outcome of an error of the system: NoMemory if memory was refused, otherwise Io.
pub record FailsAs (kind : ErrorKind) (outcome : Outcome) : Type 0 where
  pub memory : kind ≡ io_kinds.OutOfMemory → outcome ≡ NoMemory
  pub others : kind ≢ io_kinds.OutOfMemory → outcome ≡ Io

-- The status of a command line without a task: 0 for help or the version, 6 if an allocation failed, otherwise 2.
abbrev pub usage_status : clap_kind.ErrorKind → ℕ
usage_status clap_kinds.DisplayHelp = 0
usage_status clap_kinds.DisplayVersion = 0
usage_status clap_kinds.OutOfMemory = 6
usage_status kind = 2

-- memory was refused
abbrev pub IsMemory : NoOutcome → Type 0
IsMemory (System error) = error_kind error ≡ io_kinds.OutOfMemory
IsMemory (Usage error) = ⊥

-- The status of a run without an outcome. Printing help, or a fault of usage, may itself fail.
abbrev pub StopsWith : NoOutcome → (status : ℕ) → Type 0
StopsWith (System error) status = (outcome : Outcome) × FailsAs (error_kind error) outcome
    × (status ≡ status_of outcome)
StopsWith (Usage error) status =
    (status ≡ usage_status (kind_of error)) ⊎ ((status ≡ status_of NoMemory) ⊎ (status ≡ status_of Io))

-- The status with which a run ends.
abbrev pub EndsWith : Result Outcome NoOutcome → (status : ℕ) → Type 0
EndsWith run status = MatchResult run (λ outcome. status ≡ status_of outcome) (λ stop. StopsWith stop status)
