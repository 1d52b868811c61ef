-- A program that ran has written its record and its end.
use Rattle.std.proofs.Common.{◌≡◌, ℕ, ◌≤◌, Bool, true, false, List, length, refl, sym, ap, subst, inl}
use Rattle.std.specs.Prelude.{Option, Some, None, is_some, reverse}
use Rattle.std.specs.Io.KnownBytes.{Appends}
use Rattle.std.specs.List.{AllByRecursion}
use Rattle.board_terms.specs.declared.op.Actor.TheVariants.{Clock}
use Rattle.board_core.specs.History.{Event}
use Rattle.board_terms.specs.Limits.{IsGood}
use Rattle.board_core.specs.Opening.{Opening, opening_at}
use Rattle.board_core.specs.Replies.{IsLegal}
use Rattle.board_lock.specs.Events.{ops_of}
use Rattle.guest_script.specs.Grammar.{Content, Empty, most_bytes, Program, Reads, Schedule, Trace, Written}
use Rattle.guest_programs.specs.declared.ends.End.{End}
use Rattle.guest_programs.specs.declared.ends.End.TheVariants.{GateLimit, Off, HistoryFull, Quiet, Stuck}
use Rattle.guest_programs.specs.Ends.{IsEnd}
use Rattle.guest_programs.specs.Programs.{AreFirst, blocks_of, ticks_of}
use Rattle.hart_threads.specs.Shares.{IsRun}
use Rattle.script_tasks.specs.declared.outcome.Outcome.TheVariants.{Good}
use Rattle.script_tasks.specs.Check.{agrees_text, EndsCheck}
use Rattle.sbiboard.specs.Inside.Fitting.{EventFits}
use Rattle.script_tasks.specs.Running.{Writes}
use Rattle.sbiboard.specs.Threaded.{EndsRun, Tasks, outcome_of, programmed, run_text}
use Rattle.script_tasks.proofs.ReadLines.{config_read}
use Rattle.sbiboard.proofs.RunAccepted.{run_accepted}

abbrev tasks : Content → Tasks
tasks content = record { blocks = blocks_of content; ticks = ticks_of content }

pub tasks-are : (content : Content) → is_some (programmed content) ≡ true → programmed content ≡ Some (tasks content)
tasks-are Empty is = refl
tasks-are (Program blocks clock) is = refl
tasks-are (Schedule lines) is = absurd (let t = is in cc)
tasks-are (Trace lines) is = absurd (let t = is in cc)

pub no-tasks : (content : Content) → is_some (programmed content) ≡ false → programmed content ≡ None
no-tasks Empty is = absurd (let t = is in cc)
no-tasks (Program blocks clock) is = absurd (let t = is in cc)
no-tasks (Schedule lines) is = refl
no-tasks (Trace lines) is = refl

-- the text of a run is a trace, if it isn't too long
abbrev IsAccepted : (past : List Event) (end : End) → Opening → Type 0
IsAccepted past end o = length (run_text o past end) ≤ most_bytes → EndsCheck (run_text o past end) Good (agrees_text (length past))

module _ (lets : ℕ → ℕ → Bool → Type 0) (bytes : List ℕ) (script : Written) (reads : Reads bytes script) (program : is_some (programmed script.content) ≡ true)
    (o : Opening) (opened : o ≡ opening_at script.config) (good : IsGood o.config) (past : List Event) (legal : IsLegal o past)
    (ticked : AreFirst (ticks_of script.content) (ops_of Clock (reverse past)))
    (fits : AllByRecursion EventFits (reverse past)) (old new : Option (List ℕ)) where
  ran : (end : End) → IsEnd end o past (blocks_of script.content) → IsRun lets o (blocks_of script.content) (ticks_of script.content) past end
      → EndsRun lets bytes (outcome_of end) (run_text o past end)
  ran end ended threads = inl (
    script.config,
    tasks script.content,
    record { script = script; reads = reads; config_is = refl; lines_are = tasks-are script.content program; good = rw opened at good },
    record {
      past = past;
      end = end;
      legal = rw opened at legal;
      ticked = ticked;
      threads = rw opened at threads;
      ended = rw opened at ended;
      outcome_is = refl;
      text_is = ap (λ (b : Opening). run_text b past end) opened;
      accepted = subst (λ (b : Opening). IsAccepted past end b) (sym opened)
          (run_accepted script.config past end (rw opened at good) (config_read bytes script reads) (rw opened at legal) fits);
    },
  )

  pub has_run : (end : End) → IsEnd end o past (blocks_of script.content) → IsRun lets o (blocks_of script.content) (ticks_of script.content) past end
      → Appends old new (run_text o past end) → Writes (EndsRun lets bytes) (outcome_of end) old new
  has_run GateLimit ended threads put = (run_text o past GateLimit, ran GateLimit ended threads, put)
  has_run Off ended threads put = (run_text o past Off, ran Off ended threads, put)
  has_run HistoryFull ended threads put = (run_text o past HistoryFull, ran HistoryFull ended threads, put)
  has_run Quiet ended threads put = (run_text o past Quiet, ran Quiet ended threads, put)
  has_run Stuck ended threads put = (run_text o past Stuck, ran Stuck ended threads, put)
