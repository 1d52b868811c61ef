-- What the run of a program on threads writes, and how it ends (profile).
use Rattle.std.specs.Prelude.{◌≡◌, ℕ, ◌≤◌, Bool, true, List, length, [], ◌∷◌, ◌++◌, codes, reverse, Option, Some, None, Ok}
use Rattle.board_terms.specs.declared.config.Config.{Config}
use Rattle.board_terms.specs.declared.op.Actor.TheVariants.{Clock}
use Rattle.board_core.specs.History.{Event}
use Rattle.board_core.specs.Opening.{Opening, opening_at}
use Rattle.board_core.specs.Replies.{IsLegal}
use Rattle.board_lock.specs.Events.{ops_of}
use Rattle.guest_script.specs.Grammar.{Content, Empty, most_bytes, Program, Schedule, Trace}
use Rattle.guest_programs.specs.Blocks.{in_blocks}
use Rattle.guest_programs.specs.declared.ends.End.{End}
use Rattle.guest_programs.specs.declared.ends.End.TheVariants as ends
use Rattle.guest_programs.specs.Ends.{IsEnd}
use Rattle.guest_programs.specs.Guests.{Next}
use Rattle.guest_programs.specs.Programs.{AreFirst}
use Rattle.hart_threads.specs.Shares.{IsRun}
use Rattle.monitor.specs.Table.{table}
use Rattle.printed_lines.specs.Words.{board_line_words, event_words, as_line}
use Rattle.script_tasks.specs.declared.outcome.Outcome.{Outcome}
use Rattle.script_tasks.specs.declared.outcome.Outcome.TheVariants.{Good, HistoryFull, Stuck}
use Rattle.script_tasks.specs.Check.{EndsCheck, agrees_text}
use Rattle.script_tasks.specs.Running.{EndsAs}

-- what a run takes of a program: what its guests do by their blocks, and the clock's ticks
pub record Tasks : Type 0 where
  pub blocks : Next
  pub ticks : List ℕ

-- the tasks of a program; an empty script is one without any
abbrev pub programmed : Content → Option Tasks
programmed Empty = Some (record { blocks = in_blocks []; ticks = [] })
programmed (Program blocks clock) = Some (record { blocks = in_blocks blocks; ticks = clock })
programmed (Schedule lines) = None
programmed (Trace lines) = None

-- each event with its reply
abbrev pub events_text : List Event → List ℕ
events_text [] = []
events_text (e ∷ es) = as_line (event_words e.actor e.op (Ok e.reply)) ++ events_text es

-- the name of an end
abbrev pub end_name : End → List ℕ
end_name ends.GateLimit = codes "gate-limit"
end_name ends.Off = codes "off"
end_name ends.HistoryFull = codes "history-full"
end_name ends.Quiet = codes "quiet"
end_name ends.Stuck = codes "stuck"

-- a comment of a trace that names the end
abbrev pub end_line : End → List ℕ
end_line end = codes "# end " ++ (end_name end ++ 10 ∷ [])

-- The board line, the record's events in their order, the table of the board after them, and the end.
abbrev pub run_text : Opening → List Event → End → List ℕ
run_text o past end = as_line (board_line_words o.config) ++ (events_text (reverse past) ++ (table o past ++ end_line end))

-- The outcome with each end. The program's own gate is always open.
abbrev pub outcome_of : End → Outcome
outcome_of ends.GateLimit = Stuck
outcome_of ends.Off = Good
outcome_of ends.HistoryFull = HistoryFull
outcome_of ends.Quiet = Good
outcome_of ends.Stuck = Stuck

-- What the run of a program writes with each outcome, if its gate may give these answers. The record is a legal history, in
-- which the clock did the first of its ticks in order; it shows what its threads did, why each stopped, and how the run ended.
-- If the text isn't too long, it is a trace, and its check says that as many lines agree as there are events.
pub record RunsOnThreads (lets : ℕ → ℕ → Bool → Type 0) (c : Config) (tasks : Tasks) (outcome : Outcome)
    (text : List ℕ) : Type 0 where
  pub past : List Event
  pub end : End
  pub legal : IsLegal (opening_at c) past
  pub ticked : AreFirst tasks.ticks (ops_of Clock (reverse past))
  pub threads : IsRun lets (opening_at c) tasks.blocks tasks.ticks past end
  pub ended : IsEnd end (opening_at c) past tasks.blocks
  pub outcome_is : outcome ≡ outcome_of end
  pub text_is : text ≡ run_text (opening_at c) past end
  pub accepted : length text ≤ most_bytes → EndsCheck text Good (agrees_text (length past))

-- The answers of a gate that is always open.
abbrev pub open_lets : ℕ → ℕ → Bool → Type 0
open_lets actor ordinal may = may ≡ true

-- What the run of bytes writes with each outcome.
abbrev pub EndsRun : (lets : ℕ → ℕ → Bool → Type 0) → List ℕ → Outcome → List ℕ → Type 0
EndsRun lets bytes outcome text = EndsAs programmed (RunsOnThreads lets) bytes outcome text
