use Rattle.std.proofs.Common.{ℕ, Bool, Err, sym, ap, subst, ◌∙◌, rules}
use Rattle.guest_script.specs.Grammar.{content, written}
use Rattle.script_tasks.specs.declared.outcome.Outcome.{Outcome}
use Rattle.script_tasks.specs.declared.outcome.Outcome.TheVariants.{BadBoard, WrongKind}
use Rattle.script_tasks.specs.Running.{Writes}
use Rattle.sbiboard.specs.Threaded.{EndsRun, RunsOnThreads, programmed}
use Rattle.sbiboard.proofs.Ran.{tasks-are, has_run, no-tasks}
use Rattle.script_tasks.proofs.Stopped.{bad_board, writes_stopped}
use Rattle.sbiboard.proofs.threaded.run_read.Goals as goal

pub returns-then-not-is_program-clause-writes : goal.returns-then-not-is_program-clause-writes
returns-then-not-is_program-clause-writes g c bytes reads =
    let lets : ℕ → ℕ → Bool → Type 0 = g.G.Gate.lets c.args.gate.now in
    writes_stopped programmed bytes (RunsOnThreads lets) (g.W.Sink.written c.args.writer.now) WrongKind
    (written c.args.script.now, reads, no-tasks (content c.args.script.now.body) (sym c.is_program.ensures ∙ (search rules)))

pub returns-in-Ok-print_run-clause-writes : goal.returns-in-Ok-print_run-clause-writes
returns-in-Ok-print_run-clause-writes g c bytes reads =
    let lets : ℕ → ℕ → Bool → Type 0 = g.G.Gate.lets c.args.gate.now in
    let known = g.W.Sink.written c.args.writer.now in
    let run = c.in-Ok.ensures in
    subst (λ (outcome : Outcome). Writes (EndsRun lets bytes) outcome known (g.W.Sink.written c.print_run.new.writer)) (sym c.outcome_of.ensures)
    (has_run lets bytes (written c.args.script.now) reads (sym c.is_program.ensures ∙ (search rules))
    c.in-Ok.run'.board.opening run.opening c.print_run.ensures.good c.in-Ok.run'.board.past run.legal run.ticks
    c.in-Ok-print_run.ensures.fits known (g.W.Sink.written c.print_run.new.writer) c.in-Ok.run'.end run.end run.threads c.in-Ok-print_run.ensures.text.0)

pub returns-in-Err-BadConfig-clause-writes : goal.returns-in-Err-BadConfig-clause-writes
returns-in-Err-BadConfig-clause-writes g c bytes reads =
    let lets : ℕ → ℕ → Bool → Type 0 = g.G.Gate.lets c.args.gate.now in
    writes_stopped programmed bytes (RunsOnThreads lets) (g.W.Sink.written c.args.writer.now) BadBoard
    (bad_board programmed bytes (written c.args.script.now) _ reads
    (tasks-are (content c.args.script.now.body) (sym c.is_program.ensures ∙ (search rules))) (c.in-Err-BadConfig.ensures.bad.0 (ap (λ f. Err f) c.in-Err-BadConfig.field-0-is)))
