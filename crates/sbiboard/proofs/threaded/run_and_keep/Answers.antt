use Rattle.std.proofs.Common.{List, ℕ, ◌∙◌}
use Rattle.std.proofs.lemmas.Result.{IfOk-weaker}
use Rattle.script_tasks.specs.Running.{Writes}
use Rattle.sbiboard.specs.Threaded.{EndsRun, RunsOnThreads, open_lets, programmed}
use Rattle.script_tasks.proofs.Stopped.{known_fault, known_read}
use Rattle.sbiboard.proofs.threaded.run_and_keep.Goals as goal

pub returns-in-Ok-clause-writes : goal.returns-in-Ok-clause-writes
returns-in-Ok-clause-writes g c =
    let known = g.W.Sink.written c.args.writer.now in
    let later = g.W.Sink.written c.keep_read.new.writer in
    IfOk-weaker c.keep_read.result _ _
    (λ run writes. known_read (λ (bytes : List ℕ). Writes (EndsRun open_lets bytes) run.outcome known later) (g.S.Source.left c.args.reader.now) c.in-Ok.script c.in-Ok.ensures.script writes)
    c.keep_read.ensures.writes

pub returns-in-Err-clause-writes : goal.returns-in-Err-clause-writes
returns-in-Err-clause-writes g c =
    known_fault programmed (RunsOnThreads open_lets) (g.W.Sink.written c.args.writer.now) (g.S.Source.left c.args.reader.now) c.in-Err.fault _
    (c.unkept.ensures ∙ c.unread.ensures) c.in-Err.ensures.script
