use Rattle.script_tasks.specs.Inside.Jobs.{Does, lines_for}
use Rattle.script_tasks.proofs.Stopped.{known_fault}
use Rattle.script_tasks.proofs.running.run.Goals as goal

pub returns-in-Err-clause-writes : goal.returns-in-Err-clause-writes
returns-in-Err-clause-writes g c =
    known_fault (lines_for c.args.job) (Does c.args.job) (g.W.Sink.written c.args.writer.now) (g.R.Source.left c.args.reader.now) c.in-Err.fault _ c.unread.ensures c.in-Err.ensures.script
