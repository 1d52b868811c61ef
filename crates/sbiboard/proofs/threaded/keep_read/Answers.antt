use Rattle.std.proofs.Common.{sym, subst}
use Rattle.sbiboard.specs.Threaded.{EndsRun, open_lets}
use Rattle.script_tasks.specs.Running.{Writes}
use Rattle.script_tasks.specs.declared.outcome.Outcome.{Outcome}
use Rattle.sbiboard.proofs.threaded.keep_read.Goals as goal

pub returns-then-not-is_program-clause-writes : goal.returns-then-not-is_program-clause-writes
returns-then-not-is_program-clause-writes g c bytes reads =
    subst (λ (outcome : Outcome). Writes (EndsRun open_lets bytes) outcome (g.W.Sink.written c.args.writer.now) (g.W.Sink.written c.run_read.new.writer))
    (sym c.unkept.ensures) (c.run_read.ensures.writes bytes reads)
