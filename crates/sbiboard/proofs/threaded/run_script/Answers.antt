use Rattle.std.proofs.Common.{Bool, List, ℕ}
use Rattle.script_tasks.specs.Running.{Writes}
use Rattle.sbiboard.specs.Threaded.{EndsRun, RunsOnThreads, programmed}
use Rattle.script_tasks.proofs.Stopped.{known_fault, known_read}
use Rattle.sbiboard.proofs.threaded.run_script.Goals as goal

pub returns-in-Ok-clause-writes : goal.returns-in-Ok-clause-writes
returns-in-Ok-clause-writes g c =
    let lets : ℕ → ℕ → Bool → Type 0 = g.G.Gate.lets c.args.gate.now in
    known_read (λ (bytes : List ℕ). Writes (EndsRun lets bytes) c.run_read.result (g.W.Sink.written c.args.writer.now) (g.W.Sink.written c.run_read.new.writer)) (g.S.Source.left c.args.reader.now)
    c.in-Ok.script c.in-Ok.ensures.script c.run_read.ensures.writes

pub returns-in-Err-clause-writes : goal.returns-in-Err-clause-writes
returns-in-Err-clause-writes g c =
    let lets : ℕ → ℕ → Bool → Type 0 = g.G.Gate.lets c.args.gate.now in
    known_fault programmed (RunsOnThreads lets) (g.W.Sink.written c.args.writer.now) (g.S.Source.left c.args.reader.now) c.in-Err.fault _ c.unread.ensures c.in-Err.ensures.script
