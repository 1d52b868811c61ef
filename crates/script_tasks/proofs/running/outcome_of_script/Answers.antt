use Rattle.std.proofs.Common.{Err, sym, ap}
use Rattle.guest_script.specs.Grammar.{written}
use Rattle.script_tasks.specs.Inside.Jobs.{Does, lines_for}
use Rattle.script_tasks.specs.declared.outcome.Outcome.TheVariants.{BadBoard}
use Rattle.script_tasks.proofs.Stopped.{bad_board, writes_stopped}
use Rattle.script_tasks.proofs.ReadLines.{are_read}
use Rattle.script_tasks.proofs.running.outcome_of_script.Goals as goal

pub returns-in-Err-BadConfig-clause-writes : goal.returns-in-Err-BadConfig-clause-writes
returns-in-Err-BadConfig-clause-writes g c bytes reads =
    writes_stopped (lines_for c.args.job) bytes (Does c.args.job) (g.W.Sink.written c.args.writer.now) BadBoard
    (bad_board (lines_for c.args.job) bytes (written c.args.script) c.in-Some.lines reads
    (sym c.in-Some.ensures) (c.in-Err-BadConfig.ensures.bad.0 (ap (λ f. Err f) c.in-Err-BadConfig.field-0-is)))

pub run_lines-requires-clause-read : goal.run_lines-requires-clause-read
run_lines-requires-clause-read g c =
    let (bytes, reads) = c.requires.read in
    are_read c.args.job bytes (written c.args.script) c.in-Some.lines reads c.in-Some.ensures c.in-Ok.ensures.made.0
