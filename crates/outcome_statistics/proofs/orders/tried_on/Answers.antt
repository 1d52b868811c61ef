use Rattle.guest_script.specs.Grammar.{content}
use Rattle.outcome_statistics.proofs.Finding.{same-task}
use Rattle.outcome_statistics.proofs.orders.tried_on.Goals as goal

pub returns : goal.returns
returns c =
    let body = content c.args.batch.now.script.now.body in
    c.each_tried.ensures body (same-task c.in_ok-program.program body c.in_ok-program.ensures.blocks c.in_ok-program.ensures.ticks)
