use Rattle.std.proofs.Common.{◌<◌, length, arith}
use Rattle.std.proofs.lemmas.Option.{slice_get_within}
use Rattle.marked_conditions.specs.Marked.{asks_of_walks}
use Rattle.outcome_statistics.proofs.Asking.{none-asks-next}
use Rattle.outcome_statistics.proofs.marking.ask_of_walks.Goals as goal

pub loop-condition-preserved : goal.loop-condition-preserved
loop-condition-preserved c =
    none-asks-next asks_of_walks c.args.conditions.now c.loop-condition.condition-index c.condition-item.result c.asks_of_walks.result c.condition-item.is
    c.asks_of_walks.ensures c.if-asks_of_walks.false c.loop-condition.invariant

pub returns : goal.returns
returns c ask =
    let within : ask.0 < length c.args.conditions.now = slice_get_within c.args.conditions.now ask.0 ask.1 ask.2 in
    absurd (c.loop-condition.invariant ask.0 (let over = c.loop-condition-test.false in omega arith) ask.1 ask.2 ask.3)
