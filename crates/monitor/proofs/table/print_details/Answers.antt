use Rattle.std.proofs.Common.{◌∙◌}
use Rattle.monitor.specs.Table.{details}
use Rattle.monitor.proofs.Known.{appends-next}
use Rattle.monitor.proofs.table.print_details.Goals as goal

pub loop-h-preserved : goal.loop-h-preserved
loop-h-preserved g c =
    let b = c.args.board.now in
    let put = c.in_ok-print_hart.ensures in
    (appends-next _ _ _ (details b.opening b.past) c.loop-h.h c.loop-h.invariant.0 put.0, put.1 ∙ c.loop-h.invariant.1)
