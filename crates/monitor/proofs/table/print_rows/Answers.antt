use Rattle.std.proofs.Common.{◌∙◌}
use Rattle.monitor.specs.Table.{hart_cells, row}
use Rattle.monitor.proofs.Known.{appends-next}
use Rattle.monitor.proofs.table.print_rows.Goals as goal

pub loop-h-preserved : goal.loop-h-preserved
loop-h-preserved g c =
    let b = c.args.board.now in
    let put = c.in_ok-put.ensures.puts (hart_cells b.opening b.past c.loop-h.h) c.hart_line.ensures.text in
    (appends-next _ _ _ (row b.opening b.past) c.loop-h.h c.loop-h.invariant.0 put.0, put.1 ∙ c.loop-h.invariant.1)
