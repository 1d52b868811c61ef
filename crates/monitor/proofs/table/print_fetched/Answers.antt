use Rattle.std.proofs.Common.{◌≡◌, ◌++◌, ◌∙◌, [], append-nil, sym, ap, rules}
use Rattle.std.specs.Prelude.{reverse}
use Rattle.board_core.specs.Memory.{caches_of}
use Rattle.monitor.specs.Table.{word_line}
use Rattle.monitor.proofs.Caches.{lines_kept}
use Rattle.monitor.proofs.table.print_fetched.Goals as goal

pub returns : goal.returns
returns g c =
    let fills = (caches_of c.args.board.now.opening c.args.board.now.past c.args.h).words.live in
    let none : c.loop-fill.fill-iterator ≡ [] = search rules in
    let all : reverse c.loop-fill.yielded ≡ fills = ap reverse (sym (append-nil c.loop-fill.yielded) ∙ ap (λ rest. c.loop-fill.yielded ++ rest) (sym none)) ∙ c.loop-fill.invariant.0 in
    rw (← lines_kept c.loop-fill.yielded fills all (word_line c.args.h)) (c.loop-fill.invariant.1, c.loop-fill.invariant.2)
