use Rattle.std.proofs.Common.{◌∙◌}
use Rattle.board_core.specs.Memory.{caches_of}
use Rattle.monitor.proofs.Caches.{count_kept}
use Rattle.monitor.proofs.table.word_count.Goals as goal

pub returns : goal.returns
returns c = c.len.ensures.value ∙ count_kept _ (caches_of c.args.board.now.opening c.args.board.now.past c.args.h).words.live c.fetched.ensures
