use Rattle.board_core.specs.Opening.{on}
use Rattle.tlb_watch.proofs.ready.Ready.call_effect.Goals as goal

pub returns-in-Srst : goal.returns-in-Srst
returns-in-Srst c = λ o past h ready. rw c.in-Srst.is (c.reset_effect.ensures (on c.args.config.now o) past h)
