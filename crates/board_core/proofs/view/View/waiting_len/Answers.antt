use Rattle.std.proofs.Common.{length, ap, ◌∙◌, arith}
use Rattle.board_machine.proofs.Situations.{queue-read}
use Rattle.board_core.proofs.Viewed.{viewed}
use Rattle.board_core.proofs.view.View.waiting_len.Goals as goal

pub len-requires : goal.len-requires
len-requires c =
    let v = viewed c.self.view_is c.self.invariant in
    omega (arith, c.requires, v.sized.queues)

pub returns-clause-count : goal.returns-clause-count
returns-clause-count c =
    let v = viewed c.self.view_is c.self.invariant in
    c.len.ensures.count ∙ ap length (queue-read _ _ _ v.stands.fences c.args.h c.requires)

pub returns-clause-limit : goal.returns-clause-limit
returns-clause-limit c =
    let v = viewed c.self.view_is c.self.invariant in
    omega (arith, c.len.ensures.limit, v.sized.queues)
