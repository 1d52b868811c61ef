use Rattle.std.proofs.Common.{◌<◌, sym, ap, ◌∙◌, arith}
use Rattle.hart_mask.specs.Bits.{is_set}
use Rattle.hart_mask.specs.Ids.{ids_where}
use Rattle.hart_mask.proofs.Changes.{ids-lowest, lowest-cleared, no_ids}
use Rattle.hart_mask.proofs.hart_set.HartSet.pop_first.Goals as goal

pub returns-then-self-eq0-clause-lowest : goal.returns-then-self-eq0-clause-lowest
returns-then-self-eq0-clause-lowest c =
    let none = sym c.self.view_is ∙ ap (λ n. ids_where (is_set n)) c.if-self-eq0.true ∙ no_ids in
    (none, none)

pub returns-clause-lowest : goal.returns-clause-lowest
returns-clause-lowest c =
    let n = c.self.inside.bits in
    let positive : 0 < n = omega arith in
    rw (c.from-id.ensures, lowest-cleared n positive c.self.invariant, ← c.self.view_is) (ids-lowest n positive c.self.invariant)
