use Rattle.std.proofs.Common.{sym, ap, ◌∙◌, nat_eq}
use Rattle.std.proofs.lemmas.Nat.Bits.{shr_and_one}
use Rattle.hart_mask.specs.Bits.{is_set}
use Rattle.hart_mask.specs.Ids.{has}
use Rattle.hart_mask.proofs.Sets.{IsIdSet-ids_where, has-ids_where}
use Rattle.hart_mask.proofs.hart_set.HartSet.contains.Goals as goal

pub returns-clause-answer : goal.returns-clause-answer
returns-clause-answer c =
    ap (λ b. nat_eq b 1) (shr_and_one c.self.inside.bits c.args.id)
    ∙ sym (has-ids_where (is_set c.self.inside.bits) c.args.id c.requires)
    ∙ ap (λ ids. has ids c.args.id) c.self.view_is

pub returns-clause-whole : goal.returns-clause-whole
returns-clause-whole c = rw (← c.self.view_is) (IsIdSet-ids_where (is_set c.self.inside.bits))
