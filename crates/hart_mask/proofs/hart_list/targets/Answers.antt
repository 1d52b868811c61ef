use Rattle.std.proofs.Common.{ap, sym, ◌∙◌}
use Rattle.std.specs.Prelude.{Some}
use Rattle.hart_mask.specs.Ids.{has}
use Rattle.hart_mask.proofs.Naming.{ids_below-below, named_by-below, targets_of-all, targets_of-named, targets_of-outside, targets_of-stray}
use Rattle.hart_mask.proofs.hart_list.targets.Goals as goal
use Rattle.hart_mask.proofs.hart_list.targets.Goals.{then-base-n-via-then-base-n, then-base-n-via-else-base-n+then-has_stray}

pub returns-then-base-eq18446744073709551615-clause-answer : goal.returns-then-base-eq18446744073709551615-clause-answer
returns-then-base-eq18446744073709551615-clause-answer c =
    targets_of-all c.args.mask c.args.base c.args.n c.if-base-eq18446744073709551615.true ∙ sym (ap (λ ids. Some ids) c.below.ensures)

pub returns-then-base-eq18446744073709551615-clause-below : goal.returns-then-base-eq18446744073709551615-clause-below
returns-then-base-eq18446744073709551615-clause-below c id is =
    ids_below-below c.args.n id (sym (ap (λ ids. has ids id) c.below.ensures) ∙ is)

pub returns-then-base-n-clause-answer : goal.returns-then-base-n-clause-answer
returns-then-base-n-clause-answer c = elim c.then-base-n.branch [
  | then-base-n-via-then-base-n w ↦
      targets_of-outside c.args.mask c.args.base c.args.n c.if-base-eq18446744073709551615.false w.if-base-n.true
  | then-base-n-via-else-base-n+then-has_stray w ↦
      targets_of-stray c.args.mask c.args.base c.args.n c.if-base-eq18446744073709551615.false (sym w.has_stray.ensures ∙ w.if-has_stray.true)
]

pub returns-clause-answer : goal.returns-clause-answer
returns-clause-answer c =
    targets_of-named c.args.mask c.args.base c.args.n c.if-base-eq18446744073709551615.false c.if-base-n.false (sym c.has_stray.ensures ∙ c.if-has_stray.false)
    ∙ sym (ap (λ ids. Some ids) c.named_by.ensures)

pub returns-clause-below : goal.returns-clause-below
returns-clause-below c id is =
    named_by-below c.args.mask c.args.base c.args.n id c.ranges.mask.fits (sym c.has_stray.ensures ∙ c.if-has_stray.false) (sym (ap (λ ids. has ids id) c.named_by.ensures) ∙ is)
