use Rattle.std.proofs.Common.{◌≡◌, [], List, ℕ, ap, subst, sym, ◌∙◌, rules}
use Rattle.hart_mask.specs.Ids.{IsIdSet}
use Rattle.hart_mask.proofs.Sets.{IsIdSet-ids_where}
use Rattle.board_lock.specs.Inside.Rests.{less}
use Rattle.board_lock.proofs.Sifting.{less-none, less-one}
use Rattle.board_lock.proofs.rests.less.Goals as goal

pub loop-h-preserved : goal.loop-h-preserved
loop-h-preserved c =
    let gone = c.remove.ensures in (
      subst IsIdSet (sym gone) (IsIdSet-ids_where _),
      ap (λ (ids : List ℕ). less ids c.pop_first.new.self) gone
          ∙ less-one c.loop-h.kept c.loop-h.left c.pop_first.new.self _ c.in-Some.h c.in-Some.ensures.lowest c.loop-h.invariant.1,
    )

pub returns : goal.returns
returns c =
    let none : c.loop-h.left ≡ [] = search rules in
    less-none c.loop-h.kept c.loop-h.invariant.0 ∙ ap (less c.loop-h.kept) (sym none) ∙ c.loop-h.invariant.1
