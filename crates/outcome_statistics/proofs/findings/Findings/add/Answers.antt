use Rattle.std.proofs.Common.{◌≡◌, List, ◌++◌, ap, subst, sym, ◌∙◌, length}
use Rattle.std.specs.Prelude.{None}
use Rattle.std.proofs.lemmas.List.{with_items_is}
use Rattle.outcome_statistics.specs.declared.findings.Judged.{Judged}
use Rattle.outcome_statistics.specs.Findings.{EachTells}
use Rattle.outcome_statistics.proofs.Updates.{on-ok-by}
use Rattle.outcome_statistics.proofs.Visiting.{records-both}
use Rattle.outcome_statistics.proofs.findings.Findings.add.Goals as goal

pub returns : goal.returns
returns c =
    let mine : c.deref_mut.result.now ≡ c.args.self.now.judged.items = c.deref_mut.ensures.value in
    let its : c.deref.result.now ≡ c.args.later.judged.items = c.deref.ensures.value in
    let size : length c.add_each.new.judged ≡ length c.args.self.now.judged.items = c.add_each.ensures.many ∙ ap (λ (xs : List Judged). length xs) mine in
    let after = with_items_is c.args.self.now.judged c.add_each.new.judged (size ∙ sym c.args.self.now.judged.ok.0) in
    on-ok-by c.append.result _ _ c.append.ensures.inserts_all (λ inserts harts asked tried more here there.
    let one : length c.deref_mut.result.now ≡ length asked = ap (λ (xs : List Judged). length xs) mine ∙ here.many in
    let other : length c.deref.result.now ≡ length asked = ap (λ (xs : List Judged). length xs) its ∙ there.many in
    record {
      many = ap (λ (xs : List Judged). length xs) after ∙ size ∙ here.many;
      each = subst (EachTells asked (more ++ tried)) (sym after)
          (c.add_each.ensures.each asked tried more one other (subst (EachTells asked tried) (sym mine) here.each) (subst (EachTells asked more) (sym its) there.each));
      well = c.add.ensures None tried more here.well there.well;
      ends = c.add-2.ensures tried more here.ends there.ends;
      records = records-both tried more c.args.self.now.records c.args.later.records _ inserts here.records there.records;
      visits = c.in_ok-add.ensures harts tried more here.visits there.visits;
    })
