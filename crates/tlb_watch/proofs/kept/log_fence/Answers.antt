use Rattle.std.proofs.Common.{◌≡◌, not, List, [], ◌∷◌, ◌++◌, rules, ap, ◌∙◌}
use Rattle.std.specs.Prelude.{filter}
use Rattle.std.proofs.lemmas.Fn.{filter_same}
use Rattle.any_tlb.specs.declared.watcher.Walking.{Walking}
use Rattle.any_tlb.specs.declared.watcher.Walking.TheVariants.{Fenced}
use Rattle.tlb_watch.specs.Kept.{is_fence}
use Rattle.tlb_watch.proofs.Giving.{if-ok}
use Rattle.tlb_watch.proofs.kept.log_fence.Goals as goal

pub returns : goal.returns
returns c =
    let old = c.args.walks.now.items.items in
    let filtered : c.retain.new.self.items ≡ filter (λ walking. not (is_fence c.args.flush walking)) old =
    filter_same _ _ _ (λ x b f' k. search rules) _ _ c.retain.ensures.filtered in
    if-ok c.fence.result _ _ (λ done is. is ∙ ap (λ (l : List Walking). l ++ Fenced c.args.flush ∷ []) filtered) c.fence.ensures
