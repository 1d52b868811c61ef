use Rattle.std.proofs.Common.{◌≡◌, not, List, [], ◌∷◌, ◌++◌, rules, ap, ◌∙◌}
use Rattle.std.specs.Prelude.{filter}
use Rattle.std.proofs.lemmas.Fn.{filter_same}
use Rattle.walk_watch.specs.declared.former.FormerSatp.{FormerSatp}
use Rattle.walk_watch.specs.Logged.{is_same_satp}
use Rattle.walk_watch.proofs.noting.put_one.Goals as goal

pub returns : goal.returns
returns c =
    let filtered : c.retain.new.self.items ≡ filter (λ other. not (is_same_satp other c.args.former)) c.args.satps.now.items =
    filter_same _ _ _ (λ x b f' k. search rules) _ _ c.retain.ensures.filtered in
    c.in_ok-push.ensures.items ∙ ap (λ (l : List FormerSatp). l ++ c.args.former ∷ []) filtered
