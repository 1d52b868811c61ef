use Rattle.std.proofs.Common.{◌≡◌, ◌==◌, ℕ, List, [], ◌∷◌, ◌++◌, rules, ap, ◌∙◌}
use Rattle.std.specs.Prelude.{filter, not}
use Rattle.std.proofs.lemmas.Fn.{filter_same}
use Rattle.access_marks.proofs.use_watch.put.Goals as goal

pub returns : goal.returns
returns c =
    let filtered : c.retain.new.self.items ≡ filter (λ y. not (y == c.args.hart)) c.args.harts.now.items =
    filter_same _ _ _ (λ x b f' k. search rules) _ _ c.retain.ensures.filtered in
    c.in_ok-push.ensures.items ∙ ap (λ (l : List ℕ). l ++ c.args.hart ∷ []) filtered
