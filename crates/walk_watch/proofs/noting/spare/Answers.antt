use Rattle.std.proofs.Common.{◌≡◌, not, rules}
use Rattle.std.specs.Prelude.{filter}
use Rattle.std.proofs.lemmas.Fn.{filter_same}
use Rattle.walk_watch.specs.Logged.{is_ordered}
use Rattle.walk_watch.proofs.noting.spare.Goals as goal

pub returns : goal.returns
returns c =
    let filtered : c.retain.new.self.items ≡ filter (λ former. not (is_ordered c.args.met c.args.hart c.args.flush former)) c.args.satps.now.items =
    filter_same _ _ _ (λ x b f' k. search rules) _ _ c.retain.ensures.filtered in
    filtered
