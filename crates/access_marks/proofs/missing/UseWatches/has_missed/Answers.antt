use Rattle.std.proofs.Common.{◌≡◌, ◌<◌, List, subst, sym, ap, ◌∙◌}
use Rattle.std.specs.List.{All}
use Rattle.std.proofs.lemmas.List.Elements.{All-push}
use Rattle.board_core.specs.History.{Event}
use Rattle.board_core.specs.Opening.{Opening, opening_at}
use Rattle.access_marks.specs.declared.entry_use.EntryUse.{EntryUse}
use Rattle.access_marks.specs.declared.use_watch.UseWatch.{UseWatch}
use Rattle.access_marks.specs.Inside.Missing.{IsKept, IsWatch}
use Rattle.access_marks.proofs.missing.UseWatches.has_missed.Goals as goal

pub returns-clause-kept : goal.returns-clause-kept
returns-clause-kept c =
    let b = c.args.board.now in
    let w : UseWatch = c.in_ok-watch.watch in
    let first : b.opening ≡ opening_at c.config.result.now = c.requires.first ∙ ap opening_at (sym c.config.ensures.config) in
    subst (λ (l : List UseWatch). All (IsKept b.opening b.past) l) (sym c.in_ok-push.ensures.items)
    (All-push (IsKept b.opening b.past) c.args.self.now.watches.items w c.requires.kept (record {
      present = subst (λ (of : EntryUse). of.at.hart < b.opening.config.harts) (sym c.in_ok-watch.ensures.of) c.requires.present;
      watch = subst (λ (o : Opening). IsWatch o b.past w) (sym first)
          (subst (λ (es : List Event). IsWatch (opening_at c.config.result.now) es w) c.history.ensures.events c.in_ok-watch.ensures.watch);
    }))
