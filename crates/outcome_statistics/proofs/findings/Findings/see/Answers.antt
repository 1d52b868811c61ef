use Rattle.std.proofs.Common.{◌≡◌, ℕ, List, ◌∷◌, ap, subst, sym, ◌∙◌, length}
use Rattle.std.specs.Prelude.{None, reverse}
use Rattle.std.proofs.lemmas.List.{reverse-reverse, with_items_is}
use Rattle.board_terms.specs.declared.config.Config.{Config}
use Rattle.board_core.specs.History.{Event}
use Rattle.guest_programs.specs.declared.ends.End.TheVariants as ends
use Rattle.outcome_statistics.specs.declared.findings.Judged.{Judged}
use Rattle.outcome_statistics.specs.Findings.{EachTells}
use Rattle.outcome_statistics.specs.Visits.{Calls, Enters, IsWith}
use Rattle.outcome_statistics.proofs.Updates.{on-ok-by}
use Rattle.outcome_statistics.proofs.Visiting.{records-next, visited-next}
use Rattle.outcome_statistics.proofs.Words.{not-so, same-end}
use Rattle.outcome_statistics.proofs.findings.Findings.see.Goals as goal

pub returns-clause-found : goal.returns-clause-found
returns-clause-found c =
    let mine : c.deref_mut.result.now ≡ c.args.self.now.judged.items = c.deref_mut.ensures.value in
    let size : length c.judge_each.new.judged ≡ length c.args.self.now.judged.items = c.judge_each.ensures.many ∙ ap (λ (xs : List Judged). length xs) mine in
    let after = with_items_is c.args.self.now.judged c.judge_each.new.judged (size ∙ sym c.args.self.now.judged.ok.0) in
    let shown : c.history-events.result.now ≡ reverse c.args.board.now.past =
    sym (reverse-reverse c.history-events.result.now) ∙ ap (λ (xs : List Event). reverse xs) c.history-events.ensures.events in
    let harts : c.config.result.now.harts ≡ c.args.board.now.opening.config.harts = ap (λ (k : Config). k.harts) c.config.ensures.config in
    on-ok-by c.see-3.result _ _ c.see-3.ensures (λ sees tried x number events marks end found. record {
      many = ap (λ (xs : List Judged). length xs) after ∙ size ∙ found.many;
      each = subst (EachTells c.args.conditions.now (x ∷ tried)) (sym after)
          (c.judge_each.ensures.each tried x number (events ∙ sym shown) marks (end ∙ sym c.ending.ensures) (subst (EachTells c.args.conditions.now tried) (sym mine) found.each));
      well = c.see.ensures None tried x number (not-so c.is.result (same-end c.is.result c.args.end ends.Stuck x.end c.is.ensures end)) found.well;
      ends = c.see-2.ensures tried x end found.ends;
      records = records-next x c.history-events.result.now tried c.args.self.now.records _ c.in_ok-kept.kept (events ∙ sym shown) c.in_ok-kept.ensures c.in_ok-insert.ensures.updates found.records;
      visits = visited-next c.args.board.now.opening.config.harts x c.history-events.result.now tried c.args.self.now.visits _ (events ∙ sym shown)
          (subst (λ (n : ℕ). IsWith (Enters (reverse c.history-events.result.now)) (Calls n (reverse c.history-events.result.now)) c.args.self.now.visits c.see-3.new.self) harts sees) found.visits;
    })
