use Rattle.std.proofs.Common.{refl, sym, ◌∙◌}
use Rattle.outcome_statistics.proofs.Visiting.{no-entry, with-entry}
use Rattle.outcome_statistics.proofs.visits.Visits.see_entry.Goals as goal

pub returns-in_ok-insert-in-Some : goal.returns-in_ok-insert-in-Some
returns-in_ok-insert-in-Some c = with-entry c.args.reply c.in-Some.addr c.args.self.now _ (sym c.entry_at.ensures ∙ c.in-Some.is) c.in_ok-insert-in-Some.ensures.updates refl refl

pub returns-in-None : goal.returns-in-None
returns-in-None c = no-entry c.args.reply c.args.self.now (sym c.entry_at.ensures ∙ c.in-None.is)
