use Rattle.std.proofs.Common.{◌≡◌, subst}
use Rattle.std.specs.Prelude.{Some}
use Rattle.outcome_statistics.specs.Visits.{IsWith, entry_at}
use Rattle.outcome_statistics.proofs.Visiting.{with-step}
use Rattle.outcome_statistics.proofs.visits.Visits.see_step.Goals as goal

pub returns-clause-seen : goal.returns-clause-seen
returns-clause-seen c =
    let first = subst (λ r. IsWith (λ addr. entry_at r ≡ Some addr) (λ spot fails. ⊥) c.args.self.now c.see_entry.new.self) c.reply.ensures c.in_ok-see_entry.ensures in
    with-step c.args.guest c.args.event.now c.args.self.now c.see_entry.new.self c.see_call.new.self first c.in_ok-see_call.ensures
