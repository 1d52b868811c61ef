use Rattle.outcome_statistics.proofs.Updates.{on-ok-any}
use Rattle.outcome_statistics.proofs.Visiting.{visited-both}
use Rattle.outcome_statistics.proofs.visits.Visits.add.Goals as goal

pub returns : goal.returns
returns c = on-ok-any c.append-4.result _ (λ harts tried more here there.
    visited-both harts tried more c.args.self.now c.args.later.now _ c.in_ok-append.ensures.inserts_all c.in_ok-append-2.ensures.inserts_all c.in_ok-append-3.ensures.inserts_all here there)
