use Rattle.outcome_statistics.proofs.judgement.judgement_of.Goals as goal

pub returns-in-Some : goal.returns-in-Some
returns-in-Some c tried tells = rw c.in-Some.is (c.judged_by.ensures tried (rw c.in-Some.is at tells))
