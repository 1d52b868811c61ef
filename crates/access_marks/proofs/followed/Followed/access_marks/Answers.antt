use Rattle.std.proofs.Common.{subst}
use Rattle.std.specs.Prelude.{◌↔◌, IsTrue}
use Rattle.any_tlb.specs.Stale.{IsStale}
use Rattle.any_tlb.specs.Steady.{IsSteadyReach}
use Rattle.access_marks.specs.Inside.Following.{Following}
use Rattle.access_marks.proofs.Following.{not-false}
use Rattle.access_marks.proofs.followed.Followed.access_marks.Goals as goal

pub returns-clause-marked : goal.returns-clause-marked
returns-clause-marked c = λ event uses.
    let f = c.args.self.now in
    record {
      stale = subst (λ (f : Following). IsTrue c.is_stale-stale.result ↔ IsStale f.course.opening f.course.past c.args.at.hart event (record { va = c.args.at.address; access = c.args.access })) c.self.view_is
          (c.is_stale-stale.ensures event uses);
      missed = c.in_ok-missed.ensures.missed event uses;
      steady = not-false c.is_steady-unsteady.result (IsSteadyReach f.course.opening f.course.past c.args.at.hart (record { va = c.args.at.address; access = c.args.access })) c.is_steady-unsteady.ensures;
    }

pub returns-clause-walks : goal.returns-clause-walks
returns-clause-walks c = λ asked. record {
  firm = c.in_ok-unfirm.ensures.firm asked;
  lenient = c.in_ok-unfirm.ensures.lenient asked;
}
