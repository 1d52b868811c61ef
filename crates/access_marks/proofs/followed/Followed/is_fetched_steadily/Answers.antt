use Rattle.std.proofs.Common.{◌≡◌, true, refl, sym, subst}
use Rattle.std.specs.Prelude.{◌↔◌}
use Rattle.hart_access.specs.declared.accesses.Access.{Access}
use Rattle.any_tlb.specs.Steady.{IsSteadyFetch}
use Rattle.access_marks.proofs.followed.Followed.is_fetched_steadily.Goals as goal

pub returns-in-Fetch : goal.returns-in-Fetch
returns-in-Fetch c =
    let f = c.args.self.now in
    subst (λ (access : Access). (c.is_word_steady.result ≡ true) ↔ IsSteadyFetch f.course.opening f.course.past c.args.at.hart (record { va = c.args.at.address; access = access })) (sym c.in-Fetch.is)
    c.is_word_steady.ensures

pub returns-in_default : goal.returns-in_default
returns-in_default c = ((λ good fetch. absurd (c.in_default.not-Fetch fetch)), (λ steady. refl))
