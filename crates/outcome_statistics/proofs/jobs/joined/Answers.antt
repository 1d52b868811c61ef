use Rattle.std.proofs.Common.{◌≡◌, ℕ, ◌+◌, List, ◌∷◌, ap, subst, length, arith}
use Rattle.std.specs.Prelude.{Result, IfOk}
use Rattle.std.specs.Vec.Iter.{into_iter_items}
use Rattle.guest_script.specs.Grammar.{content, Content}
use Rattle.guest_programs.specs.declared.ends.RunFault.{RunFault}
use Rattle.outcome_statistics.specs.declared.findings.Findings.{Findings}
use Rattle.outcome_statistics.specs.Findings.{AreFoundOf}
use Rattle.outcome_statistics.specs.Inside.Shares.{AreShares, edge}
use Rattle.outcome_statistics.proofs.Finding.{found-both}
use Rattle.outcome_statistics.proofs.jobs.joined.Goals as goal

pub loop-tried-preserved : goal.loop-tried-preserved
loop-tried-preserved c =
    let at = c.loop-tried in
    let i : ℕ = at.invariant.1.0 in
    let body : Content = content c.args.batch.now.script.now.body in
    let edges : ℕ → ℕ = edge c.args.batch.now.from c.args.batch.now.to c.args.share in
    let steps : into_iter_items at.tried-iterator ≡ c.in-Some.tried ∷ into_iter_items c.next.new.self = c.in-Some.ensures.steps.0 in
    let short = ap (λ (xs : List (Result Findings RunFault)). length xs) steps in
    let shares = subst (λ xs. AreShares c.args.batch.now.script.now.config body c.args.batch.now.conditions.now c.args.batch.now.seed edges i xs) steps at.invariant.1.2 in
    let Q : Result Findings RunFault → Type 0 = λ r. IfOk r (AreFoundOf c.args.batch.now.script.now.config body c.args.batch.now.conditions.now c.args.batch.now.seed (edges i) (edges (i + 1))) in
    let here = subst Q c.in_ok-more.was shares.0.found in (
      (let was = at.invariant.0 in let gone = c.in-Some.ensures.steps.1 in omega arith),
      (
        i + 1,
        (let count = at.invariant.1.1 in omega arith),
        shares.1,
        found-both c.args.batch.now.script.now.config body c.args.batch.now.conditions.now c.args.batch.now.seed c.args.batch.now.from (edges i) (edges (i + 1)) at.found c.in_ok-more.more c.add.new.self
            c.in_ok-add.ensures at.invariant.1.3 here,
      ),
    )
