use Rattle.std.proofs.Common.{◌≡◌, ◌∷◌, ◌∙◌, false, subst, length, get_or, arith}
use Rattle.std.specs.Prelude.{None}
use Rattle.std.proofs.lemmas.List.{length-set}
use Rattle.std.proofs.lemmas.Option.{get_or_from_slice_get, slice_get-get_or, slice_get_within}
use Rattle.conditions.specs.Condition.{Condition}
use Rattle.outcome_statistics.specs.declared.findings.Judged.{Judged}
use Rattle.outcome_statistics.specs.Findings.{IsFoundFor}
use Rattle.outcome_statistics.proofs.Meeting.{are-met-next}
use Rattle.outcome_statistics.proofs.Updates.{kept-next, tally-next}
use Rattle.outcome_statistics.proofs.findings.judge_each.Goals as goal

pub judge-requires : goal.judge-requires
judge-requires c = λ asks.
    c.requires.marks (c.loop-i.i, _, slice_get-get_or c.args.conditions.now c.loop-i.i c.index-conditions-i.result (let below = c.loop-i-test.true in omega arith), asks)

pub see_needs-requires : goal.see_needs-requires
see_needs-requires c = λ asks.
    c.requires.marks (c.loop-i.i, _, slice_get-get_or c.args.conditions.now c.loop-i.i c.index-conditions-i.result (let below = c.loop-i-test.true in omega arith), asks)

pub loop-i-preserved : goal.loop-i-preserved
loop-i-preserved c =
    let at = c.loop-i in
    let many : length at.judged ≡ length c.args.conditions.now = at.invariant.0 ∙ c.requires.many in
    let below = c.loop-i-test.true in
    let d : Judged = record { tally = record { holding = 0; failing = 0; first = None }; met = record { first = false; second = false } } in
    let v : Judged = record { tally = c.judge.new.tally; met = c.see_needs.new.met } in (
      length-set at.judged at.i v ∙ at.invariant.0,
      (λ tried x number events marks end each.
          let Q : Condition → Type 0 = λ r. IsFoundFor r.rule tried (get_or at.judged at.i d) → IsFoundFor r.rule (x ∷ tried) v in
          tally-next c.args.conditions.now at.judged c.args.judged.now at.i d v tried (x ∷ tried) (omega arith) each at.invariant.2
          (λ k is told. subst Q (get_or_from_slice_get c.args.conditions.now at.i k c.index-conditions-i.result is) (λ judged. (
            c.judge.ensures tried x number events marks end judged.0,
            are-met-next (get_or c.args.conditions.now at.i c.index-conditions-i.result).rule x tried _ _ (c.see_needs.ensures.first x events marks) (c.see_needs.ensures.second x events marks) judged.1,
          )) told)
          (at.invariant.1 tried x number events marks end each)),
      kept-next at.judged c.args.judged.now at.i v (omega arith) at.invariant.2,
    )

pub returns-clause-each : goal.returns-clause-each
returns-clause-each c tried x number events marks end each k asked j is at =
    let within = slice_get_within c.args.conditions.now k asked is in
    let over = c.loop-i-test.false in
    c.loop-i.invariant.1 tried x number events marks end each k j (omega arith) at asked is
