use Rattle.std.proofs.Common.{◌++◌, ◌∙◌, arith}
use Rattle.std.specs.Prelude.{Some}
use Rattle.std.proofs.lemmas.List.{length-set}
use Rattle.std.proofs.lemmas.Option.{slice_get-get_or, slice_get_within}
use Rattle.outcome_statistics.specs.declared.findings.Judged.{Judged}
use Rattle.outcome_statistics.proofs.Meeting.{are-met-both}
use Rattle.outcome_statistics.proofs.Updates.{kept-next, tally-next}
use Rattle.outcome_statistics.proofs.findings.add_each.Goals as goal

pub loop-i-preserved : goal.loop-i-preserved
loop-i-preserved c =
    let at = c.loop-i in
    let many = at.invariant.0 in
    let below = c.loop-i-test.true in
    let least = c.min-i-end.ensures in
    let v : Judged = record { tally = c.add.new.self; met = c.add-in-loop-i.new.self } in (
      length-set at.judged at.i v ∙ many,
      (λ asked tried more here there.
          tally-next asked at.judged c.args.judged.now at.i _ v tried (more ++ tried) (grind arith) here at.invariant.2
          (λ k is told.
          let other = there at.i k _ is (slice_get-get_or c.args.later.now at.i _ (grind arith)) in (
            c.add.ensures (Some k.rule) tried more told.0 other.0,
            are-met-both k.rule more tried _ _ _ c.add-in-loop-i.ensures.first c.add-in-loop-i.ensures.second told.1 other.1,
          ))
          (at.invariant.1 asked tried more here there)),
      kept-next at.judged c.args.judged.now at.i v (grind arith) at.invariant.2,
    )

pub returns-clause-each : goal.returns-clause-each
returns-clause-each c asked tried more one other here there k condition j is at =
    let within = slice_get_within asked k condition is in
    let over = c.loop-i-test.false in
    let least = c.min-i-end.ensures in
    c.loop-i.invariant.1 asked tried more here there k j (grind arith) at condition is
