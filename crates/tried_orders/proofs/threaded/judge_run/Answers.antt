use Rattle.std.proofs.Common.{List, length, ap, subst, sym, ◌∙◌}
use Rattle.access_marks.specs.declared.marks.Marks.{Marks}
use Rattle.outcome_statistics.specs.Findings.{AreMarkedFor}
use Rattle.tried_orders.proofs.Trying.{on-ok}
use Rattle.tried_orders.proofs.threaded.judge_run.Goals as goal

pub see-requires : goal.see-requires
see-requires g c = record {
  many = c.requires.many;
  marks = λ ask. c.in_ok-marks.ensures.length ask ∙ ap length (sym c.deref.ensures.value);
}

-- the record has these marks
pub returns-clause-found : goal.returns-clause-found
returns-clause-found g c =
    let board = c.args.ended.now.board in
    on-ok c.keep_failing.result _ (
      c.deref.result.now,
      (λ ask.
          subst (λ (all : List Marks). AreMarkedFor c.args.trial.now.case.conditions.now board.opening.config board.past all) (sym c.deref.ensures.value)
          (c.in_ok-marks.ensures.marked ask)),
      (λ records x number events marks end found. c.in_ok-see.ensures.found records x number events marks end found),
    )
