use Rattle.std.proofs.Common.{◌≡◌, true, inl, inr}
use Rattle.std.proofs.lemmas.Bool.{cases_Bool}
use Rattle.script_tasks.proofs.Checked.{checking-more, differs_at}
use Rattle.script_tasks.proofs.checking.first_difference.Goals as goal

pub returns-then-not-agrees : goal.returns-then-not-agrees
returns-then-not-agrees c =
    c.loop-line.invariant.checking.differs c.number.result c.in_ok-answer.answer
    (differs_at c.loop-line.board c.in-Some.line c.next.new.self c.loop-line.line-iterator c.in-Some.ensures.steps c.in_ok-answer.answer c.in_ok-answer.ensures.answer c.number.result c.number.ensures
    (λ said. let agrees = c.agrees.ensures.1 said in let other = rw agrees at c.if-not-agrees.true in cc))

pub loop-line-preserved : goal.loop-line-preserved
loop-line-preserved c =
    let agrees : c.agrees.result ≡ true = elim (cases_Bool c.agrees.result) [
      | inl is ↦ is
      | inr other ↦ absurd (let e = rw other at c.if-not-agrees.false in cc)
    ] in
    record {
      can_next = tt;
      is_finite = tt;
      checking = checking-more c.loop-line.board c.in-Some.line c.next.new.self c.loop-line.line-iterator c.in-Some.ensures.steps c.in_ok-answer.answer c.in_ok-answer.ensures.answer
          c.args.board.now c.answer_to.new.board c.args.lines.now c.in_ok-answer.ensures.course (c.agrees.ensures.0 agrees) c.loop-line.invariant.checking;
    }
