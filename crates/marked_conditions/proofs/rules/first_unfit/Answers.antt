use Rattle.std.proofs.Common.{◌≡◌, ap, sym, ◌∙◌, arith}
use Rattle.std.specs.Prelude.{Some, slice_get}
use Rattle.std.proofs.lemmas.Option.{slice_get-get_or}
use Rattle.marked_conditions.proofs.Firsts.{answers-keep, answers-whole, has-marks, marks-are, marks_at, none-unfit}
use Rattle.marked_conditions.proofs.rules.first_unfit.Goals as goal

pub returns-then-not-answers : goal.returns-then-not-answers
returns-then-not-answers c =
    let events = c.args.events.now in
    let marks = c.args.marks.now in
    let k = c.loop-k.k in
    let at_e : slice_get events k ≡ Some c.index-events-k.result = slice_get-get_or events k c.index-events-k.result (omega arith) ∙ ap Some (sym c.index-events-k.is) in
    let found = c.answers.ensures.unfit c.if-not-answers.true in
    record {
      behind = omega arith;
      here = record {
        event = c.index-events-k.result;
        of = marks_at marks k;
        happened = at_e;
        marked = has-marks events marks k c.requires c.loop-k-test.true;
        fits = found.0;
        other = found.1;
      };
      none_before = λ j below behind. none-unfit c.args.p.now events marks k c.loop-k.invariant j below;
    }

pub loop-k-preserved : goal.loop-k-preserved
loop-k-preserved c =
    answers-keep c.args.p.now c.args.events.now c.args.marks.now c.loop-k.k c.index-events-k.result (marks_at c.args.marks.now c.loop-k.k)
    c.index-events-k.is (marks-are c.args.events.now c.args.marks.now c.loop-k.k c.requires c.loop-k-test.true)
    (c.answers.ensures.fits c.if-not-answers.false) c.loop-k.invariant

pub returns : goal.returns
returns c = answers-whole c.args.p.now c.args.events.now c.args.marks.now c.loop-k.k (omega arith) c.loop-k.invariant
