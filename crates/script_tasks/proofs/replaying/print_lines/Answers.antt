use Rattle.std.proofs.Common.{◌∙◌, refl, subst}
use Rattle.script_tasks.specs.Inside.Fitting.{AllFit}
use Rattle.script_tasks.specs.Running.{answer_to}
use Rattle.script_tasks.proofs.ReadLines.{all_fit-more}
use Rattle.script_tasks.proofs.Replayed.{has_done-more, has_done-none, replaying-more, replaying-none, stopped_at_cut}
use Rattle.script_tasks.proofs.replaying.print_lines.Goals as goal

pub loop-line-init : goal.loop-line-init
loop-line-init g c =
    let all = c.into_iter-line-iterator.ensures.into_iter_gives ∙ c.iter-line-items.ensures in
    record {
      can_next = tt;
      is_finite = tt;
      replaying = replaying-none c.args.board.now c.args.lines.now c.into_iter-line-iterator.result all;
      done = has_done-none c.args.board.now c.args.lines.now c.into_iter-line-iterator.result (g.W.Sink.written c.args.writer.now) c.new-page.result all c.new-page.ensures;
      fits = subst (AllFit c.args.board.now) all;
      failures = refl;
    }

pub loop-line-preserved : goal.loop-line-preserved
loop-line-preserved g c =
    let so_far = c.loop-line.invariant in
    let are = c.in-Some.ensures.steps in
    let doing = c.in-Some.line.doing in
    let done = rw c.in-ToTheEnd.is at c.in_ok-met_full.ensures.done in
    record {
      can_next = tt;
      is_finite = tt;
      replaying = replaying-more c.loop-line.board c.print_done.new.board c.loop-line.line-iterator c.next.new.self c.in-Some.line are done.course
          c.args.board.now c.args.lines.now c.loop-line.any_full c.in-ToTheEnd.met_full done.is_full so_far.replaying;
      done = has_done-more c.args.board.now c.loop-line.board c.print_done.new.board c.args.lines.now c.loop-line.line-iterator c.next.new.self c.in-Some.line are done.course
          doing refl (answer_to c.loop-line.board doing) refl
          (g.W.Sink.written c.args.writer.now) (g.W.Sink.written c.loop-line.writer)
          (g.W.Sink.written c.print_done.new.writer) c.loop-line.page done.taken c.print_done.new.page done.written done.passed so_far.done;
      fits = λ later. so_far.fits (all_fit-more c.loop-line.board c.print_done.new.board c.loop-line.line-iterator c.next.new.self c.in-Some.line are
          done.course (answer_to c.loop-line.board doing) refl done.step_fits done.answer_fits later);
      failures = done.none_failed ∙ so_far.failures;
    }

pub returns-in_default-clause-text : goal.returns-in_default-clause-text
returns-in_default-clause-text g c =
    let so_far = c.loop-line.invariant in
    let left = rw c.in_default.is at c.in_ok-met_full.ensures.done in
    let put = c.in_ok-put.ensures.text in
    let (text, is, written) = stopped_at_cut c.args.board.now c.loop-line.board c.args.lines.now c.loop-line.line-iterator
    (g.W.Sink.written c.args.writer.now) (g.W.Sink.written c.loop-line.writer) (g.W.Sink.written c.put.new.sink) c.loop-line.page so_far.done (rw left.page at (rw left.sink at put.0))
    c.in-Some.line c.next.new.self c.in-Some.ensures.steps left.cut in
    (text, is, written, put.1 ∙ left.none_failed ∙ so_far.failures)
