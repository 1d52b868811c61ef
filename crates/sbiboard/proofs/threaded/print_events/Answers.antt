use Rattle.std.proofs.Common.{◌∙◌, ◌+◌, Ok, drop, subst}
use Rattle.board_terms.specs.declared.reply.Reply.{Reply}
use Rattle.script_tasks.specs.PrintedScripts.{FitsAnswer, FitsOp}
use Rattle.sbiboard.specs.Threaded.{events_text}
use Rattle.sbiboard.proofs.Recorded.{events_text-more}
use Rattle.script_tasks.proofs.Replayed.{has_written-passed}
use Rattle.sbiboard.proofs.RunAccepted.{events_fit-more}
use Rattle.sbiboard.proofs.threaded.print_events.Goals as goal

pub loop-event-preserved : goal.loop-event-preserved
loop-event-preserved g c =
    let at = c.loop-event.invariant in
    let i = c.loop-event.event-index in
    let printed = c.in_ok-print_step.ensures in (
      has_written-passed (g.W.Sink.written c.args.writer.now) (g.W.Sink.written c.loop-event.writer) (g.W.Sink.written c.print_step.new.sink)
          printed.0 c.loop-event.page c.print_step.new.self _ (events_text (drop i c.args.events.now)) (events_text (drop (i + 1) c.args.events.now)) (events_text c.args.events.now)
          (events_text-more c.args.events.now i c.event-item.result c.event-item.is c.loop-event-test.true
          c.actor-actor.result c.op-op.result c.reply.result c.actor-actor.ensures c.op-op.ensures c.reply.ensures) printed.2 at.0 printed.1,
      printed.3 ∙ at.1,
      λ later. at.2 (events_fit-more c.args.events.now i c.event-item.result c.event-item.is c.loop-event-test.true
          (record { op = subst FitsOp c.op-op.ensures c.op_fits.ensures; answer = subst (λ (r : Reply). FitsAnswer (Ok r)) c.reply.ensures c.answer_fits.ensures }) later),
    )
