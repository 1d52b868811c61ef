use Rattle.std.proofs.Common.{◌≡◌, ◌+◌, ◌<◌, reverse, take, subst, sym, ◌∙◌}
use Rattle.board_core.specs.Course.{Course}
use Rattle.board_core.specs.Opening.{opening_at}
use Rattle.access_marks.specs.declared.entry_use.EntryUse.{EntryUse}
use Rattle.access_marks.proofs.Catching.{taken, watched}
use Rattle.access_marks.proofs.missing.watch_after.Goals as goal

pub happened-requires : goal.happened-requires
happened-requires c =
    let o = opening_at c.args.config.now in
    let i = c.loop-event.event-index in
    let there : c.takes-taken.new.board ≡ record { opening = o; past = reverse (take (i + 1) c.args.events.now) } =
    taken o c.args.events.now i c.event-item.result c.loop-event-test.true c.event-item.is c.requires.legal c.loop-event.board c.takes-taken.new.board c.takes-taken.result
    c.loop-event.invariant.board c.takes-taken.ensures.is c.takes-taken.ensures.after in
    subst (λ (b : Course). c.loop-event.watch.of.at.hart < b.opening.config.harts) (sym there)
    (subst (λ (of : EntryUse). of.at.hart < c.args.config.now.harts) (sym c.loop-event.invariant.of) c.requires.present)

pub loop-event-preserved : goal.loop-event-preserved
loop-event-preserved c =
    let o = opening_at c.args.config.now in
    let i = c.loop-event.event-index in
    let there : c.takes-taken.new.board ≡ record { opening = o; past = reverse (take (i + 1) c.args.events.now) } =
    taken o c.args.events.now i c.event-item.result c.loop-event-test.true c.event-item.is c.requires.legal c.loop-event.board c.takes-taken.new.board c.takes-taken.result
    c.loop-event.invariant.board c.takes-taken.ensures.is c.takes-taken.ensures.after in
    record {
      board = there;
      of = c.in_ok-happened.ensures.of ∙ c.loop-event.invariant.of;
      watch = watched o c.args.events.now i c.event-item.result c.loop-event-test.true c.event-item.is c.requires.legal c.takes-taken.new.board c.of.result c.loop-event.watch c.happened.new.self
          there c.of.ensures c.in_ok-happened.ensures.watch c.loop-event.invariant.watch;
    }
