use Rattle.std.proofs.Common.{◌≡◌}
use Rattle.script_tasks.specs.Inside.Fitting.{AllFit}
use Rattle.script_tasks.proofs.Replayed.{HasDone, Replaying}
use Rattle.script_tasks.proofs.replaying.print_lines.Given as goal

abbrev pub invariant-loop-line : goal.invariant-loop-line
invariant-loop-line g l = record {
  can_next : (goal.iterator-loop-line g).can_next l.line-iterator;
  is_finite : (goal.iterator-loop-line g).is_finite l.line-iterator;
  replaying : Replaying l.initial.board l.board l.lines l.line-iterator l.any_full;
  done : HasDone l.initial.board l.board l.lines l.line-iterator (g.W.Sink.written l.initial.writer) (g.W.Sink.written l.writer) l.page;
  fits : AllFit l.board l.line-iterator → AllFit l.initial.board l.lines;
  failures : g.W.Sink.failures l.writer ≡ g.W.Sink.failures l.initial.writer;
}
