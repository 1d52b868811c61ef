use Rattle.std.proofs.Common.{◌∙◌}
use Rattle.sbiboard.proofs.Kept.{has_kept-none, has_kept-passed}
use Rattle.sbiboard.proofs.keeping.Lines.add.Goals as goal

pub loop-step-init : goal.loop-step-init
loop-step-init g c =
    let known = g.K.Sink.written c.args.self.now.sink in
    let p = c.in_ok-put.ensures.line in (
      has_kept-passed known known (g.K.Sink.written c.put.new.self.sink) p.0 c.args.self.now.page c.put.new.self.page c.args.step p.2
          (has_kept-none known c.args.self.now.page c.requires.none) p.1,
      p.3,
    )

pub loop-step-preserved : goal.loop-step-preserved
loop-step-preserved g c =
    let p = c.in_ok-put-2.ensures.line in (
      has_kept-passed (g.K.Sink.written c.args.self.now.sink) (g.K.Sink.written c.loop-step.self.sink) (g.K.Sink.written c.put-in-Some.new.self.sink)
          p.0 c.loop-step.self.page c.put-in-Some.new.self.page c.in-Some.step p.2 c.loop-step.invariant.0 p.1,
      p.3 ∙ c.loop-step.invariant.1,
    )
