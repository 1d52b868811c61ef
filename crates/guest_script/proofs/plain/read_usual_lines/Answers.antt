use Rattle.std.proofs.Common.{◌∙◌, arith}
use Rattle.guest_script.proofs.PlainRead.{step_read}
use Rattle.guest_script.proofs.plain.read_usual_lines.Goals as goal

pub loop-after-preserved : goal.loop-after-preserved
loop-after-preserved c =
    let (line, begins, grown, shorter) = rw c.in-Some.is at c.in_ok-after.ensures in (
      λ more. c.loop-after.invariant.0 more
          ∙ step_read c.loop-after.number c.args.in_trace c.loop-after.steps c.read_plain_line.new.lines c.loop-after.rest.now c.in-Some.after.now (line, begins, grown) more,
      omega (arith, shorter, c.loop-after.invariant.1),
      omega (arith, shorter, c.loop-after.invariant.2),
    )
