use Rattle.std.proofs.Common.{◌∙◌, arith}
use Rattle.guest_script.proofs.PlainRead.{guest_read}
use Rattle.guest_script.proofs.plain.read_plain_ops.Goals as goal

pub loop-after-preserved : goal.loop-after-preserved
loop-after-preserved c =
    let (op, begins, grown, shorter) = rw c.in-Some.is at c.in_ok-after.ensures in (
      λ before clock addr more. c.loop-after.invariant.0 before clock addr more
          ∙ rw grown (guest_read c.loop-after.number before clock addr c.loop-after.ops.items c.loop-after.rest.now op c.in-Some.after.now begins more),
      omega (arith, shorter, c.loop-after.invariant.1),
      omega (arith, shorter, c.loop-after.invariant.2),
    )
