use Rattle.std.proofs.Common.{◌<◌, length, length-set, arith, ◌∙◌}
use Rattle.fence_queue.proofs.Copies.{all-copied, copied-more}
use Rattle.board_machine.proofs.memory.copy_caches.Goals as goal

pub loop-h-preserved : goal.loop-h-preserved
loop-h-preserved c =
    let h = c.loop-h.h in
    let below : h < length c.args.from.now = omega (arith, c.loop-h-test.true) in record {
      long = length-set c.loop-h.caches.items h c.copy_from.new.self ∙ c.loop-h.invariant.long;
      copied = copied-more c.loop-h.caches.items c.args.from.now h c.copy_from.new.self c.index-from-h.result c.loop-h.invariant.long below c.copy_from.ensures
          c.index-from-h.is c.loop-h.invariant.copied;
    }

pub returns : goal.returns
returns c =
    all-copied c.loop-h.caches.items c.args.from.now c.loop-h.h c.loop-h.invariant.long (omega (arith, c.loop-h-test.false)) c.loop-h.invariant.copied
