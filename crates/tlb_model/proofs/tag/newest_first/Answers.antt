use Rattle.std.proofs.Common.{◌≡◌, ◌+◌, ◌%◌, ap, ◌∙◌, arith}
use Rattle.std.specs.Int.{bit_at}
use Rattle.tlb_model.proofs.Marks.{turned, turned-low}
use Rattle.tlb_model.proofs.tag.newest_first.Goals as goal

pub returns-clause-order : goal.returns-clause-order
returns-clause-order c bit from below =
    let same : (c.args.next % 16 + bit) % 16 ≡ (c.args.next + bit) % 16 = omega arith in
    turned c.args.marks (c.args.next % 16) bit c.requires (omega arith) from below ∙ ap (bit_at c.args.marks) same

pub returns-clause-low : goal.returns-clause-low
returns-clause-low c bit below = turned-low _ bit below
