use Rattle.std.proofs.Common.{◌+◌, arith}
use Rattle.script_tasks.proofs.Taken.{given_taken, lines_whole}
use Rattle.script_tasks.proofs.device.pieces.give_lines.Goals as goal

pub read-requires : goal.read-requires
read-requires c =
    let found = rw c.deref.ensures.value at c.whole_lines-lines.ensures in
    rw c.deref-2.ensures.value
    (lines_whole c.args.bytes.now.items c.args.from c.whole_lines-lines.result c.args.filled c.requires.from (omega (arith, c.requires.within)) c.if-lines-eq0.false found.within found.whole)

pub returns-clause-taken : goal.returns-clause-taken
returns-clause-taken c a b count has =
    let read = rw c.deref-2.ensures.value at c.in_ok-reader.ensures in
    rw c.copy_within.ensures.items
    (given_taken a b c.args.reader c.in_ok-reader.reader count c.args.bytes.now.items (c.args.from + c.whole_lines-lines.result) c.args.filled (omega arith)
    (omega (arith, c.requires.within)) read has)
