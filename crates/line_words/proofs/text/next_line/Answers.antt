use Rattle.std.proofs.Common.{◌+◌, length, arith}
use Rattle.std.proofs.lemmas.List.{take_rest, take_all}
use Rattle.line_words.proofs.LinesOf.{lines_at, lines_last}
use Rattle.line_words.proofs.text.next_line.Goals as goal

pub returns-in-Some-clause-lines : goal.returns-in-Some-clause-lines
returns-in-Some-clause-lines c =
    let found = lines_at c.args.bytes.now c.in-Some.end c.in-Some.ensures in
    rw (c.without_return.ensures, take_rest c.args.bytes.now (c.in-Some.end + 1)) found

pub returns-in-None-clause-lines : goal.returns-in-None-clause-lines
returns-in-None-clause-lines c =
    let bytes = c.args.bytes.now in
    let found = lines_last bytes c.in-None.ensures c.requires in
    rw (c.split_at.ensures.front, c.split_at.ensures.back, take_all (length bytes) bytes (omega arith)) found
