use Rattle.std.proofs.Common.{refl}
use Rattle.printed_lines.proofs.DigitPairs.{decimal_pairs_at}
use Rattle.printed_lines.proofs.line_text.decimal_pair.Goals as goal

pub returns : goal.returns
returns c =
    let p = decimal_pairs_at c.args.pair c.requires in
    rw (p.0, p.1) refl
