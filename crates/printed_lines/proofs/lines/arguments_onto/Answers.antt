use Rattle.std.proofs.Common.{rules, sym, ◌∙◌}
use Rattle.printed_lines.proofs.Arguments.{six_words, four_zeros}
use Rattle.printed_lines.proofs.lines.arguments_onto.Goals as goal

pub returns-then-a5-eq0-clause-text : goal.returns-then-a5-eq0-clause-text
returns-then-a5-eq0-clause-text c =
    rw (six_words c.args.line.now c.args.arguments.now (search rules), ← c.hex.ensures.text, ← c.hex-2.ensures.text, c.if-a2-eq0.true, c.if-a3-eq0.true, c.if-a4-eq0.true, c.if-a5-eq0.true)
    (c.text.ensures ∙ four_zeros _)

pub returns-else-a2-eq0-clause-text : goal.returns-else-a2-eq0-clause-text
returns-else-a2-eq0-clause-text c =
    rw (c.hex-else-a2-eq0-4.ensures.text, c.hex-else-a2-eq0-3.ensures.text, c.hex-else-a2-eq0-2.ensures.text, c.hex-else-a2-eq0.ensures.text, c.hex-2.ensures.text, c.hex.ensures.text)
    (sym (six_words c.args.line.now c.args.arguments.now (search rules)))
