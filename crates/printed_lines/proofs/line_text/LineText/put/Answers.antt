use Rattle.std.proofs.Common.{◌∙◌}
use Rattle.printed_lines.proofs.PrintedLines.{words-as_line}
use Rattle.printed_lines.proofs.line_text.LineText.put.Goals as goal

pub returns-clause-puts : goal.returns-clause-puts
returns-clause-puts g c = λ words is.
    rw (c.without_blank.ensures ∙ words-as_line _ _ words c.requires.some c.text.ensures is) at c.write_all.ensures
