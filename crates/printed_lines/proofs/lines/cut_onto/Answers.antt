use Rattle.std.proofs.Common.{[], refl, sym, ◌∙◌, codes, append_assoc}
use Rattle.printed_lines.specs.Words.{reply_words}
use Rattle.printed_lines.proofs.PrintedLines.{step-line}
use Rattle.printed_lines.proofs.lines.cut_onto.Goals as goal

pub returns-clause-text : goal.returns-clause-text
returns-clause-text c =
    step-line c.args.line.now (codes "cut") (codes "->") [] (reply_words c.args.answer) _ _ _ _ _
    refl refl (c.text.ensures ∙ sym (append_assoc c.args.line.now (codes "cut") (codes " ->"))) c.reply_onto.ensures.text c.text-2.ensures
