use Rattle.printed_lines.specs.Words.{actor_word, op_words, reply_words}
use Rattle.printed_lines.proofs.PrintedLines.{step-line}
use Rattle.printed_lines.proofs.lines.step_onto.Goals as goal

pub returns-clause-text : goal.returns-clause-text
returns-clause-text c =
    step-line c.args.line.now (actor_word c.args.actor) _ (op_words c.args.op.now) (reply_words c.args.answer) _ _ _ _ _
    c.actor_onto.ensures.text c.op_onto.ensures.text c.word.ensures.text c.reply_onto.ensures.text c.text.ensures
