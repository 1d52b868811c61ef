use Rattle.condition_script.proofs.Asked.{none_said}
use Rattle.condition_script.proofs.pattern_words.said_name.Goals as goal

pub returns-in-None : goal.returns-in-None
returns-in-None c = none_said c.args.word.now c.reply_name.result c.in_default.is c.reply_name.ensures c.in-None.ensures
