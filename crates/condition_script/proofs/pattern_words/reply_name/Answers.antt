use Rattle.condition_script.proofs.Named.{none_named, said_own}
use Rattle.script_lines.specs.Names.{said_named, said_word}
use Rattle.condition_script.proofs.pattern_words.reply_name.Goals as goal

pub returns-in-None : goal.returns-in-None
returns-in-None c = λ item most is. none_named said_named said_word said_own c.args.word.now is.0 c.in-None.ensures is.2
