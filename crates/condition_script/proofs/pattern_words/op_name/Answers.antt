use Rattle.condition_script.proofs.Named.{none_named, op_own}
use Rattle.script_lines.specs.Names.{op_named, op_word}
use Rattle.condition_script.proofs.pattern_words.op_name.Goals as goal

pub returns-in-None : goal.returns-in-None
returns-in-None c = λ item most is. none_named op_named op_word op_own c.args.word.now is.0 c.in-None.ensures is.1
