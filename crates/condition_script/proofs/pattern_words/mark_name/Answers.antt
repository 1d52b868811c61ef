use Rattle.condition_script.proofs.Named.{mark_own, none_named}
use Rattle.condition_script.specs.Grammar.{mark_name, mark_named}
use Rattle.condition_script.proofs.pattern_words.mark_name.Goals as goal

pub returns-in-None : goal.returns-in-None
returns-in-None c = λ item most is. none_named mark_named mark_name mark_own c.args.word.now is.0 c.in-None.ensures is.1
