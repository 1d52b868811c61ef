use Rattle.condition_script.proofs.LinesRead.{silent_if}
use Rattle.condition_script.proofs.reading.asked.Goals as goal

pub returns-in-Some : goal.returns-in-Some
returns-in-Some c = silent_if c.args.line c.args.text.now c.unless_shebang.result c.unless_shebang.ensures

pub returns-in-None : goal.returns-in-None
returns-in-None c = λ rest asking. c.in-None.ensures rest asking.begins
