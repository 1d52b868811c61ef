use Rattle.condition_script.specs.Inside.Reading.{texts}
use Rattle.condition_script.proofs.GoingOn.{tells_beginning}
use Rattle.condition_script.proofs.beginnings.is_beginning.Goals as goal

pub returns : goal.returns
returns c = tells_beginning (texts c.args.words.now) c.goes_on_by.result c.goes_on_by.ensures
