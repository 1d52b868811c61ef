use Rattle.condition_script.specs.Inside.Reading.{texts}
use Rattle.condition_script.proofs.GoingOn.{line_unread}
use Rattle.condition_script.proofs.reading.condition_in.Goals as goal

pub returns-in-Err : goal.returns-in-Err
returns-in-Err c = line_unread c.args.line c.args.text.now c.args.rest.now (texts c.args.words.now) c.requires.asking c.requires.words c.in-Err.wrong c.in-Err.ensures c.unread.result c.unread.ensures
