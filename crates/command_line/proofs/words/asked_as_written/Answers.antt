use Rattle.command_line.proofs.RunWords.{plainly}
use Rattle.command_line.proofs.words.asked_as_written.Goals as goal

pub returns : goal.returns
returns c = plainly
