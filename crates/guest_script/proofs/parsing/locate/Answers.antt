use Rattle.std.proofs.Common.{[]}
use Rattle.guest_script.proofs.parsing.locate.Goals as goal

pub returns : goal.returns
returns c = c.locate.ensures [] c.expecting.ensures
