use Rattle.std.proofs.Common.{[]}
use Rattle.guest_script.proofs.parsing.parse.Goals as goal

pub returns-clause-script : goal.returns-clause-script
returns-clause-script c = (c.end.ensures [] c.expecting.ensures).script

pub returns-clause-only : goal.returns-clause-only
returns-clause-only c = (c.end.ensures [] c.expecting.ensures).only

pub returns-clause-fault : goal.returns-clause-fault
returns-clause-fault c = (c.end.ensures [] c.expecting.ensures).fault

pub returns-clause-memory : goal.returns-clause-memory
returns-clause-memory c = (c.end.ensures [] c.expecting.ensures).memory
