use Rattle.std.proofs.Common.{ap, ◌∙◌}
use Rattle.sv39.specs.Memory.{word_in}
use Rattle.sv39.proofs.Words.{word_in-cleared}
use Rattle.sv39.proofs.ram.Ram.clear.Goals as goal

pub returns-clause-words : goal.returns-clause-words
returns-clause-words c = ap word_in c.wipe.ensures.words ∙ word_in-cleared _ c.wipe.ensures.ram
