use Rattle.std.proofs.Common.{ap, ◌∙◌, arith}
use Rattle.sv39.specs.Memory.{word_in}
use Rattle.sv39.proofs.Words.{stands, word_in-set}
use Rattle.sv39.proofs.ram.Ram.store.Goals as goal

pub word_place-there-requires : goal.word_place-there-requires
word_place-there-requires c = omega (arith, stands _ _ c.requires)

pub put-requires : goal.put-requires
put-requires c = omega (arith, c.word_place-there.ensures, stands _ _ c.requires)

pub returns-clause-words : goal.returns-clause-words
returns-clause-words c = ap word_in c.put.ensures ∙ rw c.word_place-there.ensures (word_in-set _ _ _ (stands _ _ c.requires))
