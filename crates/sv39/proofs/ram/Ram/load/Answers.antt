use Rattle.std.proofs.Common.{ap, length, arith}
use Rattle.std.proofs.lemmas.Option.{slice_get_read}
use Rattle.sv39.proofs.Words.{stands, word_in-place}
use Rattle.sv39.proofs.ram.Ram.load.Goals as goal

pub word_place-place-requires : goal.word_place-place-requires
word_place-place-requires c = omega (arith, stands _ _ c.requires)

pub index-requires : goal.index-requires
index-requires c = omega (arith, ap length c.self.view_is, stands _ _ c.requires)

pub returns : goal.returns
returns c = grind (arith, slice_get_read, word_in-place, stands _ _ c.requires)
