use Rattle.std.proofs.lemmas.Nat.Bits.{bit_at_ones}
use Rattle.tlb_model.proofs.tag.suspects.Goals as goal

pub returns-in-Some : goal.returns-in-Some
returns-in-Some c place below suits = c.with_tag.ensures place below (suits c.in-Some.tag c.in-Some.is)

pub returns-in-None : goal.returns-in-None
returns-in-None c place below suits = bit_at_ones 16 place below
