use Rattle.std.proofs.Common.{◌≡◌, ◌++◌, map}
use Rattle.asm_tokens.specs.Readings.{spots_of}
use Rattle.asm_program.specs.Parts.{parts_in, parts_of, piece_of}
use Rattle.asm_program.proofs.parts.parts.Given as goal

abbrev pub invariant-parts : goal.invariant-parts
invariant-parts l = map piece_of l.parts.items ++ parts_in l.most (spots_of l.rest) ≡ parts_of (spots_of l.tokens)

abbrev pub decreases-parts : goal.decreases-parts
decreases-parts l = l.most
