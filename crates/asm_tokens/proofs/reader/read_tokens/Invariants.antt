use Rattle.std.proofs.Common.{◌≡◌, List, length, map}
use Rattle.asm_tokens.specs.Readings.{TextPart, ReadsTo, token_spot, tokens_among}
use Rattle.asm_tokens.proofs.reader.read_tokens.Given as goal

abbrev pub invariant-parts : goal.invariant-parts
invariant-parts l = (parts : List TextPart) × ReadsTo l.text parts l.rest × (tokens_among parts ≡ map token_spot l.tokens.items)

abbrev pub decreases-parts : goal.decreases-parts
decreases-parts l = length l.rest
