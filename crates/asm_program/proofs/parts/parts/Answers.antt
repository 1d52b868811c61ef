use Rattle.std.proofs.Common.{◌<◌, length, arith, rules}
use Rattle.asm_tokens.specs.Readings.{spots_of}
use Rattle.asm_program.specs.Parts.{parts_of}
use Rattle.asm_program.proofs.More.{parts_more, spots_length}
use Rattle.asm_program.proofs.parts.parts.Goals as goal

pub parts-preserved : goal.parts-preserved
parts-preserved c =
    let rest = spots_of c.parts.rest.now in
    let here : 0 < length c.parts.rest.now = search rules in
    let some : 0 < length rest = omega (arith, spots_length c.parts.rest.now) in
    parts_more c.parts.parts.items c.push.new.self.items c.first_part.result.0 c.parts.most rest (spots_of c.first_part.result.1.now) (parts_of (spots_of c.args.tokens.now))
    c.parts.invariant c.in_ok-push.ensures.items c.first_part.ensures.part c.first_part.ensures.behind c.parts-test.true some
