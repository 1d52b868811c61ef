use Rattle.std.proofs.Common.{◌≡◌, List, [], ◌∷◌, ◌++◌, length, map, refl, sym, ap, ◌∙◌}
use Rattle.std.proofs.lemmas.List.{map-append}
use Rattle.asm_tokens.specs.Readings.{TokenSpot, token_spot}
use Rattle.asm_tokens.specs.Readings.TextPart.{Passed, Took}
use Rattle.asm_tokens.specs.Tokens.{lexeme_of}
use Rattle.asm_tokens.proofs.Parts.{passed_more, taken-passed, taken-took, took_more}
use Rattle.asm_tokens.proofs.reader.read_tokens.Goals as goal

pub parts-preserved-in-Gap : goal.parts-preserved-in-Gap
parts-preserved-in-Gap c =
    let parts = c.parts.invariant.0 in (
      parts ++ Passed ∷ [],
      passed_more c.args.text.now parts c.parts.rest.now c.in-Gap.after.now c.parts.invariant.1 (sym c.in-Gap.ensures.reading),
      taken-passed parts ∙ c.parts.invariant.2,
    )

pub parts-preserved : goal.parts-preserved
parts-preserved c =
    let parts = c.parts.invariant.0 in
    let spot : TokenSpot = record { lexeme = lexeme_of c.in-Begins.token; left = length c.parts.rest.now } in
    let pushed : map token_spot c.push.new.self.items ≡ map token_spot c.parts.tokens.items ++ spot ∷ [] =
    ap (map token_spot) c.in_ok-push-in-Begins.ensures.items ∙ map-append token_spot c.parts.tokens.items _ in (
      parts ++ Took spot ∷ [],
      took_more c.args.text.now parts c.parts.rest.now c.in-Begins.after.now spot c.parts.invariant.1 (sym c.in-Begins.ensures.reading) refl,
      taken-took parts spot ∙ ap (λ (spots : List TokenSpot). spots ++ spot ∷ []) c.parts.invariant.2 ∙ sym pushed,
    )
