use Rattle.std.proofs.Common.{◌∙◌, ap, arith, false, map}
use Rattle.std.specs.Fmt.{digit_glyph}
use Rattle.printed_lines.proofs.HexText.{hex_taken, hex_written}
use Rattle.printed_lines.proofs.hex_text.write_hex.Goals as goal

pub returns-clause-text : goal.returns-clause-text
returns-clause-text c =
    let places = c.hex_places-places in
    hex_written c.args.bytes.now c.glyphs-text.result _ c.args.start places.result _ (c.glyphs-text.ensures ∙ ap (map (digit_glyph false)) c.sixteen_digits.ensures.values) c.requires places.ensures.bound
    (hex_taken c.args.n places.result (omega arith) places.ensures.places places.ensures.bound)
