use Rattle.printed_lines.proofs.HexText.{glyphs_are}
use Rattle.printed_lines.proofs.hex_text.glyphs.Goals as goal

pub returns : goal.returns
returns c = glyphs_are c.args.digits c.fits-digits.0 c.requires
