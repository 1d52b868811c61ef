use Rattle.std.proofs.Common.{◌∙◌}
use Rattle.guest_script.proofs.HexDigits.{number_is}
use Rattle.guest_script.proofs.plain_digits.number.Goals as goal

pub returns : goal.returns
returns c = c.from_be_bytes.ensures ∙ number_is c.args.nibbles c.fits-nibbles.0 c.requires
