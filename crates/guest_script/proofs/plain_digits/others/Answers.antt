use Rattle.guest_script.proofs.HexDigits.{bytes_of, others_are}
use Rattle.guest_script.proofs.plain_digits.others.Goals as goal

pub returns : goal.returns
returns c = others_are c.args.text c.fits-text.0 (bytes_of c.args.text c.fits-text.1)
