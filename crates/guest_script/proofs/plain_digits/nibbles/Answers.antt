use Rattle.guest_script.proofs.HexDigits.{bytes_of, nibbles_are, nibbles_small}
use Rattle.guest_script.proofs.plain_digits.nibbles.Goals as goal

pub returns-clause-value : goal.returns-clause-value
returns-clause-value c = nibbles_are c.args.text c.fits-text.0 (bytes_of c.args.text c.fits-text.1)

pub returns-clause-bound : goal.returns-clause-bound
returns-clause-bound c = rw (returns-clause-value c) (nibbles_small c.args.text (bytes_of c.args.text c.fits-text.1))
