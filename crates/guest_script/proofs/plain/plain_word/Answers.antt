use Rattle.guest_script.proofs.PlainParts.{hex_begins}
use Rattle.guest_script.proofs.plain.plain_word.Goals as goal

pub returns-in_ok-n-in-Some-clause-number : goal.returns-in_ok-n-in-Some-clause-number
returns-in_ok-n-in-Some-clause-number c =
    hex_begins c.args.bytes.now c.in-Some.digits.now c.in_ok-n-in-Some.n c.in_ok-n-in-Some.rest.now c.in-Some.ensures.front c.in_ok-n-in-Some.ensures.small c.in_ok-n-in-Some.ensures.number
