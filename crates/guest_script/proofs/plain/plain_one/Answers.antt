use Rattle.guest_script.proofs.PlainParts.{no_numbers, numbers_more}
use Rattle.guest_script.proofs.plain.plain_one.Goals as goal

pub returns-in-Some-clause-numbers : goal.returns-in-Some-clause-numbers
returns-in-Some-clause-numbers c =
    let bytes = c.args.bytes.now in
    let none = c.args.found.now.items in
    rw c.push.ensures.items
    (numbers_more bytes none bytes c.in-Some.n c.in-Some.rest.now (no_numbers bytes none c.requires) c.in-Some.ensures.number)
