use Rattle.std.proofs.Common.{sym, ◌∙◌}
use Rattle.guest_script.proofs.Named.{firmwares_op, guests_op}
use Rattle.guest_script.proofs.step.guest_name.Goals as goal

pub returns-in-Some : goal.returns-in-Some
returns-in-Some c = guests_op c.args.word.now c.in-Some.name c.in-Some.ensures (sym c.is_guests.ensures ∙ c.if-is_guests.true)

pub returns-in_default : goal.returns-in_default
returns-in_default c = firmwares_op c.args.word.now c.in-Some.name c.in-Some.ensures (sym c.is_guests.ensures ∙ c.if-is_guests.false)
