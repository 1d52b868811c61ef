use Rattle.std.proofs.Common.{sym, ◌∙◌}
use Rattle.script_lines.specs.Packing.{op_made}
use Rattle.guest_script.proofs.PlainParts.{guest_begins}
use Rattle.guest_script.proofs.plain.plain_guest.Goals as goal

pub returns-clause-op : goal.returns-clause-op
returns-clause-op c =
    guest_begins c.in_ok-name.name c.args.bytes.now (op_made c.in_ok-op.op c.plain_named.new.numbers.items) c.in_ok-op.rest.now c.in_ok-after.after.now
    (sym c.is_guests.ensures ∙ c.if-not-is_guests.false) c.in_ok-op.ensures.named c.in_ok-after.ensures.front
