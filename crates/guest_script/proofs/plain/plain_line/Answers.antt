use Rattle.guest_script.proofs.PlainParts.{told_begins}
use Rattle.script_lines.specs.Packing.{op_made}
use Rattle.guest_script.proofs.plain.plain_line.Goals as goal

pub returns-in_ok-after-clause-line : goal.returns-in_ok-after-clause-line
returns-in_ok-after-clause-line c c' = λ n.
    rw c'.if-in_trace.true
    (told_begins n c'.args.bytes.now c'.in_ok-actor.actor c'.in_ok-actor.rest.now
    (op_made c'.in_ok-op.op c'.plain_op.new.numbers.items) c'.in_ok-op.rest.now c'.in_ok-replies.replies.now c'.in_ok-said.said c'.in_ok-said.end.now c'.in_ok-after.after.now c'.in_ok-actor.ensures.actor
    (rw c'.in_ok-named.ensures.front c'.in_ok-op.ensures.op) c'.in_ok-replies.ensures.front c'.in_ok-said.ensures.said c'.in_ok-after.ensures.front)
