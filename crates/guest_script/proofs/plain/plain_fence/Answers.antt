use Rattle.script_lines.specs.declared.op_name.OpName.TheVariants.{Sfence}
use Rattle.guest_script.proofs.PlainParts.{fence_begins, op_behind}
use Rattle.script_lines.specs.Packing.{op_made}
use Rattle.guest_script.proofs.plain.plain_fence.Goals as goal

pub returns-clause-named : goal.returns-clause-named
returns-clause-named c = λ before at.
    fence_begins before c.args.bytes.now c.in_ok-va.va c.in_ok-va.rest.now c.in_ok-asid.asid c.in_ok-asid.rest.now
    (op_made c.gather_fence.result c.gather_fence.new.numbers.items) at c.in_ok-va.ensures.argument c.in_ok-asid.ensures.argument c.gather_fence.ensures

pub returns-clause-op : goal.returns-clause-op
returns-clause-op c = λ before at.
    op_behind Sfence before (op_made c.gather_fence.result c.gather_fence.new.numbers.items) c.in_ok-asid.rest.now
    (fence_begins before c.args.bytes.now c.in_ok-va.va c.in_ok-va.rest.now c.in_ok-asid.asid c.in_ok-asid.rest.now
    (op_made c.gather_fence.result c.gather_fence.new.numbers.items) at c.in_ok-va.ensures.argument c.in_ok-asid.ensures.argument c.gather_fence.ensures)
