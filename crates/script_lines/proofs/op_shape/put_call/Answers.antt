use Rattle.script_lines.proofs.Packed.{call_made}
use Rattle.script_lines.proofs.op_shape.put_call.Goals as goal

pub returns-clause-made : goal.returns-clause-made
returns-clause-made c = call_made c.args.regs (search)
