use Rattle.std.proofs.Common.{sym, ◌∙◌, arith}
use Rattle.script_lines.specs.Names.{name_of}
use Rattle.conditions.specs.Items.{op_arguments}
use Rattle.condition_script.specs.declared.items.Item.TheVariants.{Word}
use Rattle.condition_script.specs.declared.names.Name.TheVariants.{Op}
use Rattle.conditions.proofs.Places.{behind}
use Rattle.conditions.proofs.items.op_item.Goals as goal

pub returns : goal.returns
returns c = c.op_argument.ensures ∙ sym (behind (Word (Op (name_of c.args.op.now))) (op_arguments c.args.op.now) c.args.place (omega arith))
