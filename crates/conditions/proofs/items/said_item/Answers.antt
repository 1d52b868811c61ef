use Rattle.std.proofs.Common.{sym, ◌∙◌, arith}
use Rattle.script_lines.specs.Names.{name_of_said}
use Rattle.conditions.specs.Items.{said_arguments}
use Rattle.condition_script.specs.declared.items.Item.TheVariants.{Word}
use Rattle.condition_script.specs.declared.names.Name.TheVariants.{Said}
use Rattle.conditions.proofs.Places.{behind}
use Rattle.conditions.proofs.items.said_item.Goals as goal

pub returns : goal.returns
returns c = c.said_argument.ensures ∙ sym (behind (Word (Said (name_of_said c.args.said))) (said_arguments c.args.said) c.args.place (omega arith))
