use Rattle.std.proofs.Common.{ap, ◌∙◌}
use Rattle.asm_expressions.specs.Values.{deepest, whole}
use Rattle.asm_expressions.proofs.values.value_of.Goals as goal

pub returns : goal.returns
unfolding deepest
returns c = c.whole.ensures ∙ ap whole c.value_at.ensures
