use Rattle.std.proofs.Common.{sym, ◌∙◌}
use Rattle.condition_script.proofs.Asked.{step_given}
use Rattle.condition_script.proofs.pattern_words.step_or_any.Goals as goal

pub returns : goal.returns
returns c = step_given c.args.words.now (sym c.is_empty.ensures ∙ c.if-is_empty.false) (λ found. found.items) c.step.result c.step.ensures
