use Rattle.std.proofs.Common.{sym, ◌∙◌}
use Rattle.condition_script.proofs.Asked.{lone_read, not_lone}
use Rattle.condition_script.proofs.asking.lone_mark.Goals as goal

pub returns-then-is_empty : goal.returns-then-is_empty
returns-then-is_empty c = lone_read c.args.words.now c.in-Some.first.now c.in-Some.rest.now c.in-Some.ensures.cases.0 (sym c.is_empty.ensures ∙ c.if-is_empty.true) c.of.result c.of.ensures

pub returns-else-is_empty : goal.returns-else-is_empty
returns-else-is_empty c = not_lone c.args.words.now c.in-Some.first.now c.in-Some.rest.now c.in-Some.ensures.cases.0 (sym c.is_empty.ensures ∙ c.if-is_empty.false)
