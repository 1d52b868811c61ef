use Rattle.std.proofs.Common.{◌++◌, ap, ◌∙◌}
use Rattle.line_words.specs.Values.{words_in}
use Rattle.condition_script.specs.Inside.Reading.{texts}
use Rattle.condition_script.proofs.GoingOn.{read_tells}
use Rattle.condition_script.proofs.beginnings.is_condition.Goals as goal

pub returns : goal.returns
returns c = read_tells (texts c.args.front.now ++ words_in c.args.more.now) (texts c.deref.result.now) (ap texts c.deref.ensures.value ∙ c.in_ok-words.ensures) c.asked_rule.result c.is_read.result c.asked_rule.ensures c.is_read.ensures
