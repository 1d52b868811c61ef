use Rattle.std.proofs.Common.{arith, rules}
use Rattle.tlb_model.proofs.Marks.{suited, tags_fit}
use Rattle.tlb_model.proofs.tag.with_tag.Goals as goal

pub overflow_cast-result : goal.overflow_cast-result
overflow_cast-result c = record { fits = omega (arith, tags_fit c.args.tags.now c.args.tag (search rules)) }

pub returns : goal.returns
returns c place below suits = suited c.args.tags.now c.args.tag place (search rules) below suits
