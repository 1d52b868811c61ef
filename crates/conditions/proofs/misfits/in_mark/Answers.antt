use Rattle.std.proofs.Common.{sym, ◌∙◌}
use Rattle.std.proofs.lemmas.Option.{none-some}
use Rattle.conditions.proofs.Unheld.{mark-none}
use Rattle.conditions.proofs.misfits.in_mark.Goals as goal

pub mark_misfit-requires : goal.mark_misfit-requires
mark_misfit-requires c = (c.mark_of.ensures c.in-Some.mark).0 c.in-Some.is

pub returns-in-None : goal.returns-in-None
returns-in-None c = mark-none c.args.told c.args.p.now (λ mark marked. none-some mark (sym c.in-None.is ∙ (c.mark_of.ensures mark).1 marked))
