use Rattle.std.proofs.Common.{sym, ◌∙◌}
use Rattle.std.proofs.lemmas.Option.{none-some}
use Rattle.conditions.proofs.Unheld.{done-at}
use Rattle.conditions.proofs.misfits.in_doer.Goals as goal

pub returns-in-Some : goal.returns-in-Some
returns-in-Some c = done-at c.args.p.now c.in-Some.actor ((c.actor_of.ensures c.in-Some.actor).0 c.in-Some.is) c.undone_by.result c.undone_by.ensures

pub returns-in-None : goal.returns-in-None
returns-in-None c any is = absurd (none-some is.actor (sym c.in-None.is ∙ (c.actor_of.ensures is.actor).1 is.stands))

pub undone_by-requires : goal.undone_by-requires
undone_by-requires c = (c.actor_of.ensures c.in-Some.actor).0 c.in-Some.is
