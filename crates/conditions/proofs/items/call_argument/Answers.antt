use Rattle.std.proofs.Common.{sym}
use Rattle.std.proofs.lemmas.Bool.{ltb-false}
use Rattle.conditions.proofs.Places.{none-behind-two}
use Rattle.conditions.proofs.items.call_argument.Goals as goal

pub returns-in-None : goal.returns-in-None
returns-in-None c = none-behind-two _ _ c.args.regs.now.a c.args.place c.if-place-ge2.true (ltb-false _ _ (sym c.in-None.ensures.lookup.0))
