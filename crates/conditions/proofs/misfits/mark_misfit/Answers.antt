use Rattle.std.proofs.Common.{sym, ◌∙◌}
use Rattle.std.proofs.lemmas.Option.{none-some}
use Rattle.conditions.proofs.Unheld.{of-access, of-none, of-one, untold}
use Rattle.conditions.proofs.misfits.mark_misfit.Goals as goal

pub returns-then-not-told : goal.returns-then-not-told
returns-then-not-told c = untold c.args.told c.args.p.now c.args.mark c.if-not-told.true c.requires

pub returns-then-is_access : goal.returns-then-is_access
returns-then-is_access c =
    of-one c.args.told c.args.p.now c.in-Some.op c.if-not-told.false ((c.op_meant.ensures c.in-Some.op).0 c.in-Some.is) (sym c.is_access.ensures ∙ c.if-is_access.true)

pub returns-else-is_access : goal.returns-else-is_access
returns-else-is_access c =
    of-none c.args.told c.args.p.now c.args.mark c.in-Some.op c.if-not-told.false c.requires ((c.op_meant.ensures c.in-Some.op).0 c.in-Some.is) (sym c.is_access.ensures ∙ c.if-is_access.false)

pub returns-in-None : goal.returns-in-None
returns-in-None c = of-access c.args.told c.args.p.now c.if-not-told.false (λ op means. absurd (none-some op (sym c.in-None.is ∙ (c.op_meant.ensures op).1 means)))
