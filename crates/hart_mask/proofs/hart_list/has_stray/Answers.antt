use Rattle.std.proofs.Common.{sym, ◌∙◌}
use Rattle.std.proofs.lemmas.Bool.{le-ltb}
use Rattle.hart_mask.proofs.Naming.{stray-far, stray-near}
use Rattle.hart_mask.proofs.hart_list.has_stray.Goals as goal

pub returns-then-room-lt64 : goal.returns-then-room-lt64
returns-then-room-lt64 c = sym (stray-near c.args.mask c.args.base c.args.n c.ranges.mask.fits c.requires)

pub returns-else-room-lt64 : goal.returns-else-room-lt64
returns-else-room-lt64 c = le-ltb _ 64 c.if-room-lt64.false ∙ sym (stray-far c.args.mask c.args.base c.args.n c.requires c.if-room-lt64.false)
