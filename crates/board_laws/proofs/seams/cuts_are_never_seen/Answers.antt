use Rattle.board_laws.proofs.Parting.{joined-are-one, parted-are-seamless}
use Rattle.board_laws.proofs.seams.cuts_are_never_seen.Goals as goal

pub returns-clause-joined : goal.returns-clause-joined
returns-clause-joined c = joined-are-one

pub returns-clause-parted : goal.returns-clause-parted
returns-clause-parted c = parted-are-seamless
