use Rattle.guest_script.proofs.PiecesRead.{nothing_read}
use Rattle.guest_script.proofs.reader.Reader.expecting.Goals as goal

pub returns : goal.returns
returns c more = nothing_read more
