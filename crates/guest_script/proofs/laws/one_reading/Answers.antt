use Rattle.guest_script.proofs.ScriptLines.{one_reading}
use Rattle.guest_script.proofs.laws.one_reading.Goals as goal

pub returns : goal.returns
returns c bytes = one_reading bytes
