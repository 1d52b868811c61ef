use Rattle.condition_script.proofs.OneReading.{one_reading}
use Rattle.condition_script.proofs.laws.one_reading.Goals as goal

pub returns : goal.returns
returns c bytes = one_reading bytes
