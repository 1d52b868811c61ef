use Rattle.guest_script.proofs.FaultPlaces.{faults_are_first}
use Rattle.guest_script.proofs.laws.faults_are_first.Goals as goal

pub returns : goal.returns
returns c = faults_are_first
