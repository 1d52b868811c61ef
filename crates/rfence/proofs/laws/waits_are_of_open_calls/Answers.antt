use Rattle.std.proofs.Common.{arith, map}
use Rattle.std.proofs.lemmas.List.{length-map}
use Rattle.fence_queue.proofs.Queue.{length-IsQueue}
use Rattle.rfence.specs.Opening.{kept}
use Rattle.rfence.specs.Calls.{open_call}
use Rattle.rfence.specs.Waiting.{waiting}
use Rattle.rfence.proofs.Callers.{All-open, sound}
use Rattle.rfence.proofs.laws.waits_are_of_open_calls.Goals as goal

pub returns : goal.returns
returns g c = λ o n turns t right inside.
    let s = sound o n turns t right in
    let short = length-IsQueue n t (map kept (waiting o turns t)) inside s.queue in
    record {
      callers = s.queue;
      few = omega (arith, short, length-map (waiting o turns t) kept);
      opened = All-open t (open_call o turns) (waiting o turns t) s.opens;
    }
