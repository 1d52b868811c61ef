use Rattle.hart_threads.proofs.Owning.{is-history}
use Rattle.hart_threads.proofs.histories.runs_are_histories.Goals as goal

pub returns : goal.returns
returns g c o guests ticks past end legal run = is-history (g.G.Gate.lets c.args.gate.now) o (record { guests = guests; ticks = ticks }) past end legal run
