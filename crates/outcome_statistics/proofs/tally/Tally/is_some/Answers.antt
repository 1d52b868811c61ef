use Rattle.std.proofs.lemmas.Bool.{lt-ltb, ltb-true}
use Rattle.outcome_statistics.specs.Records.{IsSo}
use Rattle.outcome_statistics.proofs.Counting.{some-tells}
use Rattle.outcome_statistics.proofs.tally.Tally.is_some.Goals as goal

pub returns : goal.returns
returns c asked tried tells =
    let some = some-tells (IsSo asked) tried c.args.self.now tells in
    ((λ yes. some.0 (ltb-true 0 c.args.self.now.holding yes)), (λ one. lt-ltb 0 c.args.self.now.holding (some.1 one)))
