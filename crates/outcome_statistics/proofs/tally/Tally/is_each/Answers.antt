use Rattle.std.proofs.lemmas.Bool.{eqb-true, eq-eqb}
use Rattle.outcome_statistics.specs.Records.{IsSo}
use Rattle.outcome_statistics.proofs.Counting.{each-tells}
use Rattle.outcome_statistics.proofs.tally.Tally.is_each.Goals as goal

pub returns : goal.returns
returns c asked tried tells =
    let each = each-tells (IsSo asked) tried c.args.self.now tells in
    ((λ yes. each.0 (eqb-true c.args.self.now.failing 0 yes)), (λ all. eq-eqb c.args.self.now.failing 0 (each.1 all)))
