use Rattle.std.proofs.lemmas.Result.{err_from_is_err_and}
use Rattle.condition_script.proofs.Asked.{either}
use Rattle.condition_script.proofs.asking.without.Goals as goal

pub returns-in_err-step : goal.returns-in_err-step
returns-in_err-step c =
    let p = err_from_is_err_and c.from_residual.result c.from_residual.ensures.1 in
    rw (p.1, p.2) (either (λ none a asks. none asks.0 asks.2) c.in_err-step.ensures)
