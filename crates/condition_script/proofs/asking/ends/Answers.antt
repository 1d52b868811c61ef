use Rattle.std.proofs.lemmas.Result.{err_from_is_err_and}
use Rattle.condition_script.proofs.Asked.{either}
use Rattle.condition_script.proofs.asking.ends.Goals as goal

pub returns-in_err-endings : goal.returns-in_err-endings
returns-in_err-endings c =
    let p = err_from_is_err_and c.from_residual.result c.from_residual.ensures.1 in
    rw (p.1, p.2) (either (λ none a asks. none asks.0 asks.3) c.in_err-endings.ensures)
