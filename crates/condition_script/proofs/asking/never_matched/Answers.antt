use Rattle.std.proofs.lemmas.Result.{err_from_is_err_and}
use Rattle.condition_script.proofs.Asked.{either, no_never}
use Rattle.condition_script.specs.Inside.Reading.{texts}
use Rattle.condition_script.proofs.asking.never_matched.Goals as goal

pub returns-in_err-p-in-Some : goal.returns-in_err-p-in-Some
returns-in_err-p-in-Some c =
    let p = err_from_is_err_and c.from_residual.result c.from_residual.ensures.1 in
    rw (p.1, p.2) (either (no_never (texts c.args.words.now) _ _ c.in-Some.ensures.1 c.in-Some.ensures.2 c.in-Some.ensures.3) c.in_err-p-in-Some.ensures)
