use Rattle.std.proofs.lemmas.Result.{err_from_is_err_and}
use Rattle.condition_script.proofs.Asked.{either, no_before}
use Rattle.condition_script.specs.Inside.Reading.{texts}
use Rattle.condition_script.proofs.asking.ordered.Goals as goal

pub returns-in_err-p-in-Some : goal.returns-in_err-p-in-Some
returns-in_err-p-in-Some c =
    let p = err_from_is_err_and c.from_residual-in_err-p-in-Some.result c.from_residual-in_err-p-in-Some.ensures.1 in
    rw (p.1, p.2) (either (no_before (texts c.args.words.now) (texts c.deref.result.now) _ _ (rw c.deref.ensures.value c.in_ok-words.ensures) c.in-Some.ensures.2 c.in-Some.ensures.3) (rw (c.deref-in-Some.ensures.value, ← c.deref.ensures.value) at c.in_err-p-in-Some.ensures))
