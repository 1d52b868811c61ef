use Rattle.std.proofs.Common.{◌+◌}
use Rattle.std.proofs.lemmas.List.{take_rest}
use Rattle.std.proofs.lemmas.Result.{err_from_is_err_and}
use Rattle.condition_script.proofs.Asked.{either, no_reply}
use Rattle.condition_script.specs.Inside.Reading.{texts}
use Rattle.condition_script.proofs.asking.pattern.Goals as goal

pub returns-in_err-reply-in-Some : goal.returns-in_err-reply-in-Some
returns-in_err-reply-in-Some c =
    let p = err_from_is_err_and c.from_residual-in_err-reply-in-Some.result c.from_residual-in_err-reply-in-Some.ensures.1 in
    rw (p.1, p.2) (either (no_reply (texts c.args.words.now) _ c.in-Some.ensures.1 c.in-Some.ensures.3) (rw (take_rest c.args.words.now (c.in-Some.k + 1)) at c.in_err-reply-in-Some.ensures))
