use Rattle.std.proofs.Common.{sym, ◌∙◌, inr}
use Rattle.std.proofs.lemmas.Result.{err_from_is_err_and}
use Rattle.condition_script.proofs.Asked.{either, no_operation, no_step}
use Rattle.condition_script.proofs.pattern_words.step.Goals as goal

pub returns-in_default-actor : goal.returns-in_default-actor
returns-in_default-actor c = inr (λ items is. no_step c.args.words.now c.in-Some.first.now c.in-Some.rest.now c.in-Some.ensures.cases.0 c.in_default-actor.ensures items is)

pub returns-in_err-named : goal.returns-in_err-named
returns-in_err-named c =
    let p = err_from_is_err_and c.from_residual-in_err-named.result c.from_residual-in_err-named.ensures.1 in
    rw (p.1, p.2) (either (no_operation c.args.words.now c.in-Some.first.now c.in-Some.rest.now c.in-Some.ensures.cases.0 (sym c.is_empty.ensures ∙ c.if-not-is_empty.true)) c.in_err-named.ensures)
