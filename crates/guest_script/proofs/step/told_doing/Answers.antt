use Rattle.std.proofs.Common.{refl}
use Rattle.std.proofs.lemmas.Result.{err_from_is_err_and}
use Rattle.guest_script.specs.FirstFault.{doing_tests, said_tests}
use Rattle.guest_script.specs.Values.{after_arrow, before_arrow, said_in, doing_in, words_in}
use Rattle.guest_script.proofs.Named.{both_good, first_bad, second_bad}
use Rattle.guest_script.proofs.step.told_doing.Goals as goal

pub returns-in_err-doing-clause-read : goal.returns-in_err-doing-clause-read
returns-in_err-doing-clause-read c =
    let first = c.args.first.now in
    let words = words_in c.args.rest.now in
    let p = err_from_is_err_and c.from_residual.result c.from_residual.ensures.1 in
    rw (p.1, p.2) (first_bad (doing_tests first (before_arrow words)) (said_tests (after_arrow words)) (doing_in first (before_arrow words)) (said_in (after_arrow words))
    (doing_in first (before_arrow words), said_in (after_arrow words)) _ c.in_err-doing.ensures.read)

pub returns-in_err-said-clause-read : goal.returns-in_err-said-clause-read
returns-in_err-said-clause-read c =
    let first = c.args.first.now in
    let words = words_in c.args.rest.now in
    let p = err_from_is_err_and c.from_residual-in_err-said.result c.from_residual-in_err-said.ensures.1 in
    rw (p.1, p.2) (second_bad (doing_tests first (before_arrow words)) (said_tests (after_arrow words)) (doing_in first (before_arrow words)) (said_in (after_arrow words))
    (doing_in first (before_arrow words), said_in (after_arrow words)) c.in_ok-doing.doing _ c.in_ok-doing.ensures.read (rw c.after_arrow.ensures at c.in_err-said.ensures))

pub returns-clause-read : goal.returns-clause-read
returns-clause-read c =
    let first = c.args.first.now in
    let words = words_in c.args.rest.now in
    both_good (doing_tests first (before_arrow words)) (said_tests (after_arrow words)) (doing_in first (before_arrow words)) c.in_ok-doing.doing (said_in (after_arrow words)) c.in_ok-said.said
    (doing_in first (before_arrow words), said_in (after_arrow words)) (c.in_ok-doing.doing, c.in_ok-said.said) refl refl c.in_ok-doing.ensures.read (rw c.after_arrow.ensures at c.in_ok-said.ensures)
