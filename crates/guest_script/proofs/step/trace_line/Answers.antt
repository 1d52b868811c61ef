use Rattle.std.proofs.Common.{true, Some}
use Rattle.script_lines.specs.declared.said.Said.{Said}
use Rattle.script_lines.specs.declared.script.Doing.{Doing}
use Rattle.script_lines.specs.declared.script.Line.{Line}
use Rattle.guest_script.specs.FirstFault.{step_tests}
use Rattle.guest_script.specs.Values.{after_arrow, before_arrow, said_in, doing_in, words_in}
use Rattle.guest_script.proofs.Named.{made_good}
use Rattle.guest_script.proofs.step.trace_line.Goals as goal

pub returns-clause-read : goal.returns-clause-read
returns-clause-read c =
    let first = c.args.first.now in
    let words = words_in c.args.rest.now in
    let line : Doing × Said → Line = λ told. record { number = c.args.n; doing = told.0; said = Some told.1 } in
    made_good line (step_tests true first words) (doing_in first (before_arrow words), said_in (after_arrow words)) c.in_ok-told.told c.in_ok-told.ensures.read
