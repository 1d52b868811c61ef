use Rattle.std.proofs.Common.{◌∙◌}
use Rattle.std.proofs.lemmas.Result.{err_from_is_err_and}
use Rattle.guest_script.specs.FirstFault.{script_fault}
use Rattle.guest_script.specs.Inside.Drafts.{draft_of}
use Rattle.guest_script.proofs.LinesFrom.{bad_behind, bad_line, goes_on}
use Rattle.guest_script.proofs.draft.BodyDraft.read_some.Goals as goal

pub returns-in_err-read_line-clause-read : goal.returns-in_err-read_line-clause-read
returns-in_err-read_line-clause-read c =
    let p = err_from_is_err_and c.from_residual.result c.from_residual.ensures.1 in
    let bad = bad_line c.in-Ok.next
    (draft_of c.read_printed.new.self) c.in-Ok.rest.now c.next_line.result.0.now c.next_line.result.1.now c.next_line.ensures.lines (script_fault c.in_err-read_line.field-0.0) c.in_err-read_line.ensures in
    rw (p.1, p.2) (bad_behind c.args.n (draft_of c.args.self.now) c.args.bytes.now c.in-Ok.next
    (draft_of c.read_printed.new.self) c.in-Ok.rest.now c.in-Ok.ensures.read (script_fault c.in_err-read_line.field-0.0) bad)

pub returns-clause-read : goal.returns-clause-read
returns-clause-read c =
    λ more. c.in-Ok.ensures.read more
    ∙ goes_on c.in-Ok.next (draft_of c.read_printed.new.self) c.in-Ok.rest.now c.next_line.result.0.now c.next_line.result.1.now c.next_line.ensures.lines
    (draft_of c.read_line.new.self) c.in_ok-read_line.ensures more
