use Rattle.std.proofs.Common.{◌++◌, refl, take, arith}
use Rattle.std.proofs.lemmas.Result.{err_from_is_err_and}
use Rattle.guest_script.specs.FirstFault.{no_memory}
use Rattle.script_tasks.specs.declared.device.pieces.ReadFault.TheVariants.{Script as NoScript}
use Rattle.script_tasks.proofs.Taken.{end_known, lacking}
use Rattle.script_tasks.proofs.device.pieces.read_script.Goals as goal

pub returns-in_err-resize-clause-script : goal.returns-in_err-resize-clause-script
returns-in_err-resize-clause-script g c =
    let p = err_from_is_err_and c.from_residual.result c.from_residual.ensures.1 in
    rw (p.1, p.2) (lacking (g.S.Source.left c.args.source.now) (NoScript no_memory) refl)

pub returns-in_err-read-clause-script : goal.returns-in_err-read-clause-script
returns-in_err-read-clause-script g c =
    let p = err_from_is_err_and c.from_residual-in_err-read.result c.from_residual-in_err-read.ensures.1 in
    rw (p.1, p.2) (lacking (g.S.Source.left c.args.source.now) c.in_err-read.field-0.0 c.in_err-read.ensures.lacks)

pub returns-in_err-end-clause-script : goal.returns-in_err-end-clause-script
returns-in_err-end-clause-script g c =
    let p = err_from_is_err_and c.from_residual-in_err-end.result c.from_residual-in_err-end.ensures.1 in
    let all = c.in_ok-read.ensures.taken in
    let answered = c.end.ensures all.1.given all.1.read in
    rw (p.1, p.2) (all.1.given ++ take c.in_ok-read.read.1 c.read_pieces.new.bytes.items, rw (c.in_err-end.was, c.deref.ensures.value) at answered, end_known _ _ _ _ all)

pub returns-clause-script : goal.returns-clause-script
returns-clause-script g c =
    let all = c.in_ok-read.ensures.taken in
    let answered = c.end.ensures all.1.given all.1.read in
    (all.1.given ++ take c.in_ok-read.read.1 c.read_pieces.new.bytes.items, rw (c.in_ok-end.was, c.deref.ensures.value) at answered, end_known _ _ _ _ all)

pub returns-clause-end : goal.returns-clause-end
returns-clause-end g c =
    let all = c.in_ok-read.ensures.taken in
    let answered = c.end.ensures all.1.given all.1.read in
    let reads = (rw (c.in_ok-end.was, c.deref.ensures.value) at answered).script in
    all.3 (omega (arith, reads.0, all.1.long))
