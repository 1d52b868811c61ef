use Rattle.std.proofs.Common.{sym, arith}
use Rattle.guest_script.specs.Reading.{plainly}
use Rattle.guest_script.proofs.PiecesRead.{all_long, all_read, answered}
use Rattle.guest_script.proofs.reader.Reader.locate.Goals as goal

pub returns-then-grown-gt-MOST_BYTES : goal.returns-then-grown-gt-MOST_BYTES
returns-then-grown-gt-MOST_BYTES c before read =
    answered c.args.self c.self.inside.size c.self.inside.progress before c.args.rest.now _ (sym c.self.view_is) read
    (all_long c.self.inside.size c.self.inside.progress c.args.rest.now (omega (arith, c.grown.ensures, c.if-grown-gt-MOST_BYTES.true)))

pub returns-in-Ok : goal.returns-in-Ok
returns-in-Ok c before read =
    answered c.args.self c.self.inside.size c.self.inside.progress before c.args.rest.now (plainly c.script.result) (sym c.self.view_is) read
    (all_read c.self.inside.size c.self.inside.progress c.read_lines.new.self c.args.rest.now (plainly c.script.result)
    (omega (arith, c.grown.ensures, c.if-grown-gt-MOST_BYTES.false)) c.in-Ok.ensures.read c.script.ensures)
