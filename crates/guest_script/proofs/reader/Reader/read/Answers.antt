use Rattle.std.proofs.Common.{sym, arith}
use Rattle.guest_script.proofs.PiecesRead.{piece_read}
use Rattle.guest_script.proofs.reader.Reader.read.Goals as goal

pub returns : goal.returns
returns c before read =
    piece_read c.args.self c.self.inside.size c.grown-size.result c.self.inside.progress c.read_lines.new.self before c.args.lines.now
    (sym c.self.view_is) c.requires (omega (arith, c.grown-size.ensures, c.if-size-gt-MOST_BYTES.false)) c.in_ok-read_lines.ensures.read read
