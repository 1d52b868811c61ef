use Rattle.std.proofs.Common.{refl}
use Rattle.script_lines.specs.KeptLines.{plain_line}
use Rattle.guest_script.proofs.plain.read_plain_line.Goals as goal

pub returns-in_ok-push_plain-in-Some : goal.returns-in_ok-push_plain-in-Some
returns-in_ok-push_plain-in-Some c c' = (
  plain_line c'.args.n c'.in-Some.plain c'.plain_line.new.numbers.items,
  c'.in-Some.ensures.line c'.args.n,
  rw (c'.in_ok-push_plain-in-Some.ensures, c'.deref.ensures.0) refl,
  c'.in-Some.ensures.shorter,
)
