use Rattle.std.specs.Prelude.{◌≡◌, ◌++◌, flat_map, string_bytes}
use Rattle.test_report.specs.Lines.{indented_letter}
use Rattle.test_report.proofs.tap.put_lines.Given as goal

abbrev pub invariant-loop-letter : goal.invariant-loop-letter
invariant-loop-letter l = string_bytes l.text ≡ string_bytes l.fn.text ++ flat_map (indented_letter l.margin) l.yielded
