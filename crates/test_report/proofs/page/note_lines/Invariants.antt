use Rattle.std.specs.Prelude.{◌≡◌, ℕ, List, flat_map, string_bytes}
use Rattle.test_report.specs.Lines.{indented}
use Rattle.test_report.proofs.page.note_lines.Given as goal

abbrev pub invariant-loop-note : goal.invariant-loop-note
invariant-loop-note l = (lines : List (List ℕ)) × (string_bytes l.text ≡ flat_map (indented l.sign) lines)
