use Rattle.std.proofs.Common.{ℕ, List, [], ◌∷◌, ◌++◌, ap, ◌∙◌}
use Rattle.std.proofs.lemmas.List.{flat_map_more}
use Rattle.test_report.specs.Lines.{indented}
use Rattle.test_report.proofs.page.note_lines.Goals as goal

pub loop-note-preserved : goal.loop-note-preserved
loop-note-preserved c =
    let before = c.loop-note.invariant in
    let line : List ℕ = c.as_str.result.now in
    let sign : List ℕ = c.args.sign.now in
    (before.0 ++ line ∷ [], c.in_ok-put_indented.ensures ∙ ap (λ (t : List ℕ). t ++ indented sign line) before.1 ∙ flat_map_more (indented sign) [] before.0 line)
