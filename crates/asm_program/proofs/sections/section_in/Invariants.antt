use Rattle.std.proofs.Common.{◌≡◌, drop, map}
use Rattle.asm_program.specs.Sections.{section_in}
use Rattle.asm_program.proofs.sections.section_in.Given as goal

abbrev pub invariant-loop-row : goal.invariant-loop-row
invariant-loop-row l =
    section_in l.word (map (λ row. (row.0.now, row.1)) (drop l.row-index l.rows)) ≡ section_in l.word (map (λ row. (row.0.now, row.1)) l.rows)
