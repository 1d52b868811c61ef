use Rattle.std.proofs.Common.{◌≡◌, drop, map}
use Rattle.asm_mnemonics.specs.Mnemonics.{row_form}
use Rattle.asm_mnemonics.proofs.mnemonics.row_form.Given as goal

abbrev pub invariant-loop-row : goal.invariant-loop-row
invariant-loop-row l =
    row_form l.word (map (λ row. (row.0.now, row.1)) (drop l.row-index l.rows)) ≡ row_form l.word (map (λ row. (row.0.now, row.1)) l.rows)
