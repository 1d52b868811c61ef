use Rattle.std.proofs.Common.{◌≡◌, drop, map}
use Rattle.asm_program.specs.Inside.Passes.{laid_in, laid_of, nothing_laid}
use Rattle.asm_program.specs.Parts.{piece_of}
use Rattle.asm_program.proofs.layout.lay_out.Given as goal

abbrev pub invariant-loop-i : goal.invariant-loop-i
invariant-loop-i l =
    laid_in l.i (laid_of l.layout) (map piece_of (drop l.i l.parts)) ≡ laid_in 0 (nothing_laid l.fn.bases) (map piece_of l.parts)
