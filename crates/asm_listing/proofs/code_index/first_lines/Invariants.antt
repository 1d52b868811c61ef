use Rattle.std.proofs.Common.{◌≡◌, ℕ, drop}
use Rattle.std.specs.BTreeMap.{get}
use Rattle.std.specs.Ordering.{nat_cmp}
use Rattle.asm_listing.specs.Listed.{instruction_in, line_found}
use Rattle.asm_listing.proofs.code_index.first_lines.Given as goal

abbrev pub invariant-loop-i : goal.invariant-loop-i
invariant-loop-i l = (at : ℕ) → line_found l.lines (get nat_cmp l.first at) ≡ instruction_in (drop l.i l.lines) at
