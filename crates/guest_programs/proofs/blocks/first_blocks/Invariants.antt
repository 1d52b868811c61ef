use Rattle.std.proofs.Common.{◌≡◌, ℕ, map, drop}
use Rattle.std.specs.BTreeMap.{get}
use Rattle.std.specs.Ordering.{nat_cmp}
use Rattle.guest_script.specs.Grammar.{guest}
use Rattle.guest_programs.specs.Blocks.{block_at, ops_found}
use Rattle.guest_programs.proofs.blocks.first_blocks.Given as goal

abbrev pub invariant-loop-i : goal.invariant-loop-i
invariant-loop-i l = (addr : ℕ) → ops_found (map guest l.blocks) (get nat_cmp l.first addr) ≡ block_at (map guest (drop l.i l.blocks)) addr
