use Rattle.std.proofs.Common.{◌≡◌, ◌==◌, drop}
use Rattle.std.specs.List.{list_any}
use Rattle.asm_listing.proofs.code_index.is_among.Given as goal

abbrev pub invariant-loop-end : goal.invariant-loop-end
invariant-loop-end l = list_any (λ end. end == l.pc) (drop l.end-index l.ends) ≡ list_any (λ end. end == l.pc) l.ends
