use Rattle.std.proofs.Common.{◌≡◌, Some}
use Rattle.std.specs.List.{AllWithin}
use Rattle.sv39.specs.Memory.{word_in}
use Rattle.any_tlb.proofs.word_watcher.WordWatch.is_steady.Given as goal

abbrev pub invariant-loop-word : goal.invariant-loop-word
invariant-loop-word l = AllWithin (λ word. word_in l.fn.ram l.fn.self.pa ≡ Some word) l.self.words.items 0 l.word-index
