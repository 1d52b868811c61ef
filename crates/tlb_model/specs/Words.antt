-- Fetched words, and the fences that drop them (Zifencei).
use Rattle.std.specs.Prelude.{ℕ, Bool, true, false, ◌==◌}
use Rattle.tlb_model.specs.declared.fence.Flush.{Flush}
use Rattle.tlb_model.specs.declared.fence.Flush.TheVariants.{Words, Entries}
use Rattle.tlb_model.specs.declared.word.FetchWord.{FetchWord}

-- whether the word was fetched from this physical address
abbrev pub is_at : ℕ → FetchWord → Bool
is_at pa fetched = fetched.pa == pa

-- A FENCE.I covers every fetched word, and an SFENCE.VMA covers none (Zifencei; Privileged 4.2.1).
abbrev pub covers_word : Flush → FetchWord → Bool
covers_word Words fetched = true
covers_word (Entries fence) fetched = false
