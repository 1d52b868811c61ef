-- Addresses past the last one of 64 bits.
use Rattle.std.proofs.Common.{◌≡◌, ℕ, ◌^◌, ◌≤◌, List, None, arith}
use Rattle.std.proofs.lemmas.Bool.Decides.{nat_tests}
use Rattle.sv39.specs.Memory.{word_in}

pub no_word_past : (words : List ℕ) (a : ℕ) → 2 ^ 64 ≤ a → word_in words a ≡ None
unfolding word_in
no_word_past words a past = grind (arith, nat_tests)
