-- What a line gave, with its number.
use Rattle.std.proofs.Common.{◌≡◌, ◌⊎◌, ℕ, List, ◌∷◌, Ok, Err, refl, ap, inl, inr}
use Rattle.guest_script.specs.declared.fault.FaultKind.{FaultKind}
use Rattle.guest_script.specs.declared.fault.FaultKind.TheVariants.{BadByte, NoBoardLine, UnknownWord, BadNumber, WordCount, OtherKind, SecondBlock, TooLong, NoMemory}
use Rattle.guest_script.specs.Grammar.{Draft}
use Rattle.guest_script.specs.Values.{next_in, words_in}
use Rattle.guest_script.specs.FirstFault.{byte_test, line_tests, no_memory}
use Rattle.guest_script.specs.Reading.{line_from, located, located_fault, tested}

module _ (n : ℕ) (draft : Draft) (text : List ℕ) where
  pub line_gave : (next : Draft) → tested (byte_test text ∷ line_tests draft (words_in text)) (next_in n draft (words_in text)) ≡ Ok next → line_from n draft text ≡ Ok next
  unfolding line_from
  line_gave next read = ap (located n) read

  at_line_or_lacks : (fault : FaultKind) → line_from n draft text ≡ Err (record { line = n; fault = fault }) → (located_fault n fault ≡ no_memory) ⊎ (line_from n draft text ≡ Err (located_fault n fault))
  at_line_or_lacks BadByte bad = inr bad
  at_line_or_lacks NoBoardLine bad = inr bad
  at_line_or_lacks UnknownWord bad = inr bad
  at_line_or_lacks BadNumber bad = inr bad
  at_line_or_lacks WordCount bad = inr bad
  at_line_or_lacks OtherKind bad = inr bad
  at_line_or_lacks SecondBlock bad = inr bad
  at_line_or_lacks TooLong bad = inr bad
  at_line_or_lacks NoMemory bad = inl refl

  pub line_lacks : (fault : FaultKind) → (fault ≡ NoMemory) ⊎ (tested (byte_test text ∷ line_tests draft (words_in text)) (next_in n draft (words_in text)) ≡ Err fault)
      → (located_fault n fault ≡ no_memory) ⊎ (line_from n draft text ≡ Err (located_fault n fault))
  unfolding line_from
  line_lacks fault (inl memory) = rw memory (inl refl)
  line_lacks fault (inr read) = at_line_or_lacks fault (ap (located n) read)
