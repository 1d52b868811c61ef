-- What an operation on the word of 8 bytes around its address reads and writes: AMOs (unprivileged ISA 20191213, 8.4),
-- compare-and-swap (Zacas), and stores of 1, 2 and 4 bytes (unprivileged ISA 2.6).
use Rattle.std.specs.Prelude.{ℕ, ◌%◌, ◌^◌, Bool, true, false, ◌==◌, if◌then◌else◌, List, [], ◌∷◌}
use Rattle.std.specs.Int.{cast_signed, cast_unsigned, w32, w64}
use Rattle.amo.specs.declared.amo.Amo.{Amo}
use Rattle.amo.specs.declared.amo.Amo.TheVariants.{Double, Half, Cas, Store1, Store2, Store4}
use Rattle.amo.specs.Functions.{made}
use Rattle.amo.specs.Parts.{with_part, word_part}

-- The number of bytes that it reads or writes. Its address is aligned to it, or the access fails.
abbrev pub amo_size : Amo → ℕ
amo_size (Double function operand) = 8
amo_size (Half function operand) = 4
amo_size (Cas expected value) = 8
amo_size (Store1 value) = 1
amo_size (Store2 value) = 2
amo_size (Store4 value) = 4

-- whether it reads the old value; a store only writes
abbrev pub reads : Amo → Bool
reads (Store1 value) = false
reads (Store2 value) = false
reads (Store4 value) = false
reads amo = true

-- The old value that it reads, from the word. One of 4 bytes is sign-extended (unprivileged ISA 8.4). A store reads 0
-- (profile).
abbrev pub old_value : Amo → (at word : ℕ) → ℕ
old_value (Double function operand) at word = word
old_value (Half function operand) at word = cast_unsigned w64 (cast_signed w32 (word_part 4 at word))
old_value (Cas expected value) at word = word
old_value (Store1 value) at word = 0
old_value (Store2 value) at word = 0
old_value (Store4 value) at word = 0

-- The word after it. Of an AMO on 4 bytes the low 4 bytes of the operand count (unprivileged ISA 8.4). A compare-and-swap
-- writes its value if the word is the expected one, and nothing otherwise (Zacas).
abbrev pub new_word : Amo → (at word : ℕ) → ℕ
new_word (Double function operand) at word = made function w64 word operand
new_word (Half function operand) at word =
    with_part 4 at word (made function w32 (word_part 4 at word) (operand % 2 ^ 32))
new_word (Cas expected value) at word = if word == expected then value else word
new_word (Store1 value) at word = with_part 1 at word value
new_word (Store2 value) at word = with_part 2 at word value
new_word (Store4 value) at word = with_part 4 at word value

-- its numbers, in their order
abbrev pub numbers : Amo → List ℕ
numbers (Double function operand) = operand ∷ []
numbers (Half function operand) = operand ∷ []
numbers (Cas expected value) = expected ∷ value ∷ []
numbers (Store1 value) = value ∷ []
numbers (Store2 value) = value ∷ []
numbers (Store4 value) = value ∷ []
