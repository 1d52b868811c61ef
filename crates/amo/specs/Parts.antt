-- The parts of a word of 8 bytes, by their sizes and addresses. The lowest byte has the lowest address (unprivileged ISA
-- 20191213, 2.6).
use Rattle.std.specs.Prelude.{ℕ, ◌+◌, ◌-◌, ◌*◌, ◌/◌, ◌%◌, ◌^◌, ◌==◌, if◌then◌else◌}

-- the number of bits below the part of so many bytes, naturally aligned, that has the address
abbrev pub bits_below : (size at : ℕ) → ℕ
bits_below size at = 8 * (at % 8 - at % size)

-- The part of the word, of so many bytes, that has the address.
abbrev pub word_part : (size at word : ℕ) → ℕ
word_part size at word = word / 2 ^ bits_below size at % 2 ^ (8 * size)

-- The word with this value, or its low bytes, as that part: the bytes above and below stay.
abbrev pub with_part : (size at word value : ℕ) → ℕ
with_part size at word value =
    (word / 2 ^ bits_below size at / 2 ^ (8 * size) * 2 ^ (8 * size) + value % 2 ^ (8 * size)) * 2 ^ bits_below size at
    + word % 2 ^ bits_below size at

-- The address of the word of 8 bytes around an address that is naturally aligned. Any other address is left as it is,
-- and so isn't aligned to 8.
abbrev pub word_at : (size at : ℕ) → ℕ
word_at size at = if at % size == 0 then at - at % 8 else at
