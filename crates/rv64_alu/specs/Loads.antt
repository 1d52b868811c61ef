-- What loads take from the word of 8 bytes around their address. The lowest byte has the lowest address (unprivileged ISA
-- 20191213, 2.6, 5.3).
use Rattle.std.specs.Prelude.{ℕ, ◌-◌, ◌*◌, ◌/◌, ◌%◌, ◌^◌}
use Rattle.std.specs.Int.{cast_signed, cast_unsigned, w8, w16, w64}
use Rattle.rv64_alu.specs.declared.load.LoadKind.{LoadKind}
use Rattle.rv64_alu.specs.declared.load.LoadKind.TheVariants.{Lb, Lh, Lw, Ld, Lbu, Lhu, Lwu}
use Rattle.rv64_alu.specs.Words.{extended}

-- the number of bytes that it loads
abbrev pub load_size : LoadKind → ℕ
load_size Lb = 1
load_size Lh = 2
load_size Lw = 4
load_size Ld = 8
load_size Lbu = 1
load_size Lhu = 2
load_size Lwu = 4

-- the number of bits below the part of so many bytes, naturally aligned, that has the address
abbrev pub lower_bits : (size at : ℕ) → ℕ
lower_bits size at = 8 * (at % 8 - at % size)

-- the part of the word, of so many bytes, that has the address
abbrev pub loaded_part : (size at word : ℕ) → ℕ
loaded_part size at word = word / 2 ^ lower_bits size at % 2 ^ (8 * size)

-- The value that it loads from the word. One with a `u` has zeros above, any other copies of the sign.
abbrev pub loaded : LoadKind → (at word : ℕ) → ℕ
loaded Lb at word = cast_unsigned w64 (cast_signed w8 (loaded_part 1 at word))
loaded Lh at word = cast_unsigned w64 (cast_signed w16 (loaded_part 2 at word))
loaded Lw at word = extended (loaded_part 4 at word)
loaded Ld at word = word
loaded Lbu at word = loaded_part 1 at word
loaded Lhu at word = loaded_part 2 at word
loaded Lwu at word = loaded_part 4 at word
