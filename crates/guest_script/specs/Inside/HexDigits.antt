-- Hexadecimal digits in lower case, as they are read sixteen bytes at a time.
use Rattle.std.specs.Prelude.{ℕ, ◌+◌, ◌*◌, nat_le, nat_lt, Bool, not, ◌&&◌, ◌||◌, if◌then◌else◌, List, [], ◌∷◌, bit_and}

-- whether a byte is no digit from 0 to 9 or from a to f
abbrev pub is_other : ℕ → Bool
is_other byte = not ((nat_le 48 byte && nat_lt byte 58) || (nat_le 97 byte && nat_lt byte 103))

-- the value of a digit
abbrev pub nibble : ℕ → ℕ
nibble byte = bit_and (bit_and byte 15 + (if nat_le 97 byte then 9 else 0)) 15

-- the number whose digits are those of n and then these
abbrev pub number_after : (n : ℕ) → List ℕ → ℕ
number_after n [] = n
number_after n (digit ∷ digits) = number_after (n * 16 + digit) digits
