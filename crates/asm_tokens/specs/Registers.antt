-- Names of registers (RISC-V psABI, Integer Register Convention).
use Rattle.std.specs.Prelude.{ℕ, ◌+◌, ◌-◌, ◌*◌, ◌&&◌, ◌==◌, nat_le, if◌then◌else◌, List, [], ◌∷◌, codes, Option, Some, None, option_and_then}
use Rattle.std.specs.Int.{is_in_range}
use Rattle.std.specs.Str.{bytes_eq}

-- the value of a decimal digit
abbrev pub digit_in : ℕ → Option ℕ
digit_in b = if is_in_range 48 57 b then Some (b - 48) else None

abbrev pub two_digits : Option ℕ → Option ℕ → Option ℕ
two_digits None one = None
two_digits (Some ten) None = None
two_digits (Some ten) (Some one) = Some (10 * ten + one)

-- the number of one or two decimal digits; two don't begin with 0
abbrev pub index_in : List ℕ → Option ℕ
index_in [] = None
index_in (one ∷ []) = digit_in one
index_in (ten ∷ one ∷ []) = if ten == 48 then None else two_digits (digit_in ten) (digit_in one)
index_in digits = None

-- the register with this letter and index: x0 to x31; a0 to a7 are x10 to x17; s0 and s1 x8 and x9, s2 to s11 x18 to x27; t0 to
-- t2 x5 to x7, t3 to t6 x28 to x31
abbrev pub family_number : (letter index : ℕ) → Option ℕ
family_number letter index =
    if (letter == 120) && nat_le index 31 then Some index
    else (if (letter == 97) && nat_le index 7 then Some (10 + index)
    else (if (letter == 115) && nat_le index 1 then Some (8 + index)
    else (if (letter == 115) && nat_le index 11 then Some (16 + index)
    else (if (letter == 116) && nat_le index 2 then Some (5 + index)
    else (if (letter == 116) && nat_le index 6 then Some (25 + index)
    else None)))))

abbrev pub numbered : List ℕ → Option ℕ
numbered [] = None
numbered (letter ∷ digits) = option_and_then (family_number letter) (index_in digits)

-- the register with a name of its own: zero, ra, sp, gp, tp are x0 to x4, and fp is s0
abbrev pub named_number : List ℕ → Option ℕ
named_number word =
    if bytes_eq word (codes "zero") then Some 0
    else (if bytes_eq word (codes "ra") then Some 1
    else (if bytes_eq word (codes "sp") then Some 2
    else (if bytes_eq word (codes "gp") then Some 3
    else (if bytes_eq word (codes "tp") then Some 4
    else (if bytes_eq word (codes "fp") then Some 8
    else None)))))

abbrev pub register_or : Option ℕ → Option ℕ → Option ℕ
register_or None other = other
register_or (Some n) other = Some n

-- The number of the register of this name.
abbrev pub register_in : List ℕ → Option ℕ
register_in word = register_or (named_number word) (numbered word)
