-- Columns of a table (profile).
use Rattle.std.specs.Prelude.{ℕ, ◌-◌, List, ◌++◌, length, replicate, false}
use Rattle.std.specs.Fmt.{digits}

-- a text, with as many of these bytes before it as fill the width
abbrev pub padded : (width byte : ℕ) → List ℕ → List ℕ
padded width byte text = replicate (width - length text) byte ++ text

-- A text, right-aligned in a column of this width.
abbrev pub right : (width : ℕ) → List ℕ → List ℕ
right width text = padded width 32 text

-- A text, left-aligned in a column of this width.
abbrev pub left : (width : ℕ) → List ℕ → List ℕ
left width text = text ++ replicate (width - length text) 32

-- lower case hexadecimal digits with leading zeros
abbrev pub hex_column : (width : ℕ) → ℕ → List ℕ
hex_column width n = padded width 48 (digits 16 false n)
