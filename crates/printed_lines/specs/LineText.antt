-- A line under composition, and the room that its parts take, in bytes.
use Rattle.std.specs.Prelude.{ℕ, ◌+◌, ◌*◌, List, [], ◌∷◌, ◌++◌}

-- the line, followed by each word after a blank
abbrev pub with_words : List ℕ → List (List ℕ) → List ℕ
with_words line [] = line
with_words line (word ∷ words) = with_words (line ++ 32 ∷ word) words

-- the room of a line
abbrev pub line_room : ℕ
line_room = 256

-- the room of a page of lines
abbrev pub page_room : ℕ
page_room = 1024

-- a blank, and the digits of the largest number
abbrev pub decimal_room : ℕ
decimal_room = 21

-- a blank, a sign, and digits
abbrev pub signed_room : ℕ
signed_room = 22

-- a blank, `0x`, and the hexadecimal digits of the largest number
abbrev pub hex_room : ℕ
hex_room = 19

-- a blank, and 16 hexadecimal digits
abbrev pub hex_column_room : ℕ
hex_column_room = 17

-- the room in which a column of hexadecimal digits is composed: a blank, up to 16 zeros, and then up to 16 digits
abbrev pub hex_column_work : ℕ
hex_column_work = 33

-- the word `ecall`, an extension and a function
abbrev pub call_room : ℕ
call_room = 6 + 2 * hex_room

-- the six arguments of a call
abbrev pub arguments_room : ℕ
arguments_room = 6 * hex_room

-- the longest operation: a call
abbrev pub op_room : ℕ
op_room = call_room + arguments_room

-- `#`, `time`, the time, `events`, their count, `power`, `off` and `reset`
abbrev pub power_room : ℕ
power_room = 30 + hex_column_room + decimal_room

-- the type and the reason of a reset
abbrev pub reset_room : ℕ
reset_room = 2 * hex_column_room

-- `#`, `fence`, a hart, `from`, and the hart that asked
abbrev pub fence_room : ℕ
fence_room = 13 + 2 * decimal_room

-- the longest description of a fence: `vma`, a range and an ASID
abbrev pub flush_room : ℕ
flush_room = 9 + 3 * hex_column_room

-- the longest reply: `entry`, an address, a hart and an opaque value
abbrev pub reply_room : ℕ
reply_room = 6 + hex_room + decimal_room + hex_room
