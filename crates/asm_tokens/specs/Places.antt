-- Lines and columns, from 1.
use Rattle.std.specs.Prelude.{ℕ, ◌+◌, ◌-◌, ◌==◌, if◌then◌else◌, List, fold, length, take}
use Rattle.asm_tokens.specs.declared.places.TextPlace.{TextPlace}

-- the place behind a byte
abbrev pub byte_place : TextPlace → ℕ → TextPlace
byte_place place b =
    if b == 10 then record { line = place.line + 1; column = 1 }
    else record { line = place.line; column = place.column + 1 }

-- the place of the first byte
abbrev pub first_place : TextPlace
first_place = record { line = 1; column = 1 }

-- the place behind a text
abbrev pub text_place_after : List ℕ → TextPlace
text_place_after text = fold byte_place first_place text

-- the place from which so many bytes are left to the end
abbrev pub place_in : (text : List ℕ) → (left : ℕ) → TextPlace
place_in text left = text_place_after (take (length text - left) text)
