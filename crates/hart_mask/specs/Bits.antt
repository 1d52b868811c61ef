-- How the bits of a number stand for hart ids.
use Rattle.std.specs.Prelude.{ℕ, ◌^◌, Bool, List, ◌==◌}
use Rattle.std.specs.Int.{bit_at}
use Rattle.std.specs.List.{sum_by}

-- whether a number's bit for an id is 1
abbrev pub is_set : ℕ → ℕ → Bool
is_set n id = bit_at n id == 1

-- the number whose bits for the ids are 1, and no other
unfoldable pub word_of : List ℕ → ℕ
word_of ids = sum_by (λ id. 2 ^ id) ids
