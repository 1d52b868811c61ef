-- Tokens without where they lie in memory: their number, and parts of them.
use Rattle.std.proofs.Common.{◌≡◌, ℕ, ◌<◌, List, [], ◌∷◌, length, drop, take, refl, sym, arith, None}
use Rattle.std.proofs.lemmas.List.{drop-map, length-map, take-map}
use Rattle.asm_tokens.specs.declared.reader.Placed.{Placed}
use Rattle.asm_tokens.specs.Readings.{TokenSpot, spots_of, token_spot}
use Rattle.asm_instructions.specs.Operands.{base_behind}

pub spots_length : (tokens : List Placed) → length (spots_of tokens) ≡ length tokens
spots_length tokens = length-map tokens token_spot

pub spots_front : (n : ℕ) (tokens : List Placed) → spots_of (take n tokens) ≡ take n (spots_of tokens)
spots_front n tokens = sym (take-map token_spot n tokens)

pub spots_behind : (n : ℕ) (tokens : List Placed) → spots_of (drop n tokens) ≡ drop n (spots_of tokens)
spots_behind n tokens = sym (drop-map token_spot n tokens)

-- a base has three tokens
pub base_longer : (tokens : List TokenSpot) → length tokens < 3 → base_behind tokens ≡ None
base_longer [] few = refl
base_longer (a ∷ []) few = refl
base_longer (a ∷ b ∷ []) few = refl
base_longer (a ∷ b ∷ c ∷ tokens) few = absurd (omega arith)

pub base_shorter : (tokens : List TokenSpot) → 3 < length tokens → base_behind tokens ≡ None
base_shorter [] many = absurd (omega arith)
base_shorter (a ∷ []) many = absurd (omega arith)
base_shorter (a ∷ b ∷ []) many = absurd (omega arith)
base_shorter (a ∷ b ∷ c ∷ []) many = absurd (omega arith)
base_shorter (a ∷ b ∷ c ∷ d ∷ tokens) many = refl
