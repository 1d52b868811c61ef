-- `and` and `or` (profile).
use Rattle.std.specs.Prelude.{Bool, true, false, ◌&&◌, ◌||◌, if◌then◌else◌, ℕ, List, [], ◌∷◌, codes, Option, Some, None, option_and_then}
use Rattle.std.specs.Str.{bytes_eq}
use Rattle.asm_tokens.specs.declared.marks.Mark.TheVariants as marks
use Rattle.asm_tokens.specs.Readings.{TokenSpot}
use Rattle.asm_tokens.specs.Tokens.{Lexeme}
use Rattle.asm_tokens.specs.Tokens.Lexeme.{Mark, Word}
use Rattle.end_conditions.specs.declared.connectives.Connective.{Connective}
use Rattle.end_conditions.specs.declared.connectives.Connective.TheVariants.{And, Or}
use Rattle.end_conditions.specs.declared.connectives.Level.{Level}
use Rattle.end_conditions.specs.declared.connectives.Level.TheVariants.{Either, Both}

-- what they make of two claims
abbrev pub connected : Connective → (first second : Bool) → Bool
connected And first second = first && second
connected Or first second = first || second

-- the connectives of a level: `and` binds tighter than `or`
abbrev pub connects_at : Level → Connective → Bool
connects_at Either Or = true
connects_at Both And = true
connects_at level connective = false

abbrev pub of_word : (word : List ℕ) → Option Connective
of_word word =
    if bytes_eq word (codes "and") then Some And
    else (if bytes_eq word (codes "or") then Some Or else None)

-- the connective that a token is
abbrev pub connective_of : Lexeme → Option Connective
connective_of (Mark marks.And) = Some And
connective_of (Mark marks.Or) = Some Or
connective_of (Word word) = of_word word
connective_of lexeme = None

abbrev pub connective_at : Level → (behind : List TokenSpot) → Connective → Option (Connective × List TokenSpot)
connective_at level behind connective = if connects_at level connective then Some (connective, behind) else None

-- The connective of a level that tokens begin with, and the tokens behind it.
abbrev pub connective_in : Level → List TokenSpot → Option (Connective × List TokenSpot)
connective_in level [] = None
connective_in level (first ∷ behind) = option_and_then (connective_at level behind) (connective_of first.lexeme)
