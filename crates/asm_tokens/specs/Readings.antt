-- The tokens of a text, and its first fault.
use Rattle.std.specs.Prelude.{◌≡◌, ℕ, List, [], ◌∷◌, length, map}
use Rattle.asm_tokens.specs.declared.reader.TokenFault.{TokenFault}
use Rattle.asm_tokens.specs.declared.reader.Placed.{Placed}
use Rattle.asm_tokens.specs.declared.reader.TokensFault.{TokensFault}
use Rattle.asm_tokens.specs.declared.reader.TokensFault.TheVariants.{Wrong, NoMemory}
use Rattle.asm_tokens.specs.Tokens.{Lexeme, first, lexeme_of}
use Rattle.asm_tokens.specs.Tokens.Reading.{Begins, Gap, Faulty}

-- a token, and the number of bytes from it to the end of the text
pub record TokenSpot : Type 0 where
  pub lexeme : Lexeme
  pub left : ℕ

-- a token as it was read, without where its text lies in memory
abbrev pub token_spot : Placed → TokenSpot
token_spot placed = record { lexeme = lexeme_of placed.token; left = placed.left }

-- tokens as they were read
abbrev pub spots_of : List Placed → List TokenSpot
spots_of tokens = map token_spot tokens

-- one thing read: a gap, or a token
pub data TextPart : Type 0 where
  Passed : TextPart
  Took : TokenSpot → TextPart

-- the tokens among the parts
abbrev pub tokens_among : List TextPart → List TokenSpot
tokens_among [] = []
tokens_among (Passed ∷ parts) = tokens_among parts
tokens_among (Took spot ∷ parts) = spot ∷ tokens_among parts

-- the text begins with these parts, each as long as it can be, and goes on with the rest
abbrev pub ReadsTo : (text : List ℕ) → List TextPart → (rest : List ℕ) → Type 0
ReadsTo text [] rest = text ≡ rest
ReadsTo text (Passed ∷ parts) rest = (after : List ℕ) × (first text ≡ Gap after) × ReadsTo after parts rest
ReadsTo text (Took spot ∷ parts) rest =
    (after : List ℕ) × (first text ≡ Begins spot.lexeme after) × (spot.left ≡ length text) × ReadsTo after parts rest

-- These are the tokens of a text: all of it are these tokens, blanks and comments.
abbrev pub AreTokens : (text : List ℕ) → List TokenSpot → Type 0
AreTokens text spots = (parts : List TextPart) × ReadsTo text parts [] × (tokens_among parts ≡ spots)

-- The first fault of a text: what stands behind its first tokens, blanks and comments begins nothing of these.
abbrev pub IsFault : (text : List ℕ) → TokenFault → Type 0
IsFault text fault = (parts : List TextPart) × (rest : List ℕ) × ReadsTo text parts rest
    × (first rest ≡ Faulty fault.wrong) × (fault.left ≡ length rest)

-- why a text wasn't read: its first fault, or memory was refused
abbrev pub IsReadFault : (text : List ℕ) → TokensFault → Type 0
IsReadFault text (Wrong fault) = IsFault text fault
IsReadFault text NoMemory = Unit {0}

-- A text has at most one row of tokens, and none if it has a fault; and at most one first fault.
pub record HasOneRow (text : List ℕ) : Type 0 where
  pub tokens : (some others : List TokenSpot) → AreTokens text some → AreTokens text others → some ≡ others
  pub apart : (spots : List TokenSpot) (fault : TokenFault) → AreTokens text spots → ¬ IsFault text fault
  pub fault : (one other : TokenFault) → IsFault text one → IsFault text other → one ≡ other
