-- Lines as steps are printed: words of letters, digits and marks, one blank between each two, and a line feed.
use Rattle.std.specs.Prelude.{◌≡◌, ℕ, ℤ, Bool, true, List, [], ◌∷◌, ◌++◌, Option}
use Rattle.std.specs.Str.Parse.{IsNumeral, digits_value}
use Rattle.board_terms.specs.declared.op.Actor.{Actor}
use Rattle.board_terms.specs.declared.op.Op.{Op}
use Rattle.script_lines.specs.declared.op_name.OpName.{OpName}
use Rattle.script_lines.specs.declared.said.Said.{Said}
use Rattle.script_lines.specs.declared.said_name.SaidName.{SaidName}
use Rattle.script_lines.specs.declared.script.Line.{Line}
use Rattle.guest_script.specs.Words.{AreNumbers, IsNumber, IsSigned, last_number}
use Rattle.guest_script.specs.Forms.{form_of, guest_form_of, IsArgument, IsNamed, IsSaid}
use Rattle.guest_script.specs.Grammar.{IsActor, IsStepLine}
use Rattle.script_lines.specs.Names.{op_word, said_word}

-- each word behind a blank
abbrev pub behind : List (List ℕ) → List ℕ
behind [] = []
behind (word ∷ words) = 32 ∷ (word ++ behind words)

-- the bytes begin with digits
abbrev pub BeginsDigits : (radix : ℕ) → List ℕ → ℕ → List ℕ → Type 0
BeginsDigits radix bytes n rest = (digits : List ℕ) × (bytes ≡ digits ++ rest) × IsNumeral radix digits
    × (n ≡ digits_value radix digits)

-- the bytes begin with an actor
abbrev pub BeginsActor : List ℕ → Actor → List ℕ → Type 0
BeginsActor bytes actor rest = (word : List ℕ) × (bytes ≡ word ++ rest) × IsActor word actor

-- the bytes begin with an operation's name
abbrev pub BeginsName : List ℕ → OpName → List ℕ → Type 0
BeginsName bytes name rest = bytes ≡ op_word name ++ rest

-- the bytes begin with a number
abbrev pub BeginsWord : List ℕ → ℕ → List ℕ → Type 0
BeginsWord bytes n rest = (word : List ℕ) × (bytes ≡ word ++ rest) × IsNumber last_number word n

-- the bytes begin with a blank and a number
abbrev pub BeginsNumber : List ℕ → ℕ → List ℕ → Type 0
BeginsNumber bytes n rest = (word : List ℕ) × (bytes ≡ 32 ∷ (word ++ rest)) × IsNumber last_number word n

-- the bytes begin with a blank, and a number or the dash that stands for none
abbrev pub BeginsArgument : List ℕ → Option ℕ → List ℕ → Type 0
BeginsArgument bytes argument rest = (word : List ℕ) × (bytes ≡ 32 ∷ (word ++ rest))
    × IsArgument true last_number word argument

-- the bytes begin with numbers, a blank before each
abbrev pub BeginsNumbers : List ℕ → List ℕ → List ℕ → Type 0
BeginsNumbers bytes ns rest = (words : List (List ℕ)) × (bytes ≡ behind words ++ rest) × AreNumbers last_number words ns

-- the bytes begin with the operation of this name
abbrev pub BeginsNamed : OpName → List ℕ → Op → List ℕ → Type 0
BeginsNamed name bytes op rest = (others : List (List ℕ)) × (bytes ≡ op_word name ++ (behind others ++ rest))
    × IsNamed form_of (op_word name ∷ others) op

-- the bytes begin with the line of a guest's operation
abbrev pub BeginsGuest : List ℕ → Op → List ℕ → Type 0
BeginsGuest bytes op after = (first : List ℕ) × (others : List (List ℕ))
    × (bytes ≡ first ++ (behind others ++ 10 ∷ after)) × IsNamed guest_form_of (first ∷ others) op

-- the bytes begin with a blank and an operation
abbrev pub BeginsOp : List ℕ → Op → List ℕ → Type 0
BeginsOp bytes op rest = (words : List (List ℕ)) × (bytes ≡ behind words ++ rest) × IsNamed form_of words op

-- the bytes begin with a blank and the name of what is said
abbrev pub BeginsSaidName : List ℕ → SaidName → List ℕ → Type 0
BeginsSaidName bytes name rest = bytes ≡ 32 ∷ (said_word name ++ rest)

-- the bytes begin with a signed number
abbrev pub BeginsSigned : List ℕ → ℤ → List ℕ → Type 0
BeginsSigned bytes e rest = (word : List ℕ) × (bytes ≡ word ++ rest) × IsSigned word e

-- the bytes begin with a reply or a refusal
abbrev pub BeginsSaid : List ℕ → Said → List ℕ → Type 0
BeginsSaid bytes said rest = (words : List (List ℕ)) × (bytes ≡ behind words ++ rest) × IsSaid words said

-- the bytes begin with line n, a step, and in a trace what it gave
abbrev pub BeginsLine : (n : ℕ) → (in_trace : Bool) → List ℕ → Line → List ℕ → Type 0
BeginsLine n in_trace bytes line after =
    (first : List ℕ) × (others : List (List ℕ)) × (bytes ≡ first ++ (behind others ++ 10 ∷ after))
    × IsStepLine n in_trace (first ∷ others) line
