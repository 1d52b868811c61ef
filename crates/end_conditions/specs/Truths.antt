-- Whether an order's end is as an expression says (profile).
use Rattle.std.specs.Prelude.{ℕ, zero, suc, Bool, not, ◌==◌, if◌then◌else◌, List, [], ◌∷◌, codes, length, Option, Some, None, Result, Ok, Err}
use Rattle.std.specs.Str.{bytes_eq}
use Rattle.asm_tokens.specs.declared.marks.Mark.TheVariants as marks
use Rattle.asm_tokens.specs.Readings.{TokenSpot, spots_of}
use Rattle.asm_tokens.specs.Registers.{register_in}
use Rattle.asm_tokens.specs.Tokens.{Lexeme}
use Rattle.asm_tokens.specs.Tokens.Lexeme.{Mark, Word}
use Rattle.asm_expressions.specs.declared.faults.Fault.{Fault}
use Rattle.asm_expressions.specs.declared.faults.Wrong.TheVariants.{BadOperands, Behind, NoValue, OpenParenthesis, OutOfRange, TooDeep, UnknownSymbol}
use Rattle.asm_expressions.specs.Symbols.{Context}
use Rattle.asm_expressions.specs.Values.{left_or_end, value_of, wrong_at}
use Rattle.end_conditions.specs.declared.connectives.Connective.{Connective}
use Rattle.end_conditions.specs.declared.connectives.Level.{Level}
use Rattle.end_conditions.specs.declared.connectives.Level.TheVariants.{Either, Both, Single}
use Rattle.end_conditions.specs.declared.truths.Found.{Found}
use Rattle.end_conditions.specs.declared.truths.NumberFound.{NumberFound}
use Rattle.end_conditions.specs.declared.truths.RegisterFound.{RegisterFound}
use Rattle.end_conditions.specs.Connectives.{connective_in, connected}
use Rattle.end_conditions.specs.Finals.{Finals}

-- steps that may fail: each goes on with what the one before it gave, or stops at what is wrong
infixl 10 ◌>>=◌
abbrev pub ◌>>=◌ : {A B E : Type 0} → Result A E → (A → Result B E) → Result B E
Ok x >>= f = f x
Err wrong >>= f = Err wrong

-- ---- a claim or a number, and the tokens behind it

-- whether the claim holds
pub record TruthRead : Type 0 where
  pub holds : Bool
  pub rest : List TokenSpot

abbrev pub truth_read : (holds : Bool) → List TokenSpot → TruthRead
truth_read holds rest = record { holds = holds; rest = rest }

-- whether a claim holds and what stands behind it, or its first fault
abbrev pub TruthOutcome : Type 0
TruthOutcome = Result TruthRead Fault

abbrev pub truth_found : Result Found Fault → TruthOutcome
truth_found (Ok found) = Ok (truth_read found.holds (spots_of found.rest.now))
truth_found (Err fault) = Err fault

pub record NumberRead : Type 0 where
  pub number : ℕ
  pub rest : List TokenSpot

abbrev pub number_read : (number : ℕ) → List TokenSpot → NumberRead
number_read number rest = record { number = number; rest = rest }

abbrev pub number_as : Result NumberFound Fault → Result NumberRead Fault
number_as (Ok found) = Ok (number_read found.number (spots_of found.rest.now))
number_as (Err fault) = Err fault

abbrev pub register_as : Result RegisterFound Fault → Result NumberRead Fault
register_as (Ok found) = Ok (number_read found.number (spots_of found.rest.now))
register_as (Err fault) = Err fault

-- ---- marks

abbrev pub colon_by : Lexeme → List TokenSpot → Option (List TokenSpot)
colon_by (Mark marks.Colon) rest = Some rest
colon_by lexeme rest = None

-- the tokens behind a `:`
abbrev pub behind_colon : List TokenSpot → Option (List TokenSpot)
behind_colon [] = None
behind_colon (first ∷ behind) = colon_by first.lexeme behind

abbrev pub equals_by : Lexeme → List TokenSpot → Option (List TokenSpot)
equals_by (Mark marks.Equals) rest = Some rest
equals_by lexeme rest = None

-- the tokens behind a `=`
abbrev pub behind_equals : List TokenSpot → Option (List TokenSpot)
behind_equals [] = None
behind_equals (first ∷ behind) = equals_by first.lexeme behind

abbrev pub close_by : Lexeme → List TokenSpot → Option (List TokenSpot)
close_by (Mark marks.Close) rest = Some rest
close_by lexeme rest = None

-- the tokens behind a `)`
abbrev pub behind_closing : List TokenSpot → Option (List TokenSpot)
behind_closing [] = None
behind_closing (first ∷ behind) = close_by first.lexeme behind

-- ---- claims: `HART:REGISTER=VALUE` and `ADDRESS=VALUE`

-- a number or a symbol
abbrev pub number_or_symbol : Context → List TokenSpot → Result NumberRead Fault
number_or_symbol scope [] = wrong_at NoValue scope.end
number_or_symbol scope (first ∷ behind) = do
  value ← value_of scope (first ∷ [])
  Ok (number_read value behind)

abbrev pub wanted_by : Context → List TokenSpot → Option (List TokenSpot) → Result NumberRead Fault
wanted_by scope tokens None = wrong_at BadOperands (left_or_end scope tokens)
wanted_by scope tokens (Some rest) = number_or_symbol scope rest

-- the value behind a `=`
abbrev pub wanted_number : Context → List TokenSpot → Result NumberRead Fault
wanted_number scope tokens = wanted_by scope tokens (behind_equals tokens)

-- what is held is what is wanted; what nothing holds is a fault
abbrev pub compared : (left : ℕ) → (held : Option ℕ) → NumberRead → TruthOutcome
compared left None found = wrong_at OutOfRange left
compared left (Some held) found = Ok (truth_read (held == found.number) found.rest)

abbrev pub register_if_named : (left : ℕ) → List TokenSpot → Option ℕ → Result NumberRead Fault
register_if_named left behind None = wrong_at UnknownSymbol left
register_if_named left behind (Some number) = Ok (number_read number behind)

abbrev pub register_by : Lexeme → (left : ℕ) → List TokenSpot → Result NumberRead Fault
register_by (Word name) left behind = register_if_named left behind (register_in name)
register_by lexeme left behind = wrong_at NoValue left

-- the number of a register
abbrev pub named_register : Context → List TokenSpot → Result NumberRead Fault
named_register scope [] = wrong_at NoValue scope.end
named_register scope (first ∷ behind) = register_by first.lexeme first.left behind

abbrev pub register_claim : Context → Finals → (left hart : ℕ) → List TokenSpot → TruthOutcome
register_claim scope finals left hart tokens = do
  register ← named_register scope tokens
  found ← wanted_number scope register.rest
  compared left (finals.register hart register.number) found

abbrev pub word_claim : Context → Finals → (left address : ℕ) → List TokenSpot → TruthOutcome
word_claim scope finals left address tokens = do
  found ← wanted_number scope tokens
  compared left (finals.word address) found

abbrev pub claim_by : Context → Finals → (left place : ℕ) → List TokenSpot → Option (List TokenSpot) → TruthOutcome
claim_by scope finals left place behind None = word_claim scope finals left place behind
claim_by scope finals left place behind (Some rest) = register_claim scope finals left place rest

-- a claim whose first token is this one
abbrev pub claim : Context → Finals → TokenSpot → (behind : List TokenSpot) → TruthOutcome
claim scope finals first behind = do
  place ← value_of scope (first ∷ [])
  claim_by scope finals first.left place behind (behind_colon behind)

-- ---- `not`, and parentheses

abbrev pub denied : TruthOutcome → TruthOutcome
denied (Err fault) = Err fault
denied (Ok found) = Ok (truth_read (not found.holds) found.rest)

abbrev pub closed_truth : Context → TruthRead → Option (List TokenSpot) → TruthOutcome
closed_truth scope found None = wrong_at OpenParenthesis (left_or_end scope found.rest)
closed_truth scope found (Some rest) = Ok (truth_read found.holds rest)

abbrev pub closes_truth : Context → TruthOutcome → TruthOutcome
closes_truth scope (Err fault) = Err fault
closes_truth scope (Ok found) = closed_truth scope found (behind_closing found.rest)

-- an expression whose opening parenthesis stands before the tokens
abbrev pub enclosed_truth : Context → (truth : Level → List TokenSpot → TruthOutcome) → List TokenSpot → TruthOutcome
enclosed_truth scope truth tokens = closes_truth scope (truth Either tokens)

abbrev pub word_truth : Context → Finals → (truth : Level → List TokenSpot → TruthOutcome) → TokenSpot → (word : List ℕ) → (behind : List TokenSpot) → TruthOutcome
word_truth scope finals truth first word behind =
    if bytes_eq word (codes "not") then denied (truth Single behind) else claim scope finals first behind

abbrev pub first_single : Context → Finals → (truth : Level → List TokenSpot → TruthOutcome) → TokenSpot → Lexeme → (behind : List TokenSpot) → TruthOutcome
first_single scope finals truth first (Word word) behind = word_truth scope finals truth first word behind
first_single scope finals truth first (Mark marks.Tilde) behind = denied (truth Single behind)
first_single scope finals truth first (Mark marks.Open) behind = enclosed_truth scope truth behind
first_single scope finals truth first lexeme behind = wrong_at NoValue first.left

-- A claim, `not` or `~` and what it denies, or an expression in parentheses.
abbrev pub single : Context → Finals → (truth : Level → List TokenSpot → TruthOutcome) → List TokenSpot → TruthOutcome
single scope finals truth [] = wrong_at NoValue scope.end
single scope finals truth (first ∷ behind) = first_single scope finals truth first first.lexeme behind

-- ---- `and` and `or`

abbrev pub connected_to : Connective → (first : Bool) → TruthOutcome → (later : TruthRead → TruthOutcome) → TruthOutcome
connected_to connective first (Err fault) later = Err fault
connected_to connective first (Ok second) later = later (truth_read (connected connective first second.holds) second.rest)

abbrev pub connected_by : (operand : List TokenSpot → TruthOutcome) → Option (Connective × List TokenSpot) → TruthRead → (later : TruthRead → TruthOutcome) → TruthOutcome
connected_by operand None found later = Ok found
connected_by operand (Some at) found later = connected_to at.0 found.holds (operand at.1) later

-- what holds behind at most n connectives of a level, each with an operand
abbrev pub connections : (operand : List TokenSpot → TruthOutcome) → Level → (n : ℕ) → TruthRead → TruthOutcome
connections operand level zero found = Ok found
connections operand level (suc n) found = connected_by operand (connective_in level found.rest) found (connections operand level n)

abbrev pub connected_from : (operand : List TokenSpot → TruthOutcome) → Level → (n : ℕ) → TruthOutcome → TruthOutcome
connected_from operand level n (Err fault) = Err fault
connected_from operand level n (Ok found) = connections operand level n found

-- operands with connectives of a level between them, from left to right; there are no more than tokens
abbrev pub with_connectives : (operand : List TokenSpot → TruthOutcome) → Level → List TokenSpot → TruthOutcome
with_connectives operand level tokens = connected_from operand level (length tokens) (operand tokens)

-- ---- levels

-- the level within a level, which binds tighter
abbrev pub tighter_level : Level → Option Level
tighter_level Either = Some Both
tighter_level Both = Some Single
tighter_level Single = None

abbrev pub level_truth : Context → Finals → (truth : Level → List TokenSpot → TruthOutcome) → Level → Option Level → List TokenSpot → TruthOutcome
level_truth scope finals truth level None tokens = single scope finals truth tokens
level_truth scope finals truth level (Some inner) tokens = with_connectives (truth inner) level tokens

-- Whether the expression of a level that tokens begin with holds, at this depth of levels, denials and parentheses.
abbrev pub truth_at : Context → Finals → (depth : ℕ) → Level → List TokenSpot → TruthOutcome
truth_at scope finals zero level tokens = wrong_at TooDeep (left_or_end scope tokens)
truth_at scope finals (suc depth) level tokens = level_truth scope finals (truth_at scope finals depth) level (tighter_level level) tokens

-- ---- expressions

abbrev pub whole_truth_by : (holds : Bool) → List TokenSpot → Result Bool Fault
whole_truth_by holds [] = Ok holds
whole_truth_by holds (first ∷ behind) = wrong_at Behind first.left

abbrev pub whole_truth : TruthOutcome → Result Bool Fault
whole_truth (Err fault) = Err fault
whole_truth (Ok found) = whole_truth_by found.holds found.rest

-- how many levels, denials and parentheses may stand within one another
unfoldable pub deepest_truth : ℕ
deepest_truth = 256

-- Whether an order's end is as the expression says that all of these tokens are; or the expression's first fault.
abbrev pub holds_at_end : Finals → Context → List TokenSpot → Result Bool Fault
holds_at_end finals scope tokens = whole_truth (truth_at scope finals deepest_truth Either tokens)
