-- Values of expressions (GNU as, Expressions).
use Rattle.std.specs.Prelude.{ℕ, zero, suc, ◌+◌, ◌-◌, ◌^◌, ◌%◌, if◌then◌else◌, List, [], ◌∷◌, codes, length, Option, Some, None, Result, Ok, Err, option_map}
use Rattle.std.specs.Str.{bytes_eq}
use Rattle.asm_tokens.specs.declared.marks.Mark.TheVariants as marks
use Rattle.asm_tokens.specs.Readings.{TokenSpot, spots_of}
use Rattle.asm_tokens.specs.Terms.{TermMeaning, word_term}
use Rattle.asm_tokens.specs.Terms.TermMeaning.{IsNumber, IsName}
use Rattle.asm_tokens.specs.Tokens.{Lexeme}
use Rattle.asm_tokens.specs.Tokens.Lexeme.{Mark, Word}
use Rattle.asm_expressions.specs.declared.faults.Fault.{Fault}
use Rattle.asm_expressions.specs.declared.faults.Wrong.{Wrong}
use Rattle.asm_expressions.specs.declared.faults.Wrong.TheVariants.{BadNumber, Behind, ByZero, NoValue, OpenParenthesis, OutOfReach, TooDeep, UnknownFunction, UnknownSymbol}
use Rattle.asm_expressions.specs.declared.operators.Level.{Level}
use Rattle.asm_expressions.specs.declared.operators.Level.TheVariants.{Sums, Masks, Products, Operand}
use Rattle.asm_expressions.specs.declared.operators.Operator.{Operator}
use Rattle.asm_expressions.specs.declared.parts.Part.{Part}
use Rattle.asm_expressions.specs.declared.parts.Part.TheVariants.{Whole}
use Rattle.asm_expressions.specs.declared.values.Found.{Found}
use Rattle.asm_expressions.specs.Operators.{Junction, combined, joint_in}
use Rattle.asm_expressions.specs.Parts.{part_named, part_of}
use Rattle.asm_expressions.specs.Symbols.{Context, symbol_value}

-- ---- a value, and the tokens behind it

pub record ValueRead : Type 0 where
  pub value : ℕ
  pub rest : List TokenSpot

abbrev pub value_read : (value : ℕ) → List TokenSpot → ValueRead
value_read value rest = record { value = value; rest = rest }

-- an expression's value and what stands behind it, or its first fault
abbrev pub ValueOutcome : Type 0
ValueOutcome = Result ValueRead Fault

abbrev pub read_as : Result Found Fault → ValueOutcome
read_as (Ok found) = Ok (value_read found.value (spots_of found.rest.now))
read_as (Err fault) = Err fault

abbrev pub wrong_at : {A : Type 0} → Wrong → (left : ℕ) → Result A Fault
wrong_at wrong left = Err (record { wrong = wrong; left = left })

-- the place of the first token, or of the end of the statement
abbrev pub left_or_end : Context → List TokenSpot → ℕ
left_or_end scope [] = scope.end
left_or_end scope (first ∷ behind) = first.left

-- ---- words: `.` is the address of the statement

abbrev pub symbol_or : (left : ℕ) → Option ℕ → Result ℕ Fault
symbol_or left None = wrong_at UnknownSymbol left
symbol_or left (Some value) = Ok value

abbrev pub name_value : Context → (name : List ℕ) → (left : ℕ) → Result ℕ Fault
name_value scope name left = symbol_or left (symbol_value scope name)

abbrev pub term_value : Context → (left : ℕ) → Option TermMeaning → Result ℕ Fault
term_value scope left None = wrong_at BadNumber left
term_value scope left (Some (IsNumber n)) = Ok n
term_value scope left (Some (IsName name)) = name_value scope name left

abbrev pub value_of_word : Context → (word : List ℕ) → (left : ℕ) → Result ℕ Fault
value_of_word scope word left =
    if bytes_eq word (codes ".") then Ok scope.here else term_value scope left (word_term word)

-- ---- parentheses

-- the tokens behind a closing parenthesis
abbrev pub closed_by : Lexeme → List TokenSpot → Option (List TokenSpot)
closed_by (Mark marks.Close) rest = Some rest
closed_by lexeme rest = None

abbrev pub behind_close : List TokenSpot → Option (List TokenSpot)
behind_close [] = None
behind_close (first ∷ behind) = closed_by first.lexeme behind

abbrev pub named_part : Lexeme → Lexeme → List TokenSpot → Option (Part × List TokenSpot)
named_part (Word name) (Mark marks.Open) inside = option_map (λ part. (part, inside)) (part_named name)
named_part first second inside = None

-- the part that is named behind a `%`, and the tokens behind its opening parenthesis
abbrev pub part_behind : List TokenSpot → Option (Part × List TokenSpot)
part_behind [] = None
part_behind (first ∷ []) = None
part_behind (first ∷ second ∷ inside) = named_part first.lexeme second.lexeme inside

abbrev pub value_of_part : (left : ℕ) → List TokenSpot → Option ℕ → ValueOutcome
value_of_part left rest None = wrong_at OutOfReach left
value_of_part left rest (Some value) = Ok (value_read value rest)

abbrev pub closed_value : Context → (left : ℕ) → Part → ValueRead → Option (List TokenSpot) → ValueOutcome
closed_value scope left part found None = wrong_at OpenParenthesis (left_or_end scope found.rest)
closed_value scope left part found (Some rest) = value_of_part left rest (part_of part found.value)

abbrev pub closes_value : Context → (left : ℕ) → Part → ValueOutcome → ValueOutcome
closes_value scope left part (Err fault) = Err fault
closes_value scope left part (Ok found) = closed_value scope left part found (behind_close found.rest)

-- a part of the value of an expression, whose opening parenthesis stands before the tokens; `left` is the place of the part
abbrev pub bracketed : Context → (value : Level → List TokenSpot → ValueOutcome) → (left : ℕ) → Part → List TokenSpot → ValueOutcome
bracketed scope value left part tokens = closes_value scope left part (value Sums tokens)

abbrev pub part_value : Context → (value : Level → List TokenSpot → ValueOutcome) → (left : ℕ) → Option (Part × List TokenSpot) → ValueOutcome
part_value scope value left None = wrong_at UnknownFunction left
part_value scope value left (Some found) = bracketed scope value left found.0 found.1

-- ---- operands

-- a value that a sign turns into another one
abbrev pub sign_turned : (ℕ → ℕ) → ValueOutcome → ValueOutcome
sign_turned turn (Err fault) = Err fault
sign_turned turn (Ok found) = Ok (value_read (turn found.value) found.rest)

abbrev pub negated : ℕ → ℕ
negated value = (0 + (2 ^ 64 - value)) % 2 ^ 64

abbrev pub inverted : ℕ → ℕ
inverted value = 2 ^ 64 - 1 - value

abbrev pub worded : List TokenSpot → Result ℕ Fault → ValueOutcome
worded rest (Err fault) = Err fault
worded rest (Ok value) = Ok (value_read value rest)

-- An operand by its first token: a word, a sign and an operand, an expression in parentheses, or a part of one.
abbrev pub first_operand_value : Context → (value : Level → List TokenSpot → ValueOutcome) → Lexeme → (left : ℕ) → (behind : List TokenSpot) → ValueOutcome
first_operand_value scope value (Word word) left behind = worded behind (value_of_word scope word left)
first_operand_value scope value (Mark marks.Plus) left behind = value Operand behind
first_operand_value scope value (Mark marks.Minus) left behind = sign_turned negated (value Operand behind)
first_operand_value scope value (Mark marks.Tilde) left behind = sign_turned inverted (value Operand behind)
first_operand_value scope value (Mark marks.Open) left behind = bracketed scope value left Whole behind
first_operand_value scope value (Mark marks.Percent) left behind = part_value scope value left (part_behind behind)
first_operand_value scope value lexeme left behind = wrong_at NoValue left

abbrev pub alone : Context → (value : Level → List TokenSpot → ValueOutcome) → List TokenSpot → ValueOutcome
alone scope value [] = wrong_at NoValue scope.end
alone scope value (first ∷ behind) = first_operand_value scope value first.lexeme first.left behind

-- ---- operators

abbrev pub applied_or : (left : ℕ) → Option ℕ → Result ℕ Fault
applied_or left None = wrong_at ByZero left
applied_or left (Some value) = Ok value

abbrev pub operated : Operator → (left first second : ℕ) → Result ℕ Fault
operated operator left first second = applied_or left (combined operator first second)

abbrev pub after_value : (later : ValueRead → ValueOutcome) → ValueOutcome → ValueOutcome
after_value later (Err fault) = Err fault
after_value later (Ok found) = later found

abbrev pub joined_to : Junction → (first : ℕ) → ValueOutcome → (later : ValueRead → ValueOutcome) → ValueOutcome
joined_to at first (Err fault) later = Err fault
joined_to at first (Ok second) later =
    after_value later (worded second.rest (operated at.operator at.left first second.value))

abbrev pub joined_by : (operand : List TokenSpot → ValueOutcome) → Option Junction → ValueRead → (later : ValueRead → ValueOutcome) → ValueOutcome
joined_by operand None found later = Ok found
joined_by operand (Some at) found later = joined_to at found.value (operand at.rest) later

-- the value behind at most n operators of a level, each with an operand
abbrev pub joins : (operand : List TokenSpot → ValueOutcome) → Level → (n : ℕ) → ValueRead → ValueOutcome
joins operand level zero found = Ok found
joins operand level (suc n) found = joined_by operand (joint_in level found.rest) found (joins operand level n)

abbrev pub joined_from : (operand : List TokenSpot → ValueOutcome) → Level → (n : ℕ) → ValueOutcome → ValueOutcome
joined_from operand level n (Err fault) = Err fault
joined_from operand level n (Ok found) = joins operand level n found

-- operands with operators of a level between them, from left to right; there are no more than tokens
abbrev pub with_operators : (operand : List TokenSpot → ValueOutcome) → Level → List TokenSpot → ValueOutcome
with_operators operand level tokens = joined_from operand level (length tokens) (operand tokens)

-- ---- levels

-- the level within a level, which binds tighter
abbrev pub inner_level : Level → Option Level
inner_level Sums = Some Masks
inner_level Masks = Some Products
inner_level Products = Some Operand
inner_level Operand = None

abbrev pub level_value : Context → (value : Level → List TokenSpot → ValueOutcome) → Level → Option Level → List TokenSpot → ValueOutcome
level_value scope value level None tokens = alone scope value tokens
level_value scope value level (Some inner) tokens = with_operators (value inner) level tokens

-- The value of the expression of a level that tokens begin with, at this depth of levels, signs and parentheses.
abbrev pub value_at : Context → (depth : ℕ) → Level → List TokenSpot → ValueOutcome
value_at scope zero level tokens = wrong_at TooDeep (left_or_end scope tokens)
value_at scope (suc depth) level tokens = level_value scope (value_at scope depth) level (inner_level level) tokens

-- ---- expressions

abbrev pub whole_by : (value : ℕ) → List TokenSpot → Result ℕ Fault
whole_by value [] = Ok value
whole_by value (first ∷ behind) = wrong_at Behind first.left

abbrev pub whole : ValueOutcome → Result ℕ Fault
whole (Err fault) = Err fault
whole (Ok found) = whole_by found.value found.rest

-- how many levels, signs and parentheses may stand within one another
unfoldable pub deepest : ℕ
deepest = 256

-- The value of the expression that all of these tokens are.
abbrev pub value_of : Context → List TokenSpot → Result ℕ Fault
value_of scope tokens = whole (value_at scope deepest Sums tokens)
