-- Words as numbers and names (GNU as, Symbol Names, Local Labels).
use Rattle.std.specs.Prelude.{ℕ, Bool, false, not, ◌&&◌, ◌||◌, ◌==◌, if◌then◌else◌, List, [], ◌∷◌, Option, Some, None}
use Rattle.std.specs.Int.{is_in_range}
use Rattle.asm_tokens.specs.declared.terms.Term.{Term}
use Rattle.asm_tokens.specs.declared.terms.Term.TheVariants as terms
use Rattle.asm_tokens.specs.Numbers.{asm_number_in}

-- a word as a value, without where it lies in memory
pub data TermMeaning : Type 0 where
  IsNumber : ℕ → TermMeaning
  IsName : List ℕ → TermMeaning

-- what a word is, without where its text lies in memory
abbrev pub term_meaning : Term → TermMeaning
term_meaning (terms.Number n) = IsNumber n
term_meaning (terms.Name name) = IsName name.now

-- ---- words

abbrev pub is_decimal : ℕ → Bool
is_decimal b = is_in_range 48 57 b

abbrev pub begins_number : List ℕ → Bool
begins_number [] = false
begins_number (b ∷ word) = is_decimal b

-- `b` or `f`, and nothing behind it
abbrev pub is_direction : List ℕ → Bool
is_direction (b ∷ []) = (b == 98) || (b == 102)
is_direction word = false

-- decimal digits, and then `b` or `f`
abbrev pub is_local_behind : List ℕ → Bool
is_local_behind [] = false
is_local_behind (b ∷ word) = if is_decimal b then is_local_behind word else is_direction (b ∷ word)

-- a local label: a decimal digit or more, and then `b` or `f`
abbrev pub is_local_label : List ℕ → Bool
is_local_label word = begins_number word && is_local_behind word

-- the term that a word is, if it doesn't spell a number: a name, which begins with a digit only if it is a local label
abbrev pub name_term : List ℕ → Option TermMeaning
name_term word = if begins_number word && not (is_local_label word) then None else Some (IsName word)

abbrev pub number_or_name : Option ℕ → Option TermMeaning → Option TermMeaning
number_or_name None other = other
number_or_name (Some n) other = Some (IsNumber n)

-- What a word is as a value.
abbrev pub word_term : List ℕ → Option TermMeaning
word_term word = number_or_name (asm_number_in word) (name_term word)
