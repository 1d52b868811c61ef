-- Worked expressions, computed from the definitions.
use Rattle.std.proofs.Common.{◌≡◌, ℕ, ◌==◌, Bool, true, false, if◌then◌else◌, List, [], ◌∷◌, ◌++◌, codes, Some, None, Result, Ok, Err, refl}
use Rattle.asm_tokens.specs.declared.marks.Mark as marks
use Rattle.asm_tokens.specs.declared.marks.Mark.TheVariants.{And, Close, Colon, Equals, Open, Or, Tilde}
use Rattle.asm_tokens.specs.Readings.{TokenSpot}
use Rattle.asm_tokens.specs.Tokens.Lexeme.{Mark, Word}
use Rattle.asm_expressions.specs.declared.faults.Fault.{Fault}
use Rattle.asm_expressions.specs.declared.faults.Wrong.TheVariants.{Behind, NoValue, OpenParenthesis, OutOfRange, UnknownSymbol}
use Rattle.asm_expressions.specs.Symbols.{Context}
use Rattle.asm_expressions.specs.Values.{deepest}
use Rattle.asm_tokens.specs.Numbers.{asm_number_in}
use Rattle.line_words.specs.Values.{digit_after}
use Rattle.end_conditions.specs.Finals.{Finals}
use Rattle.end_conditions.specs.Truths.{deepest_truth, holds_at_end}

-- a symbol `data`
abbrev scope : Context
scope = record { symbols = record { name = codes "data"; value = 4096; statement = 0 } ∷ []; highs = []; statement = 0; here = 0; end = 0 }

-- two harts: each register of hart 0 holds 1, and of hart 1 0x11; the word at `data` is 2
abbrev finals : Finals
finals = record {
  register = λ hart number. if hart == 0 then Some 1 else (if hart == 1 then Some 17 else None);
  word = λ address. if address == 4096 then Some 2 else None;
}

abbrev word : List ℕ → TokenSpot
word text = record { lexeme = Word text; left = 7 }

abbrev mark : marks.Mark → TokenSpot
mark it = record { lexeme = Mark it; left = 5 }

abbrev held : (hart value : List ℕ) → List TokenSpot
held hart value = word hart ∷ mark Colon ∷ word (codes "t0") ∷ mark Equals ∷ word value ∷ []

-- 0:t0=1, which is so, and 0:t0=2, which isn't
abbrev so : List TokenSpot
so = held (codes "0") (codes "1")

abbrev not_so : List TokenSpot
not_so = held (codes "0") (codes "2")

abbrev answer : List TokenSpot → Result Bool Fault
answer tokens = holds_at_end finals scope tokens

-- ---- claims

a_register : answer (held (codes "1") (codes "0x11")) ≡ Ok true
unfolding deepest_truth deepest asm_number_in digit_after
a_register = refl

another_value : answer not_so ≡ Ok false
unfolding deepest_truth deepest asm_number_in digit_after
another_value = refl

a_word : answer (word (codes "data") ∷ mark Equals ∷ word (codes "2") ∷ []) ≡ Ok true
unfolding deepest_truth deepest asm_number_in digit_after
a_word = refl

-- ---- `and` binds tighter than `or`, and `not` tighter than both

and_first : answer (so ++ word (codes "or") ∷ so ++ word (codes "and") ∷ not_so) ≡ Ok true
unfolding deepest_truth deepest asm_number_in digit_after
and_first = refl

by_marks : answer (so ++ mark Or ∷ so ++ mark And ∷ not_so) ≡ Ok true
unfolding deepest_truth deepest asm_number_in digit_after
by_marks = refl

parentheses_first : answer (mark Open ∷ so ++ word (codes "or") ∷ so ++ mark Close ∷ word (codes "and") ∷ not_so) ≡ Ok false
unfolding deepest_truth deepest asm_number_in digit_after
parentheses_first = refl

not_first : answer (word (codes "not") ∷ not_so ++ word (codes "and") ∷ not_so) ≡ Ok false
unfolding deepest_truth deepest asm_number_in digit_after
not_first = refl

not_twice : answer (mark Tilde ∷ word (codes "not") ∷ so) ≡ Ok true
unfolding deepest_truth deepest asm_number_in digit_after
not_twice = refl

-- ---- faults

no_such_hart : answer (held (codes "2") (codes "1")) ≡ Err (record { wrong = OutOfRange; left = 7 })
unfolding deepest_truth deepest asm_number_in digit_after
no_such_hart = refl

no_such_word : answer (word (codes "4104") ∷ mark Equals ∷ word (codes "1") ∷ []) ≡ Err (record { wrong = OutOfRange; left = 7 })
unfolding deepest_truth deepest asm_number_in digit_after
no_such_word = refl

no_such_register : answer (word (codes "0") ∷ mark Colon ∷ word (codes "t9") ∷ mark Equals ∷ word (codes "1") ∷ []) ≡ Err (record { wrong = UnknownSymbol; left = 7 })
unfolding deepest_truth deepest asm_number_in digit_after
no_such_register = refl

no_value : answer (word (codes "data") ∷ mark Equals ∷ []) ≡ Err (record { wrong = NoValue; left = 0 })
unfolding deepest_truth deepest asm_number_in digit_after
no_value = refl

not_closed : answer (mark Open ∷ so) ≡ Err (record { wrong = OpenParenthesis; left = 0 })
unfolding deepest_truth deepest asm_number_in digit_after
not_closed = refl

two_claims : answer (so ++ so) ≡ Err (record { wrong = Behind; left = 7 })
unfolding deepest_truth deepest asm_number_in digit_after
two_claims = refl
