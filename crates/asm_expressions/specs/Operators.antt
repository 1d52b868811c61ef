-- Operators between two values (GNU as, Infix Operators).
use Rattle.std.specs.Prelude.{ℕ, nat_le, Bool, true, false, ◌&&◌, ◌==◌, if◌then◌else◌, List, [], ◌∷◌, Option, Some, None, option_and_then, option_map}
use Rattle.asm_tokens.specs.declared.marks.Mark.TheVariants as marks
use Rattle.asm_tokens.specs.Readings.{TokenSpot, spots_of}
use Rattle.asm_tokens.specs.Tokens.{Lexeme}
use Rattle.asm_tokens.specs.Tokens.Lexeme.{Mark}
use Rattle.rv64_alu.specs.declared.alu.AluOp.{AluOp}
use Rattle.rv64_alu.specs.declared.alu.AluOp.TheVariants as alu
use Rattle.rv64_alu.specs.Table.{computed}
use Rattle.asm_expressions.specs.declared.operators.Joint.{Joint}
use Rattle.asm_expressions.specs.declared.operators.Level.{Level}
use Rattle.asm_expressions.specs.declared.operators.Level.TheVariants.{Sums, Masks, Products}
use Rattle.asm_expressions.specs.declared.operators.Level.TheVariants as levels
use Rattle.asm_expressions.specs.declared.operators.Operator.{Operator}
use Rattle.asm_expressions.specs.declared.operators.Operator.TheVariants.{Plus, Minus, And, Or, Xor, Times, Divide, Modulo, Left, Right}

-- ---- what they make of two values

abbrev pub alu_of : Operator → AluOp
alu_of Plus = alu.Add
alu_of Minus = alu.Sub
alu_of And = alu.And
alu_of Or = alu.Or
alu_of Xor = alu.Xor
alu_of Times = alu.Mul
alu_of Divide = alu.Div
alu_of Modulo = alu.Rem
alu_of Left = alu.Sll
alu_of Right = alu.Srl

abbrev pub is_division : Operator → Bool
is_division Divide = true
is_division Modulo = true
is_division operator = false

abbrev pub is_shift : Operator → Bool
is_shift Left = true
is_shift Right = true
is_shift operator = false

-- What the machine's instruction makes of them. A division by 0 has no value, and a shift by 64 or more gives 0.
abbrev pub combined : Operator → (first second : ℕ) → Option ℕ
combined operator first second =
    if is_division operator && (second == 0) then None
    else (if is_shift operator && nat_le 64 second then Some 0
    else Some (computed (alu_of operator) first second))

-- ---- where they stand

-- the operators of a level: products bind tighter than masks, and these tighter than sums
abbrev pub stands_at : Level → Operator → Bool
stands_at Sums Plus = true
stands_at Sums Minus = true
stands_at Sums operator = false
stands_at Masks And = true
stands_at Masks Or = true
stands_at Masks Xor = true
stands_at Masks operator = false
stands_at Products Times = true
stands_at Products Divide = true
stands_at Products Modulo = true
stands_at Products Left = true
stands_at Products Right = true
stands_at Products operator = false
stands_at levels.Operand operator = false

-- the operator that a token is, or begins
abbrev pub operator_of : Lexeme → Option Operator
operator_of (Mark marks.Plus) = Some Plus
operator_of (Mark marks.Minus) = Some Minus
operator_of (Mark marks.And) = Some And
operator_of (Mark marks.Or) = Some Or
operator_of (Mark marks.Caret) = Some Xor
operator_of (Mark marks.Star) = Some Times
operator_of (Mark marks.Slash) = Some Divide
operator_of (Mark marks.Percent) = Some Modulo
operator_of (Mark marks.Less) = Some Left
operator_of (Mark marks.Greater) = Some Right
operator_of lexeme = None

-- whether a token is the second mark of a shift
abbrev pub closes : Operator → Lexeme → Bool
closes Left (Mark marks.Less) = true
closes Right (Mark marks.Greater) = true
closes operator lexeme = false

-- the tokens behind the second mark of a shift
abbrev pub behind_mark : Operator → List TokenSpot → Option (List TokenSpot)
behind_mark shift [] = None
behind_mark shift (placed ∷ rest) = if closes shift placed.lexeme then Some rest else None

-- the tokens behind an operator, whose first mark stands before these
abbrev pub behind_operator : Operator → List TokenSpot → Option (List TokenSpot)
behind_operator Left behind = behind_mark Left behind
behind_operator Right behind = behind_mark Right behind
behind_operator operator behind = Some behind

-- an operator, its place, and the tokens behind it
pub record Junction : Type 0 where
  pub operator : Operator
  pub left : ℕ
  pub rest : List TokenSpot

abbrev pub joint_of : Joint → Junction
joint_of joint = record { operator = joint.operator; left = joint.left; rest = spots_of joint.rest.now }

abbrev pub junction : (left : ℕ) → Operator → List TokenSpot → Junction
junction left operator rest = record { operator = operator; left = left; rest = rest }

abbrev pub joint_by : Level → (left : ℕ) → (behind : List TokenSpot) → Operator → Option Junction
joint_by level left behind operator =
    if stands_at level operator then option_map (junction left operator) (behind_operator operator behind) else None

-- The operator of a level that tokens begin with.
abbrev pub joint_in : Level → List TokenSpot → Option Junction
joint_in level [] = None
joint_in level (first ∷ behind) =
    option_and_then (joint_by level first.left behind) (operator_of first.lexeme)
