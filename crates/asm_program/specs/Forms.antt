-- What the parts of a program say: a label, a directive or an instruction.
use Rattle.std.specs.Prelude.{ℕ, Bool, true, false, ◌==◌, if◌then◌else◌, List, [], ◌∷◌, Option, Some, None, Result, Ok, Err}
use Rattle.asm_expressions.specs.declared.faults.Fault.{Fault}
use Rattle.asm_expressions.specs.declared.faults.Wrong.TheVariants.{NoStatement, UnknownDirective, UnknownMnemonic}
use Rattle.asm_expressions.specs.Values.{wrong_at}
use Rattle.asm_mnemonics.specs.declared.forms.OperandForm.{OperandForm}
use Rattle.asm_mnemonics.specs.Mnemonics.{operands_of}
use Rattle.asm_tokens.specs.declared.marks.Mark.TheVariants.{Colon}
use Rattle.asm_tokens.specs.Readings.{TokenSpot, spots_of}
use Rattle.asm_tokens.specs.Tokens.{Lexeme}
use Rattle.asm_tokens.specs.Tokens.Lexeme.{Mark, Word}
use Rattle.asm_program.specs.declared.directives.Directive.{Directive}
use Rattle.asm_program.specs.declared.forms.Form.{Form}
use Rattle.asm_program.specs.declared.forms.Form.TheVariants as forms
use Rattle.asm_program.specs.Directives.{directive_of}
use Rattle.asm_program.specs.Parts.{Piece}

-- what a part says, without where its words lie in memory
pub data PartForm : Type 0 where
  Nothing : PartForm
  Labels : List ℕ → PartForm
  Directs : Directive → List TokenSpot → PartForm
  Instructs : OperandForm → List TokenSpot → PartForm

abbrev pub saying_of : Form → PartForm
saying_of forms.Nothing = Nothing
saying_of (forms.Label name) = Labels name.now
saying_of (forms.Directive directive operands) = Directs directive (spots_of operands.now)
saying_of (forms.Instruction form operands) = Instructs form (spots_of operands.now)

abbrev pub form_as : Result Form Fault → Result PartForm Fault
form_as (Ok form) = Ok (saying_of form)
form_as (Err fault) = Err fault

-- what a part says, and the place of its first word
abbrev pub part_form_of : Result (Form × ℕ) Fault → Result (PartForm × ℕ) Fault
part_form_of (Ok said) = Ok (saying_of said.0, said.1)
part_form_of (Err fault) = Err fault

abbrev pub is_colon_mark : Lexeme → Bool
is_colon_mark (Mark Colon) = true
is_colon_mark lexeme = false

abbrev pub is_colon : List TokenSpot → Bool
is_colon (only ∷ []) = is_colon_mark only.lexeme
is_colon tokens = false

abbrev pub begins_directive : List ℕ → Bool
begins_directive [] = false
begins_directive (b ∷ word) = b == 46

abbrev pub directed : (left : ℕ) → List TokenSpot → Option Directive → Result PartForm Fault
directed left operands None = wrong_at UnknownDirective left
directed left operands (Some directive) = Ok (Directs directive operands)

abbrev pub instructed : (left : ℕ) → List TokenSpot → Option OperandForm → Result PartForm Fault
instructed left operands None = wrong_at UnknownMnemonic left
instructed left operands (Some form) = Ok (Instructs form operands)

-- a directive begins with a dot; any other word is a mnemonic
abbrev pub named_form : (word : List ℕ) → (left : ℕ) → List TokenSpot → Result PartForm Fault
named_form word left operands =
    if begins_directive word then directed left operands (directive_of word)
    else instructed left operands (operands_of word)

abbrev pub said_at : (left : ℕ) → Result PartForm Fault → Result (PartForm × ℕ) Fault
said_at left (Err fault) = Err fault
said_at left (Ok saying) = Ok (saying, left)

abbrev pub form_by : Lexeme → (left : ℕ) → List TokenSpot → Result (PartForm × ℕ) Fault
form_by (Word word) left behind =
    if is_colon behind then Ok (Labels word, left) else said_at left (named_form word left behind)
form_by lexeme left behind = wrong_at NoStatement left

abbrev pub form_from : (end : ℕ) → List TokenSpot → Result (PartForm × ℕ) Fault
form_from end [] = Ok (Nothing, end)
form_from end (first ∷ behind) = form_by first.lexeme first.left behind

-- What a part says, and the place of its first word.
abbrev pub part_form : Piece → Result (PartForm × ℕ) Fault
part_form part = form_from part.end part.tokens
