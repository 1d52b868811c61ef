-- Names with their arguments: the operations, and what a trace says of them (profile).
use Rattle.std.specs.Prelude.{◌≡◌, ◌⊎◌, ℕ, ℤ, ◌≤◌, Bool, IsTrue, List, [], ◌∷◌, ◌++◌, length, map, codes, Option, Some, None}
use Rattle.std.specs.List.{AllZip}
use Rattle.std.specs.Str.{bytes_eq}
use Rattle.board_terms.specs.declared.op.Op.{Op}
use Rattle.board_terms.specs.Refusals.{first_that_holds}
use Rattle.script_lines.specs.declared.op_name.OpName.{OpName}
use Rattle.script_lines.specs.declared.places.Places.{Places}
use Rattle.script_lines.specs.declared.said.Said.{Said}
use Rattle.script_lines.specs.declared.said.Said.TheVariants as says
use Rattle.script_lines.specs.declared.said_name.SaidName.{SaidName}
use Rattle.script_lines.specs.declared.said_name.SaidName.TheVariants.{Ret}
use Rattle.script_lines.specs.Names.{firmware_ops, guest_ops, op_from, op_places, op_word, said_from, said_places, said_word, unsigned_saids}
use Rattle.guest_script.specs.Words.{IsNumber, IsSigned, last_number}
pub use Rattle.script_lines.specs.Names.{argument_at, number_at, number_or, regs_of}

-- ---- arguments

-- A word in an argument's place: a number, or where an argument may be absent, a dash in its place.
abbrev pub IsArgument : (may_be_absent : Bool) → (limit : ℕ) → List ℕ → Option ℕ → Type 0
IsArgument may_be_absent limit word (Some n) = IsNumber limit word n
IsArgument may_be_absent limit word None = IsTrue may_be_absent × (word ≡ codes "-")

-- each word is the argument in its place
abbrev pub AreArguments : (may_be_absent : Bool) → (limit : ℕ) → List (List ℕ) → List (Option ℕ) → Type 0
AreArguments may_be_absent limit words arguments = AllZip (IsArgument may_be_absent limit) words arguments

-- What may follow a name: from `least` to `most` numbers, none above `limit`, whether a dash may stand in a number's place; and what they
-- make.
pub record Form (A : Type 0) : Type 0 where
  pub least : ℕ
  pub most : ℕ
  pub limit : ℕ
  pub may_be_absent : Bool
  pub makes : List (Option ℕ) → A

-- the form of a name behind which these may stand
abbrev pub form_at : {A : Type 0} → Places → (List (Option ℕ) → A) → Form A
form_at places makes = record {
  least = places.least;
  most = places.most;
  limit = places.limit;
  may_be_absent = places.may_be_absent;
  makes = makes;
}

-- the form that a table has under this name
abbrev pub named : {A : Type 0} → List (List ℕ × Form A) → List ℕ → Option (Form A)
named table name = first_that_holds (map (λ row. (bytes_eq name row.0, row.1)) table)

-- A name that has a form, and as many arguments as it takes.
pub record IsNamed {A : Type 0} (form_of : List ℕ → Option (Form A)) (words : List (List ℕ)) (value : A) : Type 0 where
  pub name : List ℕ
  pub others : List (List ℕ)
  pub form : Form A
  pub arguments : List (Option ℕ)
  pub parts : words ≡ name ∷ others
  pub has_form : form_of name ≡ Some form
  pub enough : form.least ≤ length others
  pub not_more : length others ≤ form.most
  pub are_arguments : AreArguments form.may_be_absent form.limit others arguments
  pub made : value ≡ form.makes arguments

-- ---- operations

-- an operation's form
abbrev pub op_form : OpName → Form Op
op_form name = form_at (op_places name) (op_from name)

abbrev pub op_row : OpName → List ℕ × Form Op
op_row name = (op_word name, op_form name)

-- what a guest may do
abbrev pub guest_forms : List (List ℕ × Form Op)
guest_forms = map op_row guest_ops

-- what the firmware of a hart and the clock do
abbrev pub other_forms : List (List ℕ × Form Op)
other_forms = map op_row firmware_ops

-- the form of the operation with this name
unfoldable pub form_of : List ℕ → Option (Form Op)
form_of name = named (guest_forms ++ other_forms) name

-- the form of the guest's operation with this name
unfoldable pub guest_form_of : List ℕ → Option (Form Op)
guest_form_of name = named guest_forms name

-- ---- what a trace says

-- the form of what is said of a step, but for `ret`
abbrev pub said_form : SaidName → Form Said
said_form name = form_at (said_places name) (said_from name)

abbrev pub said_row : SaidName → List ℕ × Form Said
said_row name = (said_word name, said_form name)

abbrev pub said_forms : List (List ℕ × Form Said)
said_forms = map said_row unsigned_saids

unfoldable pub said_form_of : List ℕ → Option (Form Said)
said_form_of name = named said_forms name

-- `ret`, a signed error and a value
pub record IsRet (words : List (List ℕ)) (said : Said) : Type 0 where
  pub error_word : List ℕ
  pub value_word : List ℕ
  pub error : ℤ
  pub value : ℕ
  pub parts : words ≡ said_word Ret ∷ error_word ∷ value_word ∷ []
  pub is_error : IsSigned error_word error
  pub is_value : IsNumber last_number value_word value
  pub made : said ≡ says.Ret error value

-- The words of a reply or a refusal.
abbrev pub IsSaid : List (List ℕ) → Said → Type 0
IsSaid words said = IsRet words said ⊎ IsNamed said_form_of words said
