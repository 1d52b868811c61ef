-- A text with nothing to read is empty.
use Rattle.std.proofs.Common.{◌≡◌, ℕ, false, eqb, List, [], ◌∷◌, Option, Some, None, refl, inl, inr}
use Rattle.std.proofs.lemmas.Bool.{cases_Bool}
use Rattle.asm_tokens.specs.declared.bytes.ByteClass.{ByteClass}
use Rattle.asm_tokens.specs.declared.bytes.ByteClass.TheVariants.{Blank, Letter, End, Hash, Quote, Slash, Mark, Other}
use Rattle.asm_tokens.specs.Bytes.{class_of}
use Rattle.asm_tokens.specs.Runs.{behind_comment, closing_quote}
use Rattle.asm_tokens.specs.Tokens.{comment_by, first, reading_by, slash_of, string_by}
use Rattle.asm_tokens.specs.Tokens.Reading.{Over}

string_some : (place : Option ℕ) (after : List ℕ) → Over ≡ string_by place after → ⊥
string_some None after over = cc
string_some (Some n) after over = cc

comment_some : (behind : Option (List ℕ)) → Over ≡ comment_by behind → ⊥
comment_some None over = cc
comment_some (Some text) over = cc

slash_some : (after : List ℕ) → Over ≡ slash_of after → ⊥
slash_some [] over = cc
slash_some (b ∷ inside) over = elim (cases_Bool (eqb b 42)) [
  | inl star ↦ comment_some (behind_comment false inside) (rw star at over)
  | inr other ↦ let e = rw other at over in cc
]

class_some : (class : ByteClass) (text after : List ℕ) → Over ≡ reading_by class text after → ⊥
class_some Blank text after over = cc
class_some Letter text after over = cc
class_some End text after over = cc
class_some Hash text after over = cc
class_some Quote text after over = string_some (closing_quote 0 false after) after over
class_some Slash text after over = slash_some after over
class_some (Mark mark) text after over = cc
class_some Other text after over = cc

pub over_empty : (text : List ℕ) → Over ≡ first text → text ≡ []
over_empty [] over = refl
over_empty (b ∷ after) over = absurd (class_some (class_of b) (b ∷ after) after over)
