-- Tokens that part statements (GNU as, Statements): the end of one, and the comma between operands.
use Rattle.std.specs.Prelude.{Bool, true, false}
use Rattle.asm_tokens.specs.declared.marks.Mark.TheVariants.{Comma}
use Rattle.asm_tokens.specs.Tokens.{Lexeme}
use Rattle.asm_tokens.specs.Tokens.Lexeme.{Mark, End}

-- whether a token ends a statement
abbrev pub is_end : Lexeme → Bool
is_end End = true
is_end lexeme = false

-- whether a token is a comma, which ends an operand
abbrev pub is_comma : Lexeme → Bool
is_comma (Mark Comma) = true
is_comma lexeme = false
