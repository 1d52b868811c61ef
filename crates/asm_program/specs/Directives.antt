-- The names of directives (GNU as, Pseudo Ops; RISC-V-Directives).
use Rattle.std.specs.Prelude.{ℕ, if◌then◌else◌, List, [], ◌∷◌, codes, map, Option, Some, None}
use Rattle.std.specs.Str.{bytes_eq}
use Rattle.asm_tokens.specs.Numbers.{begins_with}
use Rattle.asm_program.specs.declared.directives.Directive.{Directive}
use Rattle.asm_program.specs.declared.directives.Directive.TheVariants.{Passed}
use Rattle.asm_program.specs.declared.directives.TheConstants.{DIRECTIVES}

-- the directive in the first row with this word
abbrev pub directive_in : (word : List ℕ) → List (List ℕ × Directive) → Option Directive
directive_in word [] = None
directive_in word (row ∷ rows) = if bytes_eq row.0 word then Some row.1 else directive_in word rows

-- that of the table
unfoldable pub listed_directive : (word : List ℕ) → Option Directive
listed_directive word = directive_in word (map (λ row. (row.0.now, row.1)) DIRECTIVES)

-- The directive of a name. Those of call frames say nothing here.
abbrev pub directive_of : (word : List ℕ) → Option Directive
directive_of word = if begins_with (codes ".cfi_") word then Some Passed else listed_directive word
