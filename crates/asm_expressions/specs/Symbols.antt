-- Symbols, and the words that name them (GNU as, Labels, Local Labels, Symbols).
use Rattle.std.specs.Prelude.{ℕ, ◌-◌, nat_le, nat_lt, ◌&&◌, ◌==◌, if◌then◌else◌, List, [], ◌∷◌, length, map, slice_index, take, Option, Some, None}
use Rattle.std.specs.Str.{bytes_eq}
use Rattle.asm_tokens.specs.Terms.{is_local_label}
use Rattle.asm_expressions.specs.declared.symbols.Direction.{Direction}
use Rattle.asm_expressions.specs.declared.symbols.Direction.TheVariants.{Backward, Forward}
use Rattle.asm_expressions.specs.declared.symbols.PcrelHigh.{PcrelHigh}
use Rattle.asm_expressions.specs.declared.symbols.Scope.{Scope}
use Rattle.asm_expressions.specs.declared.symbols.Symbol.{Symbol}

-- ---- symbols, and what is known where an expression stands

-- a symbol: its name, its value, and the number of the statement that defines it
pub record Named : Type 0 where
  pub name : List ℕ
  pub value : ℕ
  pub statement : ℕ

-- a symbol, without where its name lies in memory
abbrev pub named_of : Symbol → Named
named_of symbol = record { name = symbol.name.now; value = symbol.value; statement = symbol.statement }

-- the symbols; each `auipc` with `%pcrel_hi(..)`; the number and the address of the expression's statement; and the number of bytes
-- behind it
pub record Context : Type 0 where
  pub symbols : List Named
  pub highs : List PcrelHigh
  pub statement : ℕ
  pub here : ℕ
  pub end : ℕ

-- what is known where an expression stands, without where it lies in memory
abbrev pub context_of : Scope → Context
context_of scope = record {
  symbols = map named_of scope.symbols.now;
  highs = scope.highs.now;
  statement = scope.statement;
  here = scope.here;
  end = scope.end;
}

-- the value of the first symbol of this name
abbrev pub symbol_named : (name : List ℕ) → List Named → Option ℕ
symbol_named name [] = None
symbol_named name (symbol ∷ symbols) =
    if bytes_eq symbol.name name then Some symbol.value else symbol_named name symbols

-- ---- local labels: their digits, and then `b`, the last one above, or `f`, the first one below

abbrev pub direction_of : (last : ℕ) → Direction
direction_of last = if last == 98 then Backward else Forward

abbrev pub local_label : (word : List ℕ) → Option (List ℕ × Direction)
local_label word =
    if is_local_label word then Some (take (length word - 1) word, direction_of (slice_index word (length word - 1)))
    else None

-- the value of the last symbol with these digits up to a statement; `last` is that of the symbols before
abbrev pub last_label_above : (digits : List ℕ) → (statement : ℕ) → (last : Option ℕ) → List Named → Option ℕ
last_label_above digits statement last [] = last
last_label_above digits statement last (symbol ∷ symbols) =
    last_label_above digits statement
    (if bytes_eq symbol.name digits && nat_le symbol.statement statement then Some symbol.value else last) symbols

-- the value of the first symbol with these digits behind a statement
abbrev pub first_below : (digits : List ℕ) → (statement : ℕ) → List Named → Option ℕ
first_below digits statement [] = None
first_below digits statement (symbol ∷ symbols) =
    if bytes_eq symbol.name digits && nat_lt statement symbol.statement then Some symbol.value
    else first_below digits statement symbols

abbrev pub local_value : Context → (digits : List ℕ) → Direction → Option ℕ
local_value scope digits Backward = last_label_above digits scope.statement None scope.symbols
local_value scope digits Forward = first_below digits scope.statement scope.symbols

abbrev pub word_symbol : Context → (word : List ℕ) → Option (List ℕ × Direction) → Option ℕ
word_symbol scope word None = symbol_named word scope.symbols
word_symbol scope word (Some found) = local_value scope found.0 found.1

-- The value of the symbol, or the local label, that a word names.
abbrev pub symbol_value : Context → (word : List ℕ) → Option ℕ
symbol_value scope word = word_symbol scope word (local_label word)
