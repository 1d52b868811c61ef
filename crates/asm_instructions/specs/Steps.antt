-- Steps that may fail: each goes on with what the one before it gave, or stops at what is wrong.
use Rattle.std.specs.Prelude.{Result, Ok, Err}

infixl 10 ◌>>=◌
abbrev pub ◌>>=◌ : {A B E : Type 0} → Result A E → (A → Result B E) → Result B E
Ok x >>= f = f x
Err wrong >>= f = Err wrong
