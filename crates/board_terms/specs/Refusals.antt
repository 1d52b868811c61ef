-- Refusals by their numbers, and tests in order (profile).
use Rattle.std.specs.Prelude.{ℕ, Bool, if◌then◌else◌, List, [], ◌∷◌, Option, Some, None}
use Rattle.board_terms.specs.declared.reply.Refusal.{Refusal}
use Rattle.board_terms.specs.declared.reply.Refusal.TheVariants.{Off, WrongPhase, Nothing, HistoryFull, TimeFull}

-- The number of each refusal.
abbrev pub refusal_number : Refusal → ℕ
refusal_number Off = 1
refusal_number WrongPhase = 2
refusal_number Nothing = 3
refusal_number HistoryFull = 4
refusal_number TimeFull = 5

-- the second part of the first row whose test is true
abbrev pub first_that_holds : {A : Type 0} → List (Bool × A) → Option A
first_that_holds [] = None
first_that_holds (row ∷ rows) = if row.0 then Some row.1 else first_that_holds rows
