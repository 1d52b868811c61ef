-- The data of a program, numbers of 1, 2, 4 or 8 bytes (GNU as, .byte, .2byte, .4byte, .8byte; RISC-V-Directives); and the clock's
-- ticks (profile).
use Rattle.std.specs.Prelude.{ℕ, zero, suc, ◌+◌, ◌/◌, ◌%◌, ◌^◌, nat_lt, ◌||◌, ◌==◌, if◌then◌else◌, List, [], ◌∷◌, length, Option, Some, None, Result, Ok, Err}
use Rattle.asm_expressions.specs.declared.faults.Fault.{Fault}
use Rattle.asm_expressions.specs.declared.faults.Wrong.TheVariants.{OutOfRange}
use Rattle.asm_expressions.specs.Symbols.{Context}
use Rattle.asm_expressions.specs.Values.{value_of, wrong_at}
use Rattle.asm_instructions.specs.Operands.{behind_comma, operand_front}
use Rattle.asm_instructions.specs.Steps.{◌>>=◌}
use Rattle.asm_tokens.specs.Readings.{TokenSpot}
use Rattle.asm_program.specs.declared.data.Datum.{Datum}

-- the low bytes of a value below a limit, or of a negative one that is not lower than minus half of it
abbrev pub low_of : (value limit left : ℕ) → Result ℕ Fault
low_of value limit left =
    if nat_lt value limit || nat_lt ((value + limit / 2) % 2 ^ 64) (limit / 2) then Ok (value % limit)
    else wrong_at OutOfRange left

abbrev pub sized : (size left value : ℕ) → Result ℕ Fault
sized size left value =
    if size == 1 then low_of value (2 ^ 8) left
    else (if size == 2 then low_of value (2 ^ 16) left
    else (if size == 4 then low_of value (2 ^ 32) left
    else Ok value))

-- a number of so many bytes
abbrev pub number_of : Context → (size left : ℕ) → List TokenSpot → Result ℕ Fault
number_of scope size left tokens = do
  value ← value_of scope tokens
  sized size left value

abbrev pub datum_at : (at size value : ℕ) → Datum
datum_at at size value = record { at = at; size = size; value = value }

abbrev pub before_more : {A : Type 0} → A → Result (List A) Fault → Result (List A) Fault
before_more first (Err fault) = Err fault
before_more first (Ok more) = Ok (first ∷ more)

abbrev pub more_if : {A : Type 0} → (later : List TokenSpot → Result (List A) Fault) → A → Option (List TokenSpot) → Result (List A) Fault
more_if later first None = Ok (first ∷ [])
more_if later first (Some behind) = before_more first (later behind)

abbrev pub numbers_by : (size at : ℕ) → List TokenSpot → (later : (at : ℕ) → List TokenSpot → Result (List Datum) Fault) → Result ℕ Fault → Result (List Datum) Fault
numbers_by size at tokens later (Err fault) = Err fault
numbers_by size at tokens later (Ok value) =
    more_if (later ((at + size) % 2 ^ 64)) (datum_at at size value) (behind_comma tokens)

abbrev pub numbers_in : Context → (size left n at : ℕ) → List TokenSpot → Result (List Datum) Fault
numbers_in scope size left zero at tokens = Ok []
numbers_in scope size left (suc n) at tokens =
    numbers_by size at tokens (numbers_in scope size left n) (number_of scope size left (operand_front tokens))

-- Numbers of a size with commas between them, one behind the other. (There are no more than tokens.)
abbrev pub listed_numbers : Context → (size left : ℕ) → List TokenSpot → Result (List Datum) Fault
listed_numbers scope size left tokens = numbers_in scope size left (length tokens) scope.here tokens

-- ---- ticks

abbrev pub tick_list_by : List TokenSpot → (later : List TokenSpot → Result (List ℕ) Fault) → Result ℕ Fault → Result (List ℕ) Fault
tick_list_by tokens later (Err fault) = Err fault
tick_list_by tokens later (Ok value) = more_if later value (behind_comma tokens)

abbrev pub tick_list : Context → (n : ℕ) → List TokenSpot → Result (List ℕ) Fault
tick_list scope zero tokens = Ok []
tick_list scope (suc n) tokens = tick_list_by tokens (tick_list scope n) (value_of scope (operand_front tokens))

-- Values with commas between them. (There are no more than tokens.)
abbrev pub listed_ticks : Context → List TokenSpot → Result (List ℕ) Fault
listed_ticks scope tokens = tick_list scope (length tokens) tokens
