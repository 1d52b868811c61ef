-- The result of reading: a value if no test fails.
use Rattle.std.specs.Prelude.{◌≡◌, ◌⊎◌, ℕ, List, ◌∷◌, ◌++◌, Option, Some, None, Result, Ok, Err, Bool}
use Rattle.std.specs.Str.Lines.{lines}
use Rattle.board_terms.specs.declared.config.Config.{Config}
use Rattle.board_terms.specs.Refusals.{first_that_holds}
use Rattle.guest_script.specs.declared.fault.FaultKind.{FaultKind}
use Rattle.guest_script.specs.declared.fault.FaultKind.TheVariants.{NoMemory}
use Rattle.guest_script.specs.declared.fault.ScriptFault.{ScriptFault}
use Rattle.guest_script.specs.declared.wrong.Misread.{Misread}
use Rattle.guest_script.specs.declared.wrong.Unread.{Unread}
use Rattle.script_lines.specs.declared.places.Places.{Places}
use Rattle.guest_script.specs.Forms.{Form}
use Rattle.guest_script.specs.Grammar.{content_of, Draft, Written}
use Rattle.guest_script.specs.Values.{draft_in, next_in, script_in, words_in}
use Rattle.guest_script.specs.FirstFault.{board_first_tests, byte_test, fault_of, line_tests, lines_tests, no_memory, script_fault, script_tests}

-- the value, if there is no fault
abbrev pub or_fault : {A F : Type 0} → Option F → A → Result A F
or_fault None value = Ok value
or_fault (Some fault) value = Err fault

-- the value if none of the tests fails, otherwise the fault of the first that does
abbrev pub tested : {A F : Type 0} → List (Bool × F) → A → Result A F
tested tests value = or_fault (first_that_holds tests) value

-- what is answered of a line, without the place of what is wrong
abbrev pub told : {A : Type 0} → Result A Unread → Result A FaultKind
told (Ok value) = Ok value
told (Err unread) = Err (fault_of unread.wrong)

-- the result of reading a script, without columns
abbrev pub plainly : {A : Type 0} → Result A Misread → Result A ScriptFault
plainly (Ok value) = Ok value
plainly (Err misread) = Err (script_fault misread)

-- What a function returned, seen by a view, is what is read.
abbrev pub Gives : {X A F : Type 0} → (X → A) → Result X F → Result A F → Type 0
Gives view (Ok x) read = read ≡ Ok (view x)
Gives view (Err fault) read = read ≡ Err fault

-- The same of a whole script; or memory was refused.
abbrev pub GivesOrLacks : {X A : Type 0} → (X → A) → Result X ScriptFault → Result A ScriptFault → Type 0
GivesOrLacks view (Ok x) read = read ≡ Ok (view x)
GivesOrLacks view (Err e) read = (e ≡ no_memory) ⊎ (read ≡ Err e)

-- What a function returned, seen by a view, is what is read of a line; or memory was refused.
abbrev pub GivesOrWants : {X A : Type 0} → (X → A) → Result X FaultKind → Result A FaultKind → Type 0
GivesOrWants view (Ok x) read = read ≡ Ok (view x)
GivesOrWants view (Err fault) read = (fault ≡ NoMemory) ⊎ (read ≡ Err fault)

-- ---- names

-- The places are those of a form.
abbrev pub IsFormAt : {A : Type 0} → Places → Option (Form A) → Type 0
IsFormAt places None = ⊥
IsFormAt places (Some form) = (form.least ≡ places.least) × (form.most ≡ places.most) × (form.limit ≡ places.limit)
    × (form.may_be_absent ≡ places.may_be_absent)

-- what a form makes of arguments
abbrev pub made_from : {A : Type 0} → (otherwise : A) → Option (Form A) → List (Option ℕ) → A
made_from otherwise None ns = otherwise
made_from otherwise (Some form) ns = form.makes ns

-- ---- what is read

-- what line n gave, with its number at its fault
abbrev pub located : {A : Type 0} → ℕ → Result A FaultKind → Result A ScriptFault
located n (Ok value) = Ok value
located n (Err fault) = Err (record { line = n; fault = fault })

-- a fault of line n; a failed allocation belongs to no line
abbrev pub located_fault : ℕ → FaultKind → ScriptFault
located_fault n NoMemory = no_memory
located_fault n fault = record { line = n; fault = fault }

-- what the lines say with line n, or its fault
unfoldable pub line_from : ℕ → Draft → List ℕ → Result Draft ScriptFault
line_from n draft text = located n
    (tested (byte_test text ∷ line_tests draft (words_in text)) (next_in n draft (words_in text)))

-- what the lines say with those from line n on, or their first fault
unfoldable pub lines_from : ℕ → Draft → List (List ℕ) → Result Draft ScriptFault
lines_from n draft texts = tested (lines_tests n draft texts) (draft_in n draft texts)

-- Reading goes on: whatever lines follow, what the bytes give from line n on after a draft is what the rest gives from line n' on after the next.
abbrev pub GoesOn : (n : ℕ) → Draft → List ℕ → (n' : ℕ) → (next : Draft) → (rest : List ℕ) → Type 0
GoesOn n draft bytes n' next rest =
    (more : List (List ℕ)) → lines_from n draft (lines bytes ++ more) ≡ lines_from n' next (lines rest ++ more)

-- with the board's numbers
abbrev pub with_config : Config → Result Draft ScriptFault → Result Written ScriptFault
with_config config (Ok draft) = Ok (record { config = config; content = content_of draft })
with_config config (Err fault) = Err fault

-- the script of the lines from line n on, or their first fault
unfoldable pub script_from : ℕ → List (List ℕ) → Result Written ScriptFault
script_from n texts = tested (board_first_tests n texts) (script_in n texts)

-- the script of all bytes, or their first fault
unfoldable pub script_of : List ℕ → Result Written ScriptFault
script_of bytes = tested (script_tests bytes) (script_in 1 (lines bytes))
