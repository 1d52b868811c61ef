-- A script that is read in pieces (profile).
use Rattle.std.specs.Prelude.{◌≡◌, ◌≢◌, ◌⊎◌, ℕ, ◌+◌, nat_lt, if◌then◌else◌, List, [], ◌∷◌, ◌++◌, length, Some, Result, Err, IfErr, IfOk, MatchResult}
use Rattle.std.specs.Str.Lines.{lines}
use Rattle.board_terms.specs.declared.config.Config.{Config}
use Rattle.guest_script.specs.declared.fault.FaultKind.TheVariants.{NoMemory, TooLong}
use Rattle.guest_script.specs.declared.fault.ScriptFault.{ScriptFault}
use Rattle.script_lines.specs.declared.script.Script.{Script}
use Rattle.guest_script.specs.FirstFault.{first_fault}
use Rattle.guest_script.specs.Grammar.{Draft, Reads, Written, most_bytes, written}
use Rattle.guest_script.specs.Reading.{lines_from, script_from, script_of, with_config}

-- Bytes that are whole lines: none, or the last is a line feed.
abbrev pub AreWhole : List ℕ → Type 0
AreWhole bytes = (bytes ≡ []) ⊎ ((front : List ℕ) × (bytes ≡ front ++ 10 ∷ []))

-- What the lines of a script's beginning say: nothing, where none has words; a board, and what the lines after its own say; or what is wrong.
pub data Saying : Type 0 where
  Untold : Saying
  OnBoard : Config → Draft → Saying
  Wrong : ScriptFault → Saying

-- The beginning of a script, in whole lines: how many bytes, the number of the line after them, and what they say. Once
-- there are more bytes than a script may have, nothing more is known.
pub record Part : Type 0 where
  pub size : ℕ
  pub next : ℕ
  pub told : Saying

-- the script, where the lines from line n on follow
abbrev pub told_after : Saying → ℕ → List (List ℕ) → Result Written ScriptFault
told_after Untold n texts = script_from n texts
told_after (OnBoard config draft) n texts = with_config config (lines_from n draft texts)
told_after (Wrong fault) n texts = Err fault

-- the script, where these bytes follow
abbrev pub script_with : Part → List ℕ → Result Written ScriptFault
script_with part bytes =
    if nat_lt most_bytes (part.size + length bytes) then Err
    (record { line = 0; fault = TooLong }) else told_after part.told part.next (lines bytes)

-- A reader was given these bytes: whatever follows, the script is what it makes of that.
abbrev pub HasRead : (reader : Part) → List ℕ → Type 0
HasRead reader bytes = (more : List ℕ) → script_of (bytes ++ more) ≡ script_with reader more

-- The answer to bytes: the script that they are, or their first fault, or that memory ran out.
pub record IsAnswered (bytes : List ℕ) (answer : Result Script ScriptFault) : Type 0 where
  -- what is read is a script that the bytes are
  pub script : IfOk answer (λ script. Reads bytes (written script))
  -- bytes that are a script are read as that one, unless memory runs out
  pub only : (s : Written) → Reads bytes s → MatchResult answer (λ script. written script ≡ s) (λ e. e.fault ≡ NoMemory)
  -- any other fault is the first one
  pub fault : IfErr answer (λ e. e.fault ≢ NoMemory → first_fault bytes ≡ Some e)
  pub memory : IfErr answer (λ e. e.fault ≡ NoMemory → e.line ≡ 0)
