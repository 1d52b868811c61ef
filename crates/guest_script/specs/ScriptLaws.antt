-- What holds of scripts as text: each has one reading, and a first fault is at the first line that is none of a script's
-- (profile).
use Rattle.std.specs.Prelude.{◌≡◌, ◌↔◌, ◌⊎◌, ℕ, ◌+◌, ◌<◌, ◌≤◌, List, [], ◌∷◌, ◌++◌, length, None}
use Rattle.std.specs.Str.Lines.{lines}
use Rattle.board_terms.specs.declared.config.Config.{Config}
use Rattle.guest_script.specs.declared.fault.FaultKind.TheVariants.{NoBoardLine, TooLong}
use Rattle.guest_script.specs.declared.fault.ScriptFault.{ScriptFault}
use Rattle.guest_script.specs.Words.{IsLine}
use Rattle.guest_script.specs.Grammar.{AreLines, Draft, IsBoard, Nothing, Reads, Written, most_bytes}
use Rattle.guest_script.specs.FirstFault.{first_fault}

-- Bytes are at most one script, and they are one if and only if there is no first fault.
pub record HasOneReading (bytes : List ℕ) : Type 0 where
  pub at_most_one : (s t : Written) → Reads bytes s → Reads bytes t → s ≡ t
  pub script_or_fault : ((s : Written) × Reads bytes s) ↔ (first_fault bytes ≡ None)

-- ---- where a first fault is

-- This is the first line, from line n on, after which the lines can't be a script's: those before it can be, but not with it.
pub record IsFirstWrong (n : ℕ) (draft : Draft) (texts : List (List ℕ)) (wrong : ℕ) : Type 0 where
  pub before : List (List ℕ)
  pub text : List ℕ
  pub after : List (List ℕ)
  pub parts : texts ≡ before ++ text ∷ after
  pub place : wrong ≡ n + length before
  pub said : Draft
  pub are_lines : AreLines n draft before said
  pub none_with_it : (next : Draft) → AreLines wrong said (text ∷ []) next → ⊥

-- The text has words, or a byte that no line has; and it is no board line.
pub record IsNoBoard (text : List ℕ) : Type 0 where
  pub filled : IsLine text [] → ⊥
  pub other : (words : List (List ℕ)) (config : Config) → IsLine text words → IsBoard words config → ⊥

-- The fault is at the first line, from line n on, after which the lines can't be a script's; the first line with words must be
-- the board's. If no line has words, the fault is at none.
abbrev pub IsAtFirstWrong : (n : ℕ) → List (List ℕ) → ScriptFault → Type 0
IsAtFirstWrong n [] e = e ≡ record { line = 0; fault = NoBoardLine }
IsAtFirstWrong n (text ∷ texts) e =
    (IsLine text [] × IsAtFirstWrong (n + 1) texts e)
    ⊎ ((words : List (List ℕ)) × (config : Config) × IsLine text words × IsBoard words config
    × IsFirstWrong (n + 1) Nothing texts e.line)
    ⊎ ((e.line ≡ n) × IsNoBoard text)

-- A fault is that the script is too long. Otherwise it is at the first wrong line, or at none if no line has words.
abbrev pub IsPlaced : List ℕ → ScriptFault → Type 0
IsPlaced bytes e =
    ((most_bytes < length bytes) × (e ≡ record { line = 0; fault = TooLong }))
    ⊎ ((length bytes ≤ most_bytes) × IsAtFirstWrong 1 (lines bytes) e)
