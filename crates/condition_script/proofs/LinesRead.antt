-- The lines of a text, read from the first on.
use Rattle.std.proofs.Common.{◌≡◌, ℕ, ◌+◌, eqb, map, true, List, [], ◌∷◌, ◌++◌, length, refl, subst, inl, inr, arith}
use Rattle.std.specs.Prelude.{MatchOption, Option, Some, None}
use Rattle.std.specs.Borrow.{Bor}
use Rattle.std.specs.Str.Lines.{lines}
use Rattle.std.proofs.lemmas.Bool.{eqb-true}
use Rattle.std.proofs.lemmas.List.{append-nil}
use Rattle.condition_script.specs.Grammar.{HasCondition, IsAsking, IsShebang, IsSilent, ReadsConditions, ConditionValue, condition_value}
use Rattle.condition_script.specs.FirstFault.{IsFaulty, IsUnreadable}
use Rattle.condition_script.specs.Inside.Reading.{HasRead, IsPut}
use Rattle.condition_script.proofs.Asked.{map_push, one_more}
use Rattle.condition_script.specs.declared.reading.Condition.{Condition}
use Rattle.condition_script.proofs.OneReading.{one_reading}

pub none_yet : (bytes : List ℕ) → HasRead bytes 1 bytes []
none_yet bytes = record { all = λ others have. have; faulty = λ line column wrong. wrong }

module _ (bytes rest text after : List ℕ) (n : ℕ) (found : List ConditionValue) (parts : lines rest ≡ text ∷ lines after) (read : HasRead bytes n rest found) where
  pub silent_read : IsSilent n text → HasRead bytes (n + 1) after found
  silent_read silent = record {
    all = λ others have. read.all others (rw parts (inl (silent, have)));
    faulty = λ line column wrong. read.faulty line column (rw parts (inl (inl silent, wrong)));
  }

  pub condition_read : (c : ConditionValue) → HasCondition n text c → HasRead bytes (n + 1) after (found ++ c ∷ [])
  condition_read c has = record {
    all = λ others have. rw (one_more found c others) (read.all (c ∷ others) (rw parts (inr (c, others, has, have, refl))));
    faulty = λ line column wrong. read.faulty line column (rw parts (inl (inr (c, has), wrong)));
  }

  pub put_read : (old new : List Condition) → found ≡ map condition_value old → IsPut n text old new → HasRead bytes (n + 1) after (map condition_value new)
  put_read old new is (inl silent) = rw (silent.1, ← is) (silent_read silent.0)
  put_read old new is (inr (c, has, more)) = rw (more, map_push condition_value old c, ← is) (condition_read (condition_value c) has)

  pub no_reading : (column : ℕ) → IsUnreadable n text column → (s : List ConditionValue) → ReadsConditions bytes s → ⊥
  no_reading column wrong s reads = (one_reading bytes).not_both s n column reads (read.faulty n column (rw parts (inr (refl, wrong))))

  pub unread_found : (column : ℕ) → IsUnreadable n text column → IsFaulty bytes n column
  unread_found column wrong = read.faulty n column (rw parts (inr (refl, wrong)))

pub all_read : (bytes : List ℕ) (n : ℕ) (found : List ConditionValue) → HasRead bytes n [] found → ReadsConditions bytes found
all_read bytes n found read = subst (λ s. ReadsConditions bytes s) (append-nil found) (read.all [] refl)

nothing : (rest : List ℕ) → eqb (length rest) 0 ≡ true → rest ≡ []
nothing [] e = refl
nothing (b ∷ rest) e = absurd (omega (arith, eqb-true (length (b ∷ rest)) 0 e))

pub rest_read : (bytes rest : List ℕ) (n : ℕ) (found : List ConditionValue) → eqb (length rest) 0 ≡ true → HasRead bytes n rest found → ReadsConditions bytes found
rest_read bytes rest n found none read = all_read bytes n found (subst (λ r. HasRead bytes n r found) (nothing rest none) read)

-- ---- one line

pub silent_if : (n : ℕ) (text : List ℕ) (found : Option (Bor (List ℕ))) → MatchOption found (IsShebang n text) (λ rest. IsAsking n text rest.now)
    → MatchOption found (IsSilent n text) (λ rest. IsAsking n text rest.now)
silent_if n text None shebang = λ rest asking. asking.no_shebang shebang
silent_if n text (Some rest) is = is
