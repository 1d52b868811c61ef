-- Sinks after writes (profile).
use Rattle.std.specs.Prelude.{◌≡◌, ℕ, ◌<◌, List, ◌++◌, Option, Result, MatchResult, length}
use Rattle.std.specs.Io.KnownBytes.{Appends}

-- How a write that took n bytes of a piece counts. Taking none of a non-empty piece is a failed call.
pub record CountsTaken (old new n : ℕ) (piece : List ℕ) : Type 0 where
  pub some : 0 < n → new ≡ old
  pub nothing_to_take : length piece ≡ 0 → new ≡ old
  pub none : n ≡ 0 → 0 < length piece → old < new

-- A write counts as failed if it is refused, or takes none of a non-empty piece.
abbrev pub CountsWrite : {E : Type 0} → (old new : ℕ) → Result ℕ E → List ℕ → Type 0
CountsWrite old new result piece = MatchResult result (λ n. CountsTaken old new n piece) (λ _. old < new)

-- Ok: the sink took exactly this text, and no call failed. Err: a call failed.
abbrev pub Puts : {W T E : Type 0} → (W → Option (List ℕ)) → (W → ℕ) → W → W → Result T E → List ℕ → Type 0
Puts written failures old new result text = MatchResult result
    (λ _. Appends (written old) (written new) text × (failures new ≡ failures old))
    (λ _. failures old < failures new)

-- Ok: the text was appended to the waiting bytes; the sink took a prefix of both, and the rest waits. Err: a call
-- failed.
abbrev pub Passes : {W T E : Type 0} → (W → Option (List ℕ)) → (W → ℕ) → W → W → Result T E
    → (waiting later text : List ℕ) → Type 0
Passes written failures old new result waiting later text = MatchResult result
    (λ _. (taken : List ℕ) × Appends (written old) (written new) taken × (taken ++ later ≡ waiting ++ text)
    × (failures new ≡ failures old))
    (λ _. failures old < failures new)

-- Any other call counts as failed if it is refused.
abbrev pub CountsCall : {T E : Type 0} → (old new : ℕ) → Result T E → Type 0
CountsCall old new result = MatchResult result (λ _. new ≡ old) (λ _. old < new)
