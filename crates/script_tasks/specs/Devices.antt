-- What a device over a reader or a writer of the system returns (profile).
use Rattle.std.specs.Prelude.{◌≡◌, ℕ, ◌+◌, Bool, true, ◌==◌, nat_lt, ◌&&◌, if◌then◌else◌, List, Result, Ok, MatchResult, IsErr, IsOk, length}

-- A reader or a writer with the count of its failed calls, and whether a writer was flushed since it was last written to.
pub record Counted (T : Type 0) : Type 0 where
  pub inner : T
  pub failures : ℕ
  pub flushed : Bool

-- one failed call more
abbrev pub with_failure : {T : Type 0} → Counted T → Counted T
with_failure d = record d { failures = d.failures + 1 }

-- A device returns what a call answered: a good answer changes nothing, and a failed call is counted once.
abbrev pub HandsOn : {T A E F : Type 0} → Counted T → Counted T → Result A E → Result A F → Type 0
HandsOn old new answer result = MatchResult answer (λ value. (result ≡ Ok value) × (new ≡ old))
    (λ _. IsErr result × (new ≡ with_failure old))

-- whether a write of a piece that has bytes took none of it
abbrev pub takes_nothing : (n : ℕ) → (piece : List ℕ) → Bool
takes_nothing n piece = (n == 0) && nat_lt 0 (length piece)

-- A device returns what a write of a piece answered. The write is counted once if it failed, or took none of a non-empty piece.
abbrev pub HandsOnWrite : {T E F : Type 0} → Counted T → Counted T → Result ℕ E → List ℕ → Result ℕ F → Type 0
HandsOnWrite old new answer piece result = MatchResult answer
    (λ n. (result ≡ Ok n) × (new ≡ (if takes_nothing n piece then with_failure old else old)))
    (λ _. IsErr result × (new ≡ with_failure old))

-- A device returns what a flush answered: after a good one nothing is held back, and a failed one is counted once.
abbrev pub HandsOnFlush : {T A E F : Type 0} → Counted T → Counted T → Result A E → Result A F → Type 0
HandsOnFlush old new answer result = MatchResult result
    (λ _. IsOk answer × (new ≡ record old { flushed = true }))
    (λ _. IsErr answer × (new ≡ with_failure old))
