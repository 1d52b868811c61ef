-- What waits at a hart, turn by turn.
use Rattle.std.proofs.Common.{◌≡◌, ℕ, ◌<◌, ◌≤◌, suc, zero, Bool, true, false, List, [], ◌∷◌, length, drop, refl, arith}
use Rattle.std.specs.Prelude.{◌==◌, if◌then◌else◌, Option, Some, None}
use Rattle.std.proofs.lemmas.Bool.{eqb-true}
use Rattle.std.proofs.lemmas.List.{length-append, length-drop}
use Rattle.rfence.specs.Opening.{Asked, Opening, place_after}
use Rattle.rfence.specs.Turns.{Turn, Ask, Own, Serve, Poll, Stop, Reset, Quiet, empties, is_serve}
use Rattle.rfence.specs.Waiting.{added, one_more, request_by, requests, serves, waiting}
use Rattle.rfence.specs.Right.{IsRight, IsRightTurn}

-- dropping goes past what is added where as much is there
drop-added : {A : Type 0} (k : ℕ) (xs : List A) (o : Option A) → k ≤ length xs → drop k (added xs o) ≡ added (drop k xs) o
drop-added k xs None within = refl
drop-added zero xs (Some x) within = refl
drop-added (suc k) [] (Some x) within = absurd (omega arith)
drop-added (suc k) (y ∷ xs) (Some x) within = drop-added k xs (Some x) (omega arith)

drop-suc : {A : Type 0} (k : ℕ) (xs : List A) → drop (suc k) xs ≡ drop 1 (drop k xs)
drop-suc zero xs = refl
drop-suc (suc k) [] = refl
drop-suc (suc k) (x ∷ xs) = drop-suc k xs

length-added : {A : Type 0} (xs : List A) (o : Option A) → length xs ≤ length (added xs o)
length-added xs None = omega arith
length-added xs (Some x) = omega (arith, length-append xs (x ∷ []))

module _ {F : Type 0} where
  -- what waits after a turn, of what waited before it
  abbrev pub waited : List (Asked F) → ℕ → Turn F → ℕ → List (Asked F)
  waited before place turn t =
      if empties turn t then [] else if is_serve turn t then drop 1 before else added before (request_by place turn t)

module _ {F : Type 0} (o : Opening F) where
  -- a serve takes what is there
  pub short : (n : ℕ) (turns : List (Turn F)) (t : ℕ) → IsRight o n turns → serves turns t ≤ length (requests o turns t)
  short n [] t right = omega arith
  short n (turn ∷ turns) t right = by_turn turn right.0 (short n turns t right.1)
    where
      more : (turn : Turn F) → empties turn t ≡ false → is_serve turn t ≡ false → serves turns t ≤ length (requests o turns t)
          → serves (turn ∷ turns) t ≤ length (requests o (turn ∷ turns) t)
      more turn stays quiet before =
          rw (stays, quiet) (let long = length-added (requests o turns t) (request_by (place_after o turns) turn t) in omega arith)

      served : (x : ℕ) → (own : Bool) → (x == t) ≡ own → 0 < length (waiting o turns x) → serves turns t ≤ length (requests o turns t)
          → one_more (x == t) (serves turns t) ≤ length (requests o turns t)
      served x true is some before =
          let same : x ≡ t = eqb-true x t is in
          let there : 0 < length (waiting o turns t) = rw same at some in
          rw is (omega (arith, length-drop (serves turns t) (requests o turns t)))
      served x false is some before = rw is before

      by_turn : (turn : Turn F) → IsRightTurn o n turns turn → serves turns t ≤ length (requests o turns t)
          → serves (turn ∷ turns) t ≤ length (requests o (turn ∷ turns) t)
      by_turn (Ask x asked flush) ok before = more (Ask x asked flush) refl refl before
      by_turn (Own x flush) ok before = before
      by_turn (Serve x) ok before = served x (x == t) refl ok.1 before
      by_turn (Poll x) ok before = before
      by_turn (Stop x) ok before = stopped (x == t)
        where
          stopped : (own : Bool) → (if own then 0 else serves turns t) ≤ length (if own then [] else requests o turns t)
          stopped true = omega arith
          stopped false = before
      by_turn Reset ok before = omega arith
      by_turn Quiet ok before = before

  -- what waits, by the last turn
  pub waiting-more : (n : ℕ) (turn : Turn F) (turns : List (Turn F)) (t : ℕ) → IsRight o n turns
      → waiting o (turn ∷ turns) t ≡ waited (waiting o turns t) (place_after o turns) turn t
  waiting-more n turn turns t right = by_turn turn
    where
      within : serves turns t ≤ length (requests o turns t)
      within = short n turns t right

      by_turn : (turn : Turn F) → waiting o (turn ∷ turns) t ≡ waited (waiting o turns t) (place_after o turns) turn t
      by_turn (Ask x asked flush) = drop-added (serves turns t) (requests o turns t) (request_by (place_after o turns) (Ask x asked flush) t) within
      by_turn (Own x flush) = refl
      by_turn (Serve x) = served (x == t)
        where
          served : (own : Bool) → drop (one_more own (serves turns t)) (requests o turns t) ≡ (if own then drop 1 (waiting o turns t) else waiting o turns t)
          served true = drop-suc (serves turns t) (requests o turns t)
          served false = refl
      by_turn (Poll x) = refl
      by_turn (Stop x) = stopped (x == t)
        where
          stopped : (own : Bool) → drop (if own then 0 else serves turns t) (if own then [] else requests o turns t) ≡ (if own then [] else waiting o turns t)
          stopped true = refl
          stopped false = refl
      by_turn Reset = refl
      by_turn Quiet = refl
