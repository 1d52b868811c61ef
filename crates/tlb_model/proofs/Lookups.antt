-- What a look-up goes through: the latest fills first, and of them those whose marks are set.
use Rattle.std.proofs.Common.{◌≡◌, ◌≢◌, ℕ, zero, suc, ◌+◌, ◌-◌, ◌%◌, ◌^◌, ◌<◌, ◌≤◌, min, Bool, true, false, ◌==◌, List, ◌++◌, length, get_or, ltb, refl, sym, ap, ◌∙◌, Option, Some, None, arith}
use Rattle.std.specs.Prelude.{find, option_map, slice_get}
use Rattle.std.specs.Int.{bit_at}
use Rattle.std.proofs.lemmas.Bool.{eqb-false, eqb-true, ltb-false, ltb-true}
use Rattle.std.proofs.lemmas.Nat.Bits.{bit_at-lt, bit_at-zero}
use Rattle.tlb_model.specs.declared.cache.Numbered.{Numbered}
use Rattle.tlb_model.specs.Inside.Places.{kept, seen}
use Rattle.tlb_model.proofs.Marks.{bit-below}
use Rattle.tlb_model.proofs.Places.{same_place}

module _ {E : Type 0} (h : E → Bool) (places : List E) (d : ℕ) where
  -- the item that is found in these fills
  abbrev found : List (Numbered E) → Option E
  found fills = option_map (λ fill. fill.item) (find (λ fill. h fill.item) fills)

  -- the fill of this number isn't live, or doesn't match
  abbrev pub Missed : ℕ → Type 0
  Missed m = (item : E) → slice_get places (m % 16) ≡ Some item → bit_at d (m % 16) ≡ 0 → h item ≡ false

  passed : (place : Option E) (bit day number : ℕ) (rest : List (Numbered E)) → bit < 2 → ((item : E) → place ≡ Some item → bit ≡ 0 → h item ≡ false)
      → found (kept place (bit == 1) day number ++ rest) ≡ found rest
  passed None bit day number rest small missed = refl
  passed (Some item) zero day number rest small missed = rw (missed item refl refl) refl
  passed (Some item) (suc zero) day number rest small missed = refl
  passed (Some item) (suc (suc bit)) day number rest small missed = absurd (omega arith)

  -- all of so many fills are missed
  pub found-none : (n k : ℕ) (ds : List ℕ) → ((m : ℕ) → m < n → n ≤ m + k → Missed m) → found (seen n k places ds d) ≡ None
  found-none zero k ds missed = refl
  found-none (suc n) zero ds missed = refl
  found-none (suc n) (suc k) ds missed =
      passed (slice_get places (n % 16)) (bit_at d (n % 16)) (get_or ds (n % 16) 0) n (seen n k places ds d) (bit_at-lt d (n % 16)) (missed n (omega arith) (omega arith))
      ∙ found-none n k ds (λ m below within. missed m (omega arith) (omega arith))

  -- a fill is live and matches, and all later ones are missed
  pub found-at : (n k m : ℕ) (ds : List ℕ) (item : E) → m < n → n ≤ m + k → slice_get places (m % 16) ≡ Some item → bit_at d (m % 16) ≡ 0 → h item ≡ true
      → ((q : ℕ) → m < q → q < n → Missed q) → found (seen n k places ds d) ≡ Some item
  found-at zero k m ds item below within here live is later = absurd (omega arith)
  found-at (suc n) zero m ds item below within here live is later = absurd (omega arith)
  found-at (suc n) (suc k) m ds item below within here live is later =
      by_place (n == m) refl (λ before. found-at n k m ds item before (omega arith) here live is (λ q up down. later q up (omega arith)))
    where
      first : found (kept (Some item) false (get_or ds (n % 16) 0) n ++ seen n k places ds d) ≡ Some item
      first = rw is refl

      by_place : (b : Bool) → (n == m) ≡ b → (m < n → found (seen n k places ds d) ≡ Some item) → found (seen (suc n) (suc k) places ds d) ≡ Some item
      by_place true same rest =
          let e : n % 16 ≡ m % 16 = ap (λ q. q % 16) (eqb-true n m same) in
          ap (λ place. found (kept place (bit_at d (n % 16) == 1) (get_or ds (n % 16) 0) n ++ seen n k places ds d)) (ap (slice_get places) e ∙ here)
          ∙ ap (λ bit. found (kept (Some item) (bit == 1) (get_or ds (n % 16) 0) n ++ seen n k places ds d)) (ap (bit_at d) e ∙ live)
          ∙ first
      by_place false other rest =
          let before : m < n = omega (arith, below, eqb-false n m other) in
          passed (slice_get places (n % 16)) (bit_at d (n % 16)) (get_or ds (n % 16) 0) n (seen n k places ds d) (bit_at-lt d (n % 16)) (later n before (omega arith))
          ∙ rest before

  -- A look-up that has gone through all of the last sixteen fills but those whose marks are left: bit 32 - a is the mark
  -- of the fill that is the a-th last.
  pub record IsSought (n left : ℕ) : Type 0 where
    pub missed : (bit m : ℕ) → 16 ≤ bit → bit < 32 → m + 32 ≡ n + bit → bit_at left bit ≡ 0 → Missed m
    pub live : (bit : ℕ) → bit_at left bit ≡ 1 → (16 ≤ bit) × (32 ≤ n + bit) × (bit_at d ((n + bit) % 16) ≡ 0)

  pub sought : (n w left : ℕ) → length places ≡ min 16 n → w < 2 ^ length places → left < 2 ^ 32
      → ((bit : ℕ) → 16 ≤ bit → bit < 32 → bit_at left bit ≡ bit_at w ((n + bit) % 16)) → ((bit : ℕ) → bit < 16 → bit_at left bit ≡ 0)
      → ((place : ℕ) → bit_at w place ≡ 1 → bit_at d place ≡ 0)
      → ((place : ℕ) (item : E) → slice_get places place ≡ Some item → bit_at w place ≡ 0 → bit_at d place ≡ 0 → h item ≡ false)
      → IsSought n left
  sought n w left full small word order low kept missing = record {
    missed = λ bit m from below at clear item here live.
        let same : (n + bit) % 16 ≡ m % 16 = omega arith in
        missing (m % 16) item here (ap (bit_at w) (sym same) ∙ sym (order bit from below) ∙ clear) live;
    live = λ bit set. by_half bit set (ltb bit 16) refl;
  }
    where
      by_half : (bit : ℕ) → bit_at left bit ≡ 1 → (b : Bool) → ltb bit 16 ≡ b → (16 ≤ bit) × (32 ≤ n + bit) × (bit_at d ((n + bit) % 16) ≡ 0)
      by_half bit set true is = absurd (omega (arith, set, low bit (ltb-true bit 16 is)))
      by_half bit set false is =
          let from = ltb-false bit 16 is in
          let below = bit-below left 32 bit word set in
          let marked : bit_at w ((n + bit) % 16) ≡ 1 = sym (order bit from below) ∙ set in
          let within = bit-below w (length places) ((n + bit) % 16) small marked in
          (from, omega (arith, within, full, from, below), kept ((n + bit) % 16) marked)

  -- the fill of the last mark doesn't match
  pub sought-on : (n left rest bit : ℕ) (item : E) → IsSought n left → bit < 32 → slice_get places ((n + bit) % 16) ≡ Some item → h item ≡ false
      → bit_at rest bit ≡ 0 → ((i : ℕ) → i < 32 → i ≢ bit → bit_at rest i ≡ bit_at left i) → rest < 2 ^ 32 → IsSought n rest
  sought-on n left rest bit item before below here past clear same word = record {
    missed = λ i m from down at off x there live. by_bit i m from down at off x there live (i == bit) refl;
    live = λ i set. before.live i (sym (same i (bit-below rest 32 i word set) (λ e. absurd (omega (arith, set, clear, ap (bit_at rest) e)))) ∙ set);
  }
    where
      by_bit : (i m : ℕ) → 16 ≤ i → i < 32 → m + 32 ≡ n + i → bit_at rest i ≡ 0 → (x : E) → slice_get places (m % 16) ≡ Some x → bit_at d (m % 16) ≡ 0
          → (b : Bool) → (i == bit) ≡ b → h x ≡ false
      by_bit i m from down at off x there live true is =
          let e = eqb-true i bit is in
          let one : m % 16 ≡ (n + bit) % 16 = omega (arith, e, at) in
          same_place h places (m % 16) ((n + bit) % 16) x item one there here ∙ past
      by_bit i m from down at off x there live false is =
          before.missed i m from down at (sym (same i down (eqb-false i bit is)) ∙ off) x there live

  -- the fill of the last mark matches
  pub sought-hit : (n left bit : ℕ) (ds : List ℕ) (item : E) → IsSought n left → bit < 32 → bit_at left bit ≡ 1 → ((i : ℕ) → bit < i → bit_at left i ≡ 0)
      → slice_get places ((n + bit) % 16) ≡ Some item → h item ≡ true → found (seen n 16 places ds d) ≡ Some item
  sought-hit n left bit ds item before below set none here is =
      let live = before.live bit set in
      let same : (n + bit) % 16 ≡ (n + bit - 32) % 16 = omega (arith, live.1) in
      found-at n 16 (n + bit - 32) ds item (omega (arith, live.1)) (omega (arith, live.0, live.1)) (ap (slice_get places) (sym same) ∙ here) (ap (bit_at d) (sym same) ∙ live.2) is
      (λ q up down. before.missed (q + 32 - n) q (omega (arith, live.0, live.1)) (omega arith) (omega (arith, live.1)) (none (q + 32 - n) (omega (arith, live.1))))

  -- no mark is left
  pub sought-none : (n : ℕ) (ds : List ℕ) → IsSought n 0 → found (seen n 16 places ds d) ≡ None
  sought-none n ds all = found-none n 16 ds (λ m below within. all.missed (m + 32 - n) m (omega arith) (omega arith) (omega arith) (bit_at-zero (m + 32 - n)))
