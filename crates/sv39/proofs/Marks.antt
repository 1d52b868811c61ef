-- Marks of lines, and what lists of words with marks have in common.
use Rattle.std.proofs.Common.{◌≡◌, ◌≢◌, ℕ, ◌+◌, ◌-◌, ◌*◌, ◌/◌, ◌%◌, ◌^◌, ◌<◌, ◌≤◌, List, length, get_or, set, replicate, inl, inr, ap, sym, ◌∙◌, div-le_self, shr-shr, arith}
use Rattle.std.specs.Prelude.{bit_or}
use Rattle.std.specs.Int.{bit_at, trailing_zeros, w64}
use Rattle.std.proofs.lemmas.Bool.{cases_eq, cases_lt}
use Rattle.std.proofs.lemmas.List.{ext_get_or, get_or-set_other, get_or-set_same, length-set}
use Rattle.std.proofs.lemmas.Nat.Bits.{bit_at-trailing_zeros, bit_at-zero, bit_at_above, bit_at_or, bit_at_set_other, bit_at_set_same}
use Rattle.sv39.specs.Nonzero.{IsClear}
use Rattle.sv39.specs.Inside.Lines.{AreMarked, AreSame, AreUnmarked, mark_of, marked}
use Rattle.sv39.proofs.ClearWords.{zero-there}

-- ---- a mark more

-- a line without a mark then is another one, and had none before
pub unmarked-before : (marks : List ℕ) (line k : ℕ) → line / 64 < length marks → mark_of (marked marks line) k ≡ 0 → (k ≢ line) × (mark_of marks k ≡ 0)
unmarked-before marks line k within none =
    let row : ℕ = get_or marks (line / 64) 0 in
    let value : ℕ = bit_or row (1 * 2 ^ (line % 64) % 2 ^ 64) in
    let small : line % 64 < 64 = omega arith in
    elim (cases_eq (k / 64) (line / 64)) [
      | inl here ↦
          let now : get_or (marked marks line) (k / 64) 0 ≡ value = ap (λ r. get_or (marked marks line) r 0) here ∙ get_or-set_same marks (line / 64) value 0 within in
          elim (cases_eq (k % 64) (line % 64)) [
            | inl same ↦
                let one : mark_of (marked marks line) k ≡ 1 = (λ i. bit_at (now i) (same i)) ∙ bit_at_set_same w64 row (line % 64) small in
                absurd (omega (arith, one, none))
            | inr other ↦ (
              λ e. other (ap (λ n. n % 64) e),
              ap (λ r. bit_at (get_or marks r 0) (k % 64)) here ∙ sym (bit_at_set_other w64 row (line % 64) small (k % 64) other) ∙ sym (ap (λ v. bit_at v (k % 64)) now) ∙ none,
            )
          ]
      | inr other ↦ (
        λ e. other (ap (λ n. n / 64) e),
        ap (λ v. bit_at v (k % 64)) (sym (get_or-set_other marks (line / 64) (k / 64) value 0 other)) ∙ none,
      )
    ]

-- a word more, with the mark of its line
pub marked-set : (words marks : List ℕ) (place value : ℕ) → place / 8 / 64 < length marks → AreMarked words marks
    → AreMarked (set words place value) (marked marks (place / 8))
marked-set words marks place value within kept = λ k none.
    let before = unmarked-before marks (place / 8) (k / 8) within none in
    let other : k ≢ place = λ e. before.0 (ap (λ n. n / 8) e) in
    get_or-set_other words place k value 0 other ∙ kept k before.1

pub length-marked : (marks : List ℕ) (line : ℕ) → length (marked marks line) ≡ length marks
length-marked marks line = length-set marks (line / 64) (bit_or (get_or marks (line / 64) 0) (1 * 2 ^ (line % 64) % 2 ^ 64))

-- words that are all 0 need no marks
pub zeros-marked : (n : ℕ) (marks : List ℕ) → AreMarked (replicate n 0) marks
zeros-marked n marks = λ k none. zero-there n k 0

-- ---- the next mark

pub unmarked-joined : (marks : List ℕ) (from at to : ℕ) → AreUnmarked marks from at → AreUnmarked marks at to → AreUnmarked marks from to
unmarked-joined marks from at to first second =
    λ k after below. elim (cases_lt k at) [ inl before ↦ first k after before | inr behind ↦ second k behind below ]

-- a bit that neither of two numbers has
either-bit : (a b s i : ℕ) → bit_at (bit_or a b / 2 ^ s) i ≡ 0 → (bit_at a (s + i) ≡ 0) × (bit_at b (s + i) ≡ 0)
either-bit a b s i none =
    let both : bit_at (bit_or a b) (s + i) ≡ 0 = sym (ap (λ n. n % 2) (shr-shr (bit_or a b) s i)) ∙ none in
    let most = bit_at_or a b (s + i) in
    (omega (arith, both, most), omega (arith, both, most))

-- so many lines of a row without a mark in either list
row-unmarked : (marks others : List ℕ) (line n : ℕ) → line % 64 + n ≤ 64
    → ((i : ℕ) → i < n → bit_at (bit_or (get_or marks (line / 64) 0) (get_or others (line / 64) 0) / 2 ^ (line % 64)) i ≡ 0)
    → AreUnmarked marks line (line + n) × AreUnmarked others line (line + n)
row-unmarked marks others line n fits none =
    let a : ℕ = get_or marks (line / 64) 0 in
    let b : ℕ = get_or others (line / 64) 0 in
    let row : (k : ℕ) → line ≤ k → k < line + n → k / 64 ≡ line / 64 = λ k after below. omega arith in
    let place : (k : ℕ) → line ≤ k → k < line + n → k % 64 ≡ line % 64 + (k - line) = λ k after below. omega arith in
    let bits : (k : ℕ) → line ≤ k → k < line + n → (bit_at a (line % 64 + (k - line)) ≡ 0) × (bit_at b (line % 64 + (k - line)) ≡ 0) =
    λ k after below. either-bit a b (line % 64) (k - line) (none (k - line) (omega arith)) in (
      λ k after below. (λ i. bit_at (get_or marks (row k after below i) 0) (place k after below i)) ∙ (bits k after below).0,
      λ k after below. (λ i. bit_at (get_or others (row k after below i) 0) (place k after below i)) ∙ (bits k after below).1,
    )

-- the rest of a row without a mark
pub rest-unmarked : (marks others : List ℕ) (line : ℕ)
    → bit_or (get_or marks (line / 64) 0) (get_or others (line / 64) 0) / 2 ^ (line % 64) ≡ 0
    → AreUnmarked marks line (line + (64 - line % 64)) × AreUnmarked others line (line + (64 - line % 64))
rest-unmarked marks others line none =
    row-unmarked marks others line (64 - line % 64) (omega arith) (λ i below. ap (λ n. bit_at n i) none ∙ bit_at-zero i)

-- the lines before the first mark of a row, and where that is
pub first-marked : (marks others : List ℕ) (line : ℕ)
    → bit_or (get_or marks (line / 64) 0) (get_or others (line / 64) 0) < 2 ^ 64
    → 0 < bit_or (get_or marks (line / 64) 0) (get_or others (line / 64) 0) / 2 ^ (line % 64)
    → let zeros : ℕ = trailing_zeros w64 (bit_or (get_or marks (line / 64) 0) (get_or others (line / 64) 0) / 2 ^ (line % 64)) in
    (line % 64 + zeros < 64) × AreUnmarked marks line (line + zeros) × AreUnmarked others line (line + zeros)
first-marked marks others line fits some =
    let both : ℕ = bit_or (get_or marks (line / 64) 0) (get_or others (line / 64) 0) in
    let left : ℕ = both / 2 ^ (line % 64) in
    let zeros : ℕ = trailing_zeros w64 left in
    let small : left < 2 ^ 64 = omega (arith, div-le_self both (2 ^ (line % 64))) in
    let first = bit_at-trailing_zeros w64 left some small in
    let one : bit_at both (line % 64 + zeros) ≡ 1 = sym (ap (λ n. n % 2) (shr-shr both (line % 64) zeros)) ∙ first.1 in
    let inside : line % 64 + zeros < 64 = elim (cases_lt (line % 64 + zeros) 64) [
      | inl below ↦ below
      | inr above ↦ absurd (omega (arith, one, bit_at_above both 64 (line % 64 + zeros) fits above))
    ] in
    let rows = row-unmarked marks others line zeros (omega (arith, inside)) (λ i below. first.2 i below) in
    (inside, rows.0, rows.1)

-- ---- lines without a mark are passed over

-- they are the same in both lists
pub skip-same : (now words others marks other_marks : List ℕ) (line next : ℕ) → AreMarked words marks → AreMarked others other_marks
    → AreUnmarked marks line next → AreUnmarked other_marks line next → ((k : ℕ) → 8 * line ≤ k → get_or now k 0 ≡ get_or words k 0)
    → AreSame now others 0 (8 * line) → AreSame now others 0 (8 * next)
skip-same now words others marks other_marks line next kept others_kept none none_other rest same = λ k low below. elim (cases_lt k (8 * line)) [
  | inl before ↦ same k low before
  | inr behind ↦
      let from : line ≤ k / 8 = omega arith in
      let to : k / 8 < next = omega arith in
      rest k behind ∙ kept k (none (k / 8) from to) ∙ sym (others_kept k (none_other (k / 8) from to))
]

-- they are 0
pub skip-clear : (now words marks : List ℕ) (line next : ℕ) → AreMarked words marks → AreUnmarked marks line next
    → ((k : ℕ) → 8 * line ≤ k → get_or now k 0 ≡ get_or words k 0) → IsClear now 0 (8 * line) → IsClear now 0 (8 * next)
skip-clear now words marks line next kept none rest clear = λ k low below. elim (cases_lt k (8 * line)) [
  | inl before ↦ clear k low before
  | inr behind ↦
      let from : line ≤ k / 8 = omega arith in
      let to : k / 8 < next = omega arith in
      rest k behind ∙ kept k (none (k / 8) from to)
]

-- lines of a RAM
pub lines-clear : (words marks : List ℕ) (line next : ℕ) → AreMarked words marks → AreUnmarked marks line next → IsClear words (8 * line) (8 * next)
lines-clear words marks line next kept none = λ k after below. kept k (none (k / 8) (omega arith) (omega arith))

-- lists that are the same everywhere
pub all-same : (words others : List ℕ) (to : ℕ) → length words ≡ length others → length words ≤ to → AreSame words others 0 to → words ≡ others
all-same words others to long most same = ext_get_or 0 words others long (λ k below. same k (omega arith) (omega arith))
