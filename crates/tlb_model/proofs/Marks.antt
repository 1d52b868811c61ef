-- Words of marks, a bit for each place: the first and the last that is set, and those that a tag leaves.
use Rattle.std.proofs.Common.{◌≡◌, ◌≢◌, inl, inr, ℕ, suc, ◌+◌, ◌-◌, ◌*◌, ◌/◌, ◌%◌, ◌^◌, ◌<◌, ◌≤◌, Bool, true, false, cond, List, length, get_or, map, replicate, ltb, eqb, refl, sym, ap, ◌∙◌, Some, arith, bit_and, bit_or, w8}
use Rattle.std.specs.Prelude.{slice_get}
use Rattle.std.specs.Int.{bit_at, w32}
use Rattle.std.specs.Int.Count.{count_leading_zeros, count_trailing_zeros}
use Rattle.std.specs.Simd.Lanes.{mask_l, top, zip2}
use Rattle.std.proofs.Math.Nat.{mod-eq_of_lt, pow-succ'}
use Rattle.std.proofs.lemmas.Bool.{eq-eqb, ltb-false, ltb-true}
use Rattle.std.proofs.lemmas.List.{get_or-map, length-map}
use Rattle.std.proofs.lemmas.Nat.{and_le_l, div-add-mod', div-mul-add, leading_top, or_lt, or_shifted, pow_pos, shr-shr}
use Rattle.std.proofs.lemmas.Nat.Bits.{bit_at-lt, bit_at-trailing_zeros, bit_at-zero, bit_at_above, bit_at_and, bit_at_cat_high, bit_at_cat_low, bit_at_clear_other, bit_at_clear_same, bit_at_or}
use Rattle.std.proofs.lemmas.Simd.{bit_mask_l, bitmask_splat, mask_l-lt}
use Rattle.tlb_model.specs.Inside.Tags.{Suits}
use Rattle.tlb_model.proofs.Places.{below_length}

-- a set bit of a word is one of its bits
pub bit-below : (a k i : ℕ) → a < 2 ^ k → bit_at a i ≡ 1 → i < k
bit-below a k i small set = by_size (ltb i k) refl
  where
    by_size : (b : Bool) → ltb i k ≡ b → i < k
    by_size true is = ltb-true i k is
    by_size false is = absurd (omega (arith, set, bit_at_above a k i small (ltb-false i k is)))

-- the low bits of a word
pub bit-mod : (a k i : ℕ) → i < k → bit_at (a % 2 ^ k) i ≡ bit_at a i
bit-mod a k i below = sym (ap (λ v. bit_at v i) (sym (div-add-mod' a (2 ^ k))) ∙ bit_at_cat_low (a / 2 ^ k) k (a % 2 ^ k) i below)

-- the places whose tags are equal to one
abbrev pub equal_tags : List ℕ → ℕ → ℕ
equal_tags tags tag = mask_l (map (top 7) (zip2 (λ a b. cond (eqb a b) 255 0) tags (replicate 16 tag))) % 2 ^ 64

equal_mask : (tags : List ℕ) (tag : ℕ) → length tags ≡ 16 → equal_tags tags tag ≡ mask_l (map (λ x. eqb x tag) tags)
equal_mask tags tag long = bitmask_splat w8 eqb tags 16 tag long (omega arith)

equal-lt : (tags : List ℕ) (tag : ℕ) → length tags ≡ 16 → equal_tags tags tag < 2 ^ 16
equal-lt tags tag long =
    omega (arith, equal_mask tags tag long, mask_l-lt (map (λ x. eqb x tag) tags), ap (λ n. 2 ^ n) (length-map tags (λ x. eqb x tag) ∙ long))

equal_bit : (tags : List ℕ) (tag place : ℕ) → length tags ≡ 16 → place < 16 → get_or tags place 0 ≡ tag → bit_at (equal_tags tags tag) place ≡ 1
equal_bit tags tag place long below same =
    ap (λ m. bit_at m place) (equal_mask tags tag long) ∙ bit_mask_l (map (λ x. eqb x tag) tags) place
    ∙ ap (λ b. cond b 1 0) (get_or-map (λ x. eqb x tag) tags place 0 false (omega arith) ∙ eq-eqb (get_or tags place 0) tag same)

pub tags_fit : (tags : List ℕ) (tag : ℕ) → length tags ≡ 16 → bit_or (equal_tags tags tag) (equal_tags tags 255) < 2 ^ 16
tags_fit tags tag long = or_lt 16 (equal_tags tags tag) (equal_tags tags 255) (equal-lt tags tag long) (equal-lt tags 255 long)

pub suited : (tags : List ℕ) (tag place : ℕ) → length tags ≡ 16 → place < 16 → Suits (get_or tags place 0) tag
    → bit_at (bit_or (equal_tags tags tag) (equal_tags tags 255)) place ≡ 1
suited tags tag place long below (inl same) =
    let set = equal_bit tags tag place long below same in
    bit_at_or (equal_tags tags tag) (equal_tags tags 255) place ∙ omega (arith, set, bit_at-lt (equal_tags tags 255) place)
suited tags tag place long below (inr any) =
    let set = equal_bit tags 255 place long below any in
    bit_at_or (equal_tags tags tag) (equal_tags tags 255) place ∙ omega (arith, set, bit_at-lt (equal_tags tags tag) place)

pub suits-at : (x y v w : ℕ) → x ≡ y → v ≡ w → Suits y v → Suits x w
suits-at x y v w tags wanted (inl same) = inl (tags ∙ same ∙ wanted)
suits-at x y v w tags wanted (inr any) = inr (tags ∙ any)

-- the places that are kept and suit
pub narrowed-set : (k s d room place : ℕ) → k < 2 ^ room → ((i : ℕ) → i < room → bit_at k i ≡ 1 - bit_at d i) → bit_at (bit_and k s) place ≡ 1 → bit_at d place ≡ 0
narrowed-set k s d room place small bits set =
    let kept : bit_at k place ≡ 1 = omega (arith, set, bit_at_and k s place, bit_at-lt k place) in
    omega (arith, kept, bits place (bit-below k room place small kept))

pub narrowed-missed : {E : Type 0} (h : E → Bool) (places : List E) (k s d place : ℕ) (item : E) → ((i : ℕ) → i < length places → bit_at k i ≡ 1 - bit_at d i)
    → slice_get places place ≡ Some item → bit_at (bit_and k s) place ≡ 0 → bit_at d place ≡ 0 → (h item ≡ true → bit_at s place ≡ 1) → h item ≡ false
narrowed-missed h places k s d place item bits here clear live suits = by_test (h item) refl
  where
    by_test : (b : Bool) → h item ≡ b → h item ≡ false
    by_test false is = is
    by_test true is = absurd (omega (arith, suits is, clear, bit_at_and k s place, bits place (below_length places place item here), live))

add-nil : (x : ℕ) → x ≡ x + 0
add-nil x = omega arith

-- a word of sixteen marks, turned so that the mark of the last fill is on top
pub turned : (w c i : ℕ) → w < 2 ^ 16 → c < 16 → 16 ≤ i → i < 32
    → bit_at (bit_or (w * 2 ^ 16 % 2 ^ 32) w / 2 ^ c * 2 ^ 16 % 2 ^ 32) i ≡ bit_at w ((c + i) % 16)
turned w c i small few from below =
    let whole : w * 2 ^ 16 % 2 ^ 32 ≡ w * 2 ^ 16 = mod-eq_of_lt (omega arith) in
    let twice : bit_or (w * 2 ^ 16 % 2 ^ 32) w ≡ w * 2 ^ 16 + w = ap (λ v. bit_or v w) whole ∙ or_shifted w 16 w small in
    ap (λ v. bit_at (v / 2 ^ c * 2 ^ 16 % 2 ^ 32) i) twice
    ∙ bit-mod ((w * 2 ^ 16 + w) / 2 ^ c * 2 ^ 16) 32 i below
    ∙ ap (λ v. bit_at v i) (add-nil ((w * 2 ^ 16 + w) / 2 ^ c * 2 ^ 16))
    ∙ bit_at_cat_high ((w * 2 ^ 16 + w) / 2 ^ c) 16 0 i (pow_pos 16) from
    ∙ ap (λ v. v % 2) (shr-shr (w * 2 ^ 16 + w) c (i - 16))
    ∙ by_half (ltb (c + (i - 16)) 16) refl
  where
    by_half : (b : Bool) → ltb (c + (i - 16)) 16 ≡ b → bit_at (w * 2 ^ 16 + w) (c + (i - 16)) ≡ bit_at w ((c + i) % 16)
    by_half true is =
        let low = ltb-true (c + (i - 16)) 16 is in
        bit_at_cat_low w 16 w (c + (i - 16)) low ∙ ap (bit_at w) (omega arith)
    by_half false is =
        let high = ltb-false (c + (i - 16)) 16 is in
        bit_at_cat_high w 16 w (c + (i - 16)) small high ∙ ap (bit_at w) (omega arith)

pub turned-low : (z i : ℕ) → i < 16 → bit_at (z * 2 ^ 16 % 2 ^ 32) i ≡ 0
turned-low z i below =
    bit-mod (z * 2 ^ 16) 32 i (omega arith)
    ∙ ap (λ v. bit_at v i) (add-nil (z * 2 ^ 16)) ∙ bit_at_cat_low z 16 0 i below ∙ bit_at-zero i

-- the last bit of a word that is set, and the word without it
pub record IsLast (a place : ℕ) : Type 0 where
  pub set : bit_at a place ≡ 1
  pub none : (i : ℕ) → place < i → bit_at a i ≡ 0
  pub clear : bit_at (bit_and a (4294967295 - 1 * 2 ^ place % 4294967296)) place ≡ 0
  pub same : (i : ℕ) → i < 32 → i ≢ place → bit_at (bit_and a (4294967295 - 1 * 2 ^ place % 4294967296)) i ≡ bit_at a i
  pub less : bit_and a (4294967295 - 1 * 2 ^ place % 4294967296) < a
  pub below : (k : ℕ) → a < 2 ^ k → place < k
  pub small : place < 32

-- a word without one of its bits is less
pub bit-less : (a place w : ℕ) → bit_at a place ≡ 1 → bit_at (bit_and a w) place ≡ 0 → bit_and a w < a
bit-less a place w set clear = by_size (ltb (bit_and a w) a) refl
  where
    by_size : (b : Bool) → ltb (bit_and a w) a ≡ b → bit_and a w < a
    by_size true is = ltb-true (bit_and a w) a is
    by_size false is =
        let e : bit_and a w ≡ a = omega (arith, ltb-false (bit_and a w) a is, and_le_l a w) in
        absurd (omega (arith, set, clear, ap (λ v. bit_at v place) e))

pub last-bit : (a : ℕ) → 0 < a → a < 2 ^ 32 → IsLast a (31 - count_leading_zeros 32 a)
last-bit a some word =
    let top = leading_top 32 a some word in
    let j = top.0 in
    let at : 31 - count_leading_zeros 32 a ≡ j = omega (arith, top.1) in
    let small : j < 32 = omega (arith, top.1) in
    let two : 2 ^ suc j ≡ 2 * 2 ^ j = pow-succ' 2 j in
    let one : a / 2 ^ j ≡ 1 =
    ap (λ v. v / 2 ^ j) (let e : a ≡ 1 * 2 ^ j + (a - 2 ^ j) = omega (arith, top.2) in e) ∙ div-mul-add 1 (2 ^ j) (a - 2 ^ j) (omega (arith, top.2, top.3, two)) in
    let set : bit_at a j ≡ 1 = ap (λ v. v % 2) one in
    let clear = bit_at_clear_same w32 a j small in
    rw at (record {
      set = set;
      none = λ i up. bit_at_above a (suc j) i top.3 (omega arith);
      clear = clear;
      same = λ i within other. bit_at_clear_other w32 a j small i within other;
      less = bit-less a j (4294967295 - 1 * 2 ^ j % 4294967296) set clear;
      below = λ k few. bit-below a k j few set;
      small = small;
    })

-- the first bit of a word that is set, and the word without it
pub record IsFirst (a place : ℕ) : Type 0 where
  pub set : bit_at a place ≡ 1
  pub clear : bit_at (bit_and a (4294967295 - 1 * 2 ^ place % 4294967296)) place ≡ 0
  pub same : (i : ℕ) → i < 32 → i ≢ place → bit_at (bit_and a (4294967295 - 1 * 2 ^ place % 4294967296)) i ≡ bit_at a i
  pub less : bit_and a (4294967295 - 1 * 2 ^ place % 4294967296) < a
  pub below : (k : ℕ) → a < 2 ^ k → place < k

pub first-bit : (a : ℕ) → 0 < a → a < 2 ^ 32 → IsFirst a (count_trailing_zeros 32 a)
first-bit a some word =
    let first = bit_at-trailing_zeros w32 a some word in
    let clear = bit_at_clear_same w32 a (count_trailing_zeros 32 a) first.0 in
    record {
      set = first.1;
      clear = clear;
      same = λ i within other. bit_at_clear_other w32 a (count_trailing_zeros 32 a) first.0 i within other;
      less = bit-less a (count_trailing_zeros 32 a) (4294967295 - 1 * 2 ^ count_trailing_zeros 32 a % 4294967296) first.1 clear;
      below = λ k few. bit-below a k (count_trailing_zeros 32 a) few first.1;
    }
