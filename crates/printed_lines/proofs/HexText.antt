-- Sixteen hexadecimal digits of a number, and which of them are written.
use Rattle.std.proofs.Common.{◌≡◌, ℕ, zero, suc, ◌+◌, ◌-◌, ◌*◌, ◌/◌, ◌%◌, ◌<◌, ◌≤◌, ◌^◌, Bool, true, false, cond, leb, eqb, List, [], ◌∷◌, ◌++◌, length, map, take, replicate, refl, sym, ap, ◌∙◌, bit_and, arith, inl, inr, append_assoc, length-append}
use Rattle.std.specs.Fmt.{digits, digit_glyph}
use Rattle.std.specs.Int.{byte_at, bytes_high_first}
use Rattle.std.specs.Simd.Lanes.{Each1, put_chunk, sel_l, top, zip2}
use Rattle.std.proofs.Math.Nat.{div-div-eq-div-mul}
use Rattle.std.proofs.lemmas.Bool.{agree_below_at, cases_lt, eqb-true}
use Rattle.std.proofs.lemmas.List.{length-map, length-take-le, map-append, take-append-le, take-map, take-take, take_all}
use Rattle.std.proofs.lemmas.Nat.{shl-shr, shl_whole, shr-shr}
use Rattle.std.proofs.lemmas.Simd.{map-map, splat_is_map, take_more_put_chunk, zip2_of_maps}
use Rattle.printed_lines.specs.Inside.HexDigits.{last_digits}
use Rattle.printed_lines.proofs.Hex.{hex-step, hex_small, length-hex-one, length-hex-step, pow-four}

-- ---- digits of bytes

abbrev double : ℕ → ℕ
double zero = zero
double (suc k) = suc (suc (double k))

-- the two digits of each byte
abbrev digit_pairs : List ℕ → List ℕ
digit_pairs [] = []
digit_pairs (byte ∷ bytes) = byte / 16 ∷ bit_and byte 15 ∷ digit_pairs bytes

digit_pairs-append : (xs ys : List ℕ) → digit_pairs (xs ++ ys) ≡ digit_pairs xs ++ digit_pairs ys
digit_pairs-append [] ys = refl
digit_pairs-append (x ∷ xs) ys = ap (λ zs. x / 16 ∷ bit_and x 15 ∷ zs) (digit_pairs-append xs ys)

-- a byte of a number is one of the number without its last byte
byte-after : (k n : ℕ) → byte_at (suc k) n ≡ byte_at k (n / 256)
byte-after zero n = omega arith
byte-after (suc k) n =
    let more : 256 ^ suc (suc k) ≡ 256 * 256 ^ suc k = omega arith in
    ap (λ d. n / d % 256) more ∙ ap (λ q. q % 256) (sym (div-div-eq-div-mul n 256 (256 ^ suc k)))

bytes-last : (k n : ℕ) → bytes_high_first (suc k) n ≡ bytes_high_first k (n / 256) ++ (n % 256 ∷ [])
bytes-last zero n = refl
bytes-last (suc k) n = rw (byte-after k n) (ap (λ bytes. byte_at k (n / 256) ∷ bytes) (bytes-last k n))

low_half : (byte : ℕ) → byte < 256 → bit_and byte 15 ≡ byte % 16
low_half byte small = eqb-true _ _ (agree_below_at (λ b. eqb (bit_and b 15) (b % 16)) (λ _. true) 256 byte refl small)

pub pairs-last : (k n : ℕ) → digit_pairs (bytes_high_first k n) ≡ last_digits (double k) n
pairs-last zero n = refl
pairs-last (suc k) n =
    let high : n % 256 / 16 ≡ n / 16 % 16 = omega arith in
    let low : bit_and (n % 256) 15 ≡ n % 16 = low_half (n % 256) (omega arith) ∙ omega arith in
    let rest : n / 256 ≡ n / 16 / 16 = omega arith in
    ap digit_pairs (bytes-last k n) ∙ digit_pairs-append (bytes_high_first k (n / 256)) (n % 256 ∷ [])
    ∙ rw (high, low) (ap (λ ds. ds ++ (n / 16 % 16 ∷ n % 16 ∷ [])) (pairs-last k (n / 256) ∙ ap (last_digits (double k)) rest))
    ∙ sym (append_assoc (last_digits (double k) (n / 16 / 16)) (n / 16 % 16 ∷ []) (n % 16 ∷ []))

each-append : (xs ys : List ℕ) → Each1 (λ d. d < 16) xs → Each1 (λ d. d < 16) ys → Each1 (λ d. d < 16) (xs ++ ys)
each-append [] ys first second = second
each-append (x ∷ xs) ys first second = (first.0, each-append xs ys first.1 second)

pub last_digits-small : (k n : ℕ) → Each1 (λ d. d < 16) (last_digits k n)
last_digits-small zero n = tt
last_digits-small (suc k) n = each-append (last_digits k (n / 16)) (n % 16 ∷ []) (last_digits-small k (n / 16)) (omega arith, tt)

length-last_digits : (k n : ℕ) → length (last_digits k n) ≡ k
length-last_digits zero n = refl
length-last_digits (suc k) n = omega (arith, length-append (last_digits k (n / 16)) (n % 16 ∷ []), length-last_digits k (n / 16))

-- ---- the bytes of digits

abbrev plus : ℕ → ℕ → ℕ
plus a b = (a + b) % 256

abbrev glyph_lane : ℕ → ℕ
glyph_lane x = plus (plus x 48) (cond (top 7 (cond (leb 10 x) 255 0)) 39 0)

each-agree : (f g : ℕ → ℕ) (v : List ℕ) → Each1 (λ x. x < 16) v → ((x : ℕ) → x < 16 → f x ≡ g x) → map f v ≡ map g v
each-agree f g [] small same = refl
each-agree f g (x ∷ v) small same = ap (λ y. y ∷ map f v) (same x small.0) ∙ ap (λ ys. g x ∷ ys) (each-agree f g v small.1 same)

lanes : (v : List ℕ) → v ≡ map (λ x. x) v
lanes [] = refl
lanes (x ∷ v) = ap (λ ys. x ∷ ys) (lanes v)

select_of_maps : (t : ℕ → Bool) (v : List ℕ) (n a b : ℕ) → length v ≡ n → sel_l (map t v) (replicate n a) (replicate n b) ≡ map (λ x. cond (t x) a b) v
select_of_maps t [] n a b long = refl
select_of_maps t (x ∷ v) n a b long = rw (sym long) (ap (λ ys. cond (t x) a b ∷ ys) (select_of_maps t v (length v) a b refl))

pub glyphs_are : (v : List ℕ) → length v ≡ 16 → Each1 (λ x. x < 16) v
    → zip2 plus (zip2 plus v (replicate 16 48)) (sel_l (map (top 7) (zip2 (λ a b. cond (leb a b) 255 0) (replicate 16 10) v)) (replicate 16 39) (replicate 16 0))
    ≡ map (digit_glyph false) v
glyphs_are v long small =
    let letters : map (top 7) (zip2 (λ a b. cond (leb a b) 255 0) (replicate 16 10) v) ≡ map (λ x. top 7 (cond (leb 10 x) 255 0)) v =
    ap (map (top 7)) (zip2_of_maps (λ a b. cond (leb a b) 255 0) (λ _. 10) (λ x. x) v (splat_is_map v 16 10 long) (lanes v)) ∙ map-map (top 7) (λ x. cond (leb 10 x) 255 0) v in
    zip2_of_maps plus _ _ v
    (zip2_of_maps plus (λ x. x) (λ _. 48) v (lanes v) (splat_is_map v 16 48 long))
    (ap (λ t. sel_l t (replicate 16 39) (replicate 16 0)) letters ∙ select_of_maps (λ x. top 7 (cond (leb 10 x) 255 0)) v 16 39 0 long)
    ∙ each-agree glyph_lane (digit_glyph false) v small (λ x below. eqb-true _ _ (agree_below_at (λ d. eqb (glyph_lane d) (digit_glyph false d)) (λ _. true) 16 x refl below))

-- ---- a number's digits among the sixteen

length_less : (n k : ℕ) → 16 ≤ n → n < 2 ^ 64 → length (digits 16 false n) ≡ suc k → length (digits 16 false (n / 16)) ≡ k
length_less n k large fits long = omega (arith, length-hex-step n large fits, long)

glyphs-of : (k n : ℕ) → n < 2 ^ 64 → length (digits 16 false n) ≡ k → digits 16 false n ≡ map (digit_glyph false) (last_digits k n)
glyphs-of zero n fits long = elim (cases_lt n 16) [
  | inl small ↦ absurd (omega (arith, long, length-hex-one n small))
  | inr large ↦ absurd (omega (arith, long, length-hex-step n large fits))
]
glyphs-of (suc k) n fits long = elim (cases_lt n 16) [
  | inl small ↦
      let none : k ≡ 0 = omega (arith, long, length-hex-one n small) in
      let same : n % 16 ≡ n = omega (arith, small) in
      hex_small n small ∙ rw (none, same) refl
  | inr large ↦
      hex-step n large fits
      ∙ ap (λ ds. ds ++ (digit_glyph false (n % 16) ∷ [])) (glyphs-of k (n / 16) (omega (arith, fits)) (length_less n k large fits long))
      ∙ sym (map-append (digit_glyph false) (last_digits k (n / 16)) (n % 16 ∷ []))
]

below-digits : (k n : ℕ) → n < 2 ^ 64 → length (digits 16 false n) ≡ k → n < 16 ^ k
below-digits zero n fits long = elim (cases_lt n 16) [
  | inl small ↦ absurd (omega (arith, long, length-hex-one n small))
  | inr large ↦ absurd (omega (arith, long, length-hex-step n large fits))
]
below-digits (suc k) n fits long = elim (cases_lt n 16) [
  | inl small ↦
      let none : k ≡ 0 = omega (arith, long, length-hex-one n small) in
      rw none small
  | inr large ↦
      let less = below-digits k (n / 16) (omega (arith, fits)) (length_less n k large fits long) in
      omega (arith, less)
]

moved : (a b n : ℕ) → take a (last_digits (b + a) n) ≡ last_digits a (n / 2 ^ (4 * b))
moved a zero n =
    let same : n / 2 ^ (4 * 0) ≡ n = omega arith in
    let none : 0 + a ≡ a = omega arith in
    rw (same, none) (take_all a (last_digits a n) (omega (arith, length-last_digits a n)))
moved a (suc b) n =
    let more : suc b + a ≡ suc (b + a) = omega arith in
    let power : 4 + 4 * b ≡ 4 * suc b = omega arith in
    ap (λ k. take a (last_digits k n)) more
    ∙ take-append-le a (last_digits (b + a) (n / 16)) (n % 16 ∷ []) (omega (arith, length-last_digits (b + a) (n / 16)))
    ∙ moved a b (n / 16)
    ∙ ap (last_digits a) (shr-shr n 4 (4 * b) ∙ ap (λ e. n / 2 ^ e) power)

pub hex_taken : (n places : ℕ) → n < 2 ^ 64 → places ≡ length (digits 16 false n) → places ≤ 16
    → take places (map (digit_glyph false) (last_digits 16 (n * 2 ^ (64 - 4 * places) % 2 ^ 64))) ≡ digits 16 false n
hex_taken n places fits is most =
    let b : ℕ = 16 - places in
    let all : 16 ≡ b + places = omega (arith, most) in
    let shift : 64 - 4 * places ≡ 4 * b = omega (arith, most) in
    let small : n < 2 ^ (4 * places) = rw (pow-four places) (below-digits places n fits (sym is)) in
    let whole : n * 2 ^ (64 - 4 * places) % 2 ^ 64 ≡ n * 2 ^ (4 * b) =
    shl_whole n (4 * places) (64 - 4 * places) 64 small (omega (arith, most)) ∙ ap (λ e. n * 2 ^ e) shift in
    take-map (digit_glyph false) places (last_digits 16 (n * 2 ^ (64 - 4 * places) % 2 ^ 64))
    ∙ ap (λ m. map (digit_glyph false) (take places (last_digits 16 m))) whole
    ∙ ap (λ k. map (digit_glyph false) (take places (last_digits k (n * 2 ^ (4 * b))))) all
    ∙ ap (map (digit_glyph false)) (moved places b (n * 2 ^ (4 * b)) ∙ ap (last_digits places) (shl-shr n (4 * b)))
    ∙ sym (glyphs-of places n fits (sym is))

take-more : (xs ys : List ℕ) (n k : ℕ) → length xs ≡ n → take (n + k) (xs ++ ys) ≡ xs ++ take k ys
take-more [] ys n k long =
    let same : n + k ≡ k = omega (arith, long) in
    ap (λ m. take m ys) same
take-more (x ∷ xs) ys n k long =
    let same : n + k ≡ suc (length xs + k) = omega (arith, long) in
    ap (λ m. take m (x ∷ (xs ++ ys))) same ∙ ap (λ zs. x ∷ zs) (take-more xs ys (length xs) k refl)

-- the digits, of which sixteen bytes are written
pub hex_written : (bytes text front : List ℕ) (start places n : ℕ) → text ≡ map (digit_glyph false) (last_digits 16 n) → start + 16 ≤ length bytes → places ≤ 16
    → take places (map (digit_glyph false) (last_digits 16 n)) ≡ front
    → take (start + places) (put_chunk start bytes text) ≡ take start bytes ++ front
hex_written bytes text front start places n of_digits room most is =
    let long : length text ≡ 16 = ap length of_digits ∙ length-map (last_digits 16 n) (digit_glyph false) ∙ length-last_digits 16 n in
    sym (take-take (start + places) (start + 16) (put_chunk start bytes text) (omega (arith, most)))
    ∙ ap (take (start + places)) (take_more_put_chunk start bytes text (start + 16) (omega (arith, long)) room)
    ∙ take-more (take start bytes) text start places (length-take-le start bytes (omega (arith, room)))
    ∙ ap (λ ys. take start bytes ++ ys) (ap (take places) of_digits ∙ is)
