-- Sixteen bytes as hexadecimal digits.
use Rattle.std.proofs.Common.{◌≡◌, ℕ, zero, suc, ◌+◌, ◌-◌, ◌*◌, ◌/◌, ◌%◌, ◌<◌, ◌≤◌, ◌^◌, Bool, true, false, cond, not, ltb, leb, eqb, ◌&&◌, ◌||◌, List, [], ◌∷◌, ◌++◌, length, get_or, map, take, drop, replicate, Some, None, refl, sym, ap, ◌∙◌, bit_and, Fits, arith, w8}
use Rattle.std.specs.Char.{digit_value, is_digit}
use Rattle.std.specs.Int.{from_be_bytes, w64}
use Rattle.std.specs.List.{prefix_len}
use Rattle.std.specs.Simd.Lanes.{Each1, mask_l, pick_l, sel_l, top, zip2}
use lib.Pow.{pow_mono}
use Rattle.std.proofs.lemmas.Bool.{agree_below_at, and_parts, eqb-true, lt-ltb, ltb-true, not-true}
use Rattle.std.proofs.lemmas.List.{get_or-take, length-map, length-take, take-append-drop, take-map, take-take}
use Rattle.std.proofs.lemmas.List.Sums.{prefix_len-le-length, prefix_len_passes}
use Rattle.std.proofs.lemmas.Nat.{pow-add, shr-shr}
use Rattle.std.proofs.lemmas.Simd.{Each1-get_or, Each1-weaker, map-map, mask_l-mod, splat_is_map, zip2_of_maps}
use Rattle.line_words.specs.Values.{digit_after}
use Rattle.line_words.specs.Inside.Scanning.{and_digits, digits_after}
use Rattle.guest_script.specs.Inside.HexDigits.{is_other, nibble, number_after}

-- ---- bytes

is_read_as : (byte : ℕ) → byte < 256 → is_other byte ≡ false → (is_digit byte 16 && eqb (digit_value byte) (nibble byte)) ≡ true
is_read_as byte small digit =
    sym (ap (λ b. b || (is_digit byte 16 && eqb (digit_value byte) (nibble byte))) digit)
    ∙ agree_below_at (λ b. is_other b || (is_digit b 16 && eqb (digit_value b) (nibble b))) (λ _. true) 256 byte refl small

pub nibble_small : (byte : ℕ) → byte < 256 → nibble byte < 16
nibble_small byte small = ltb-true _ _ (agree_below_at (λ b. ltb (nibble b) 16) (λ _. true) 256 byte refl small)

module _ (v : List ℕ) (long : length v ≡ 16) where
  -- a list of so many equal values, as lane by lane from v
  splat : {A : Type 0} (y : A) → replicate 16 y ≡ map (λ _. y) v
  splat y = splat_is_map v 16 y long

each-agree : {A : Type 0} (f g : ℕ → A) (v : List ℕ) → Each1 (λ x. x < 256) v → ((x : ℕ) → x < 256 → f x ≡ g x) → map f v ≡ map g v
each-agree f g [] bytes same = refl
each-agree f g (x ∷ v) bytes same = ap (λ y. y ∷ map f v) (same x bytes.0) ∙ ap (λ ys. g x ∷ ys) (each-agree f g v bytes.1 same)

pub bytes_of : (v : List ℕ) → Each1 (Fits w8) v → Each1 (λ x. x < 256) v
bytes_of v fits = Each1-weaker (Fits w8) (λ x. x < 256) (λ x small. small.fits) v fits

lanes : (v : List ℕ) → v ≡ map (λ x. x) v
lanes [] = refl
lanes (x ∷ v) = ap (λ ys. x ∷ ys) (lanes v)

-- a lane is a byte less another, which wraps
abbrev less : ℕ → ℕ → ℕ
less a b = (a + (256 - b)) % 256

-- a sum and a product wrap too
abbrev plus : ℕ → ℕ → ℕ
plus a b = (a + b) % 256

abbrev times : ℕ → ℕ → ℕ
times a b = a * b % 256

abbrev nibble_lane : ℕ → ℕ
nibble_lane x = bit_and (plus (bit_and x 15) (cond (top 7 (cond (leb 97 x) 255 0)) 9 0)) 15

abbrev other_lane : ℕ → ℕ
other_lane x = bit_and (cond (leb 10 (less x 48)) 255 0) (cond (leb 6 (less x 97)) 255 0)

pub others_are : (v : List ℕ) → length v ≡ 16 → Each1 (λ x. x < 256) v
    → mask_l (map (top 7) (zip2 bit_and (zip2 (λ a b. cond (leb a b) 255 0) (replicate 16 10) (zip2 less v (replicate 16 48))) (zip2 (λ a b. cond (leb a b) 255 0) (replicate 16 6) (zip2 less v (replicate 16 97))))) % 2 ^ 64
    ≡ mask_l (map is_other v)
others_are v long bytes =
    ap (λ z. mask_l (map (top 7) z) % 2 ^ 64)
    (zip2_of_maps bit_and _ _ v
    (zip2_of_maps (λ a b. cond (leb a b) 255 0) (λ _. 10) (λ x. less x 48) v (splat v long 10) (zip2_of_maps less (λ x. x) (λ _. 48) v (lanes v) (splat v long 48)))
    (zip2_of_maps (λ a b. cond (leb a b) 255 0) (λ _. 6) (λ x. less x 97) v (splat v long 6) (zip2_of_maps less (λ x. x) (λ _. 97) v (lanes v) (splat v long 97))))
    ∙ ap (λ l. mask_l l % 2 ^ 64) (map-map (top 7) other_lane v ∙ each-agree (λ x. top 7 (other_lane x)) is_other v bytes (λ x small. agree_below_at (λ b. top 7 (other_lane b)) is_other 256 x refl small))
    ∙ mask_l-mod (map is_other v) 64 (omega (arith, length-map v is_other, long))

select_of_maps : (t : ℕ → Bool) (v : List ℕ) (n a b : ℕ) → length v ≡ n → sel_l (map t v) (replicate n a) (replicate n b) ≡ map (λ x. cond (t x) a b) v
select_of_maps t [] n a b long = refl
select_of_maps t (x ∷ v) n a b long = rw (sym long) (ap (λ ys. cond (t x) a b ∷ ys) (select_of_maps t v (length v) a b refl))

pub nibbles_are : (v : List ℕ) → length v ≡ 16 → Each1 (λ x. x < 256) v
    → zip2 bit_and (zip2 plus (zip2 bit_and v (replicate 16 15)) (sel_l (map (top 7) (zip2 (λ a b. cond (leb a b) 255 0) (replicate 16 97) v)) (replicate 16 9) (replicate 16 0))) (replicate 16 15)
    ≡ map nibble v
nibbles_are v long bytes =
    let letters : map (top 7) (zip2 (λ a b. cond (leb a b) 255 0) (replicate 16 97) v) ≡ map (λ x. top 7 (cond (leb 97 x) 255 0)) v =
    ap (map (top 7)) (zip2_of_maps (λ a b. cond (leb a b) 255 0) (λ _. 97) (λ x. x) v (splat v long 97) (lanes v)) ∙ map-map (top 7) (λ x. cond (leb 97 x) 255 0) v in
    zip2_of_maps bit_and _ _ v
    (zip2_of_maps plus _ _ v
    (zip2_of_maps bit_and (λ x. x) (λ _. 15) v (lanes v) (splat v long 15))
    (ap (λ t. sel_l t (replicate 16 9) (replicate 16 0)) letters ∙ select_of_maps (λ x. top 7 (cond (leb 97 x) 255 0)) v 16 9 0 long))
    (splat v long 15)
    ∙ each-agree nibble_lane nibble v bytes (λ x small. eqb-true _ _ (agree_below_at (λ b. eqb (nibble_lane b) (nibble b)) (λ _. true) 256 x refl small))

pub nibbles_small : (v : List ℕ) → Each1 (λ x. x < 256) v → Each1 (λ x. x < 16) (map nibble v)
nibbles_small [] bytes = bytes
nibbles_small (x ∷ v) bytes = (nibble_small x bytes.0, nibbles_small v bytes.1)

-- ---- numbers

-- two digits in a byte
pair : (a b : ℕ) → a < 16 → b < 16 → plus (times a 16) b ≡ a * 16 + b
pair a b sa sb = omega (arith, sa, sb)

pub number_is : (xs : List ℕ) → length xs ≡ 16 → Each1 (λ x. x < 16) xs
    → from_be_bytes w64 (zip2 plus (zip2 times (pick_l 0 (xs ++ xs) (0 ∷ 2 ∷ 4 ∷ 6 ∷ 8 ∷ 10 ∷ 12 ∷ 14 ∷ [])) (replicate 8 16)) (pick_l 0 (xs ++ xs) (1 ∷ 3 ∷ 5 ∷ 7 ∷ 9 ∷ 11 ∷ 13 ∷ 15 ∷ [])))
    ≡ number_after 0 xs
number_is [] long small = absurd (omega arith)
number_is (a ∷ []) long small = absurd (omega arith)
number_is (a ∷ b ∷ []) long small = absurd (omega arith)
number_is (a ∷ b ∷ c ∷ []) long small = absurd (omega arith)
number_is (a ∷ b ∷ c ∷ d ∷ []) long small = absurd (omega arith)
number_is (a ∷ b ∷ c ∷ d ∷ e ∷ []) long small = absurd (omega arith)
number_is (a ∷ b ∷ c ∷ d ∷ e ∷ f ∷ []) long small = absurd (omega arith)
number_is (a ∷ b ∷ c ∷ d ∷ e ∷ f ∷ g ∷ []) long small = absurd (omega arith)
number_is (a ∷ b ∷ c ∷ d ∷ e ∷ f ∷ g ∷ h ∷ []) long small = absurd (omega arith)
number_is (a ∷ b ∷ c ∷ d ∷ e ∷ f ∷ g ∷ h ∷ i ∷ []) long small = absurd (omega arith)
number_is (a ∷ b ∷ c ∷ d ∷ e ∷ f ∷ g ∷ h ∷ i ∷ j ∷ []) long small = absurd (omega arith)
number_is (a ∷ b ∷ c ∷ d ∷ e ∷ f ∷ g ∷ h ∷ i ∷ j ∷ k ∷ []) long small = absurd (omega arith)
number_is (a ∷ b ∷ c ∷ d ∷ e ∷ f ∷ g ∷ h ∷ i ∷ j ∷ k ∷ l ∷ []) long small = absurd (omega arith)
number_is (a ∷ b ∷ c ∷ d ∷ e ∷ f ∷ g ∷ h ∷ i ∷ j ∷ k ∷ l ∷ m ∷ []) long small = absurd (omega arith)
number_is (a ∷ b ∷ c ∷ d ∷ e ∷ f ∷ g ∷ h ∷ i ∷ j ∷ k ∷ l ∷ m ∷ n ∷ []) long small = absurd (omega arith)
number_is (a ∷ b ∷ c ∷ d ∷ e ∷ f ∷ g ∷ h ∷ i ∷ j ∷ k ∷ l ∷ m ∷ n ∷ o ∷ []) long small = absurd (omega arith)
number_is (a ∷ b ∷ c ∷ d ∷ e ∷ f ∷ g ∷ h ∷ i ∷ j ∷ k ∷ l ∷ m ∷ n ∷ o ∷ p ∷ []) long (sa, (sb, (sc, (sd, (se, (sf, (sg, (sh, (si, (sj, (sk, (sl, (sm, (sn, (so, (sp, _)))))))))))))))) =
    (λ t. from_be_bytes w64 (pair a b sa sb t ∷ pair c d sc sd t ∷ pair e f se sf t ∷ pair g h sg sh t ∷ pair i j si sj t ∷ pair k l sk sl t ∷ pair m n sm sn t ∷ pair o p so sp t ∷ []))
    ∙ omega arith
number_is (a ∷ b ∷ c ∷ d ∷ e ∷ f ∷ g ∷ h ∷ i ∷ j ∷ k ∷ l ∷ m ∷ n ∷ o ∷ p ∷ q ∷ more) long small = absurd (omega arith)

-- so many digits more, and they are taken away again
number_cut : (n : ℕ) (digits : List ℕ) → Each1 (λ x. x < 16) digits → number_after n digits / 2 ^ (4 * length digits) ≡ n
number_cut n [] small = omega arith
number_cut n (x ∷ digits) small =
    let more : 4 * length (x ∷ digits) ≡ 4 * length digits + 4 = omega arith in
    let below = small.0 in
    ap (λ k. number_after (n * 16 + x) digits / 2 ^ k) more
    ∙ sym (shr-shr (number_after (n * 16 + x) digits) (4 * length digits) 4)
    ∙ ap (λ m. m / 2 ^ 4) (number_cut (n * 16 + x) digits small.1)
    ∙ omega (arith, below)

number-append : (n : ℕ) (xs ys : List ℕ) → number_after n (xs ++ ys) ≡ number_after (number_after n xs) ys
number-append n [] ys = refl
number-append n (x ∷ xs) ys = number-append (n * 16 + x) xs ys

each-drop : (i : ℕ) (xs : List ℕ) → Each1 (λ x. x < 16) xs → Each1 (λ x. x < 16) (drop i xs)
each-drop zero xs all = all
each-drop (suc i) [] all = all
each-drop (suc i) (x ∷ xs) all = each-drop i xs all.1

length-dropped : (i : ℕ) (xs : List ℕ) → length (drop i xs) ≡ length xs - i
length-dropped zero xs = omega arith
length-dropped (suc i) [] = omega arith
length-dropped (suc i) (x ∷ xs) = length-dropped i xs ∙ omega arith

first_digits : (xs : List ℕ) (i : ℕ) → Each1 (λ x. x < 16) xs → length xs ≡ 16 → i ≤ 16 → number_after 0 xs / 2 ^ (64 - 4 * i) ≡ number_after 0 (take i xs)
first_digits xs i small long within =
    let rest : 64 - 4 * i ≡ 4 * length (drop i xs) = omega (arith, length-dropped i xs) in
    ap (λ ys. number_after 0 ys / 2 ^ (64 - 4 * i)) (sym (take-append-drop i xs))
    ∙ ap (λ m. m / 2 ^ (64 - 4 * i)) (number-append 0 (take i xs) (drop i xs))
    ∙ ap (λ k. number_after (number_after 0 (take i xs)) (drop i xs) / 2 ^ k) rest
    ∙ number_cut (number_after 0 (take i xs)) (drop i xs) (each-drop i xs small)

-- ---- digits

read_one : (is fits : Bool) (value wanted : ℕ) → is ≡ true → fits ≡ true → value ≡ wanted → cond (is && fits) (Some value) None ≡ Some wanted
read_one is fits value wanted digit room same = rw (digit, room) (ap Some same)

read_more : (m byte k : ℕ) → m < 2 ^ (4 * k) → k < 16 → byte < 256 → is_other byte ≡ false → (digit_after 16 m byte ≡ Some (m * 16 + nibble byte)) × (m * 16 + nibble byte < 2 ^ (4 * suc k))
unfolding digit_after
read_more m byte k small room fits digit =
    let tested = and_parts (is_digit byte 16) (eqb (digit_value byte) (nibble byte)) (is_read_as byte fits digit) in
    let same : digit_value byte ≡ nibble byte = eqb-true (digit_value byte) (nibble byte) tested.1 in
    let more : 4 * suc k ≡ 4 * k + 4 = omega arith in
    let power : 2 ^ (4 * suc k) ≡ 2 ^ (4 * k) * 16 = ap (λ e. 2 ^ e) more ∙ pow-add 2 (4 * k) 4 in
    let within : 4 * suc k ≤ 64 = omega (arith, room) in
    let most : 2 ^ (4 * suc k) ≤ 2 ^ 64 = pow_mono within in
    let below = nibble_small byte fits in
    let next : m * 16 + nibble byte < 2 ^ (4 * suc k) = omega (arith, power, below, small) in
    (read_one (is_digit byte 16) (ltb (m * 16 + digit_value byte) (2 ^ 64)) _ _ tested.0 (lt-ltb _ _ (omega (arith, next, most, same))) (ap (λ d. m * 16 + d) same), next)

digits_read : (m k : ℕ) (bytes : List ℕ) → m < 2 ^ (4 * k) → k + length bytes ≤ 16 → ((i : ℕ) → i < length bytes → (get_or bytes i 0 < 256) × (is_other (get_or bytes i 0) ≡ false))
    → digits_after 16 m bytes ≡ Some (number_after m (map nibble bytes))
digits_read m k [] small room digits = refl
digits_read m k (byte ∷ bytes) small room digits =
    let first = digits 0 (omega arith) in
    let more = read_more m byte k small (omega arith) first.0 first.1 in
    ap (and_digits (λ n. digits_after 16 n bytes)) more.0
    ∙ digits_read (m * 16 + nibble byte) (suc k) bytes more.1 (omega arith) (λ i below. digits (suc i) (omega arith))

-- the digits before the first other byte, and their number
pub run_read : (v : List ℕ) (n : ℕ) → length v ≡ 16 → n ≡ prefix_len (λ x. not (is_other x)) v → Each1 (λ x. x < 256) v → Each1 (λ x. x < 16) (map nibble v)
    → digits_after 16 0 (take n v) ≡ Some (number_after 0 (map nibble v) / 2 ^ (64 - 4 * n))
run_read v n long counted bytes small =
    let within : n ≤ 16 = omega (arith, counted, prefix_len-le-length (λ x. not (is_other x)) v, long) in
    let length_read : length (take n v) ≡ n = omega (arith, length-take n v, long, within) in
    digits_read 0 0 (take n v) (omega arith) (omega (arith, length_read, within))
    (λ i below.
    let same = get_or-take n v i 0 (omega (arith, below, length_read)) in
    let here : get_or v i 0 < 256 = Each1-get_or (λ x. x < 256) v i 0 (omega (arith, below, length_read, within, long)) bytes in
    let digit : is_other (get_or v i 0) ≡ false = not-true _ (prefix_len_passes (λ x. not (is_other x)) v i 0 (omega (arith, below, length_read, counted))) in
    (rw same here, rw same digit))
    ∙ ap (λ xs. Some (number_after 0 xs)) (sym (take-map nibble n v))
    ∙ ap Some (sym (first_digits (map nibble v) n small (length-map v nibble ∙ long) within))

-- the same of sixteen bytes that others follow
pub hex_read : (bytes v : List ℕ) (n : ℕ) → v ≡ take 16 bytes → length v ≡ 16 → n ≡ prefix_len (λ x. not (is_other x)) v → Each1 (λ x. x < 256) v → Each1 (λ x. x < 16) (map nibble v)
    → digits_after 16 0 (take n bytes) ≡ Some (number_after 0 (map nibble v) / 2 ^ (64 - 4 * n))
hex_read bytes v n is long counted values small =
    let within : n ≤ 16 = omega (arith, counted, prefix_len-le-length (λ x. not (is_other x)) v, long) in
    ap (digits_after 16 0) (sym (take-take n 16 bytes within) ∙ ap (take n) (sym is)) ∙ run_read v n long counted values small
