-- One to three bytes as decimal digits.
use Rattle.std.proofs.Common.{◌≡◌, ℕ, ◌+◌, ◌*◌, ◌%◌, ◌<◌, ◌≤◌, ◌^◌, Bool, true, false, cond, eqb, ltb, ◌&&◌, ◌||◌, List, [], ◌∷◌, drop, get_or, leb, length, Option, Some, None, refl, sym, ap, ◌∙◌, arith}
use Rattle.std.specs.Char.{digit_value, is_digit}
use Rattle.std.specs.Int.{from_bool}
use Rattle.std.proofs.lemmas.Bool.{agree_below_at, and_parts, eqb-true, le-ltb, leb-true, lt-ltb}
use Rattle.line_words.specs.Values.{digit_after}
use Rattle.guest_script.specs.Inside.PlainLines.{BeginsDigits}
use Rattle.guest_script.proofs.PlainParts.{one_digit_begins, three_digits_begin, two_digits_begin}

-- the value of a byte as a decimal digit, if it is one
abbrev pub value_of : ℕ → ℕ
value_of byte = (byte + 208) % 256

is_decimal : (byte : ℕ) → byte < 256 → value_of byte ≤ 9 → (is_digit byte 10 && eqb (digit_value byte) (value_of byte)) ≡ true
is_decimal byte small low =
    sym (ap (λ b. b || (is_digit byte 10 && eqb (digit_value byte) (value_of byte))) (le-ltb 9 (value_of byte) low))
    ∙ agree_below_at (λ b. ltb 9 (value_of b) || (is_digit b 10 && eqb (digit_value b) (value_of b))) (λ _. true) 256 byte refl small

read_one : (is fits : Bool) (value wanted : ℕ) → is ≡ true → fits ≡ true → value ≡ wanted → cond (is && fits) (Some value) None ≡ Some wanted
read_one is fits value wanted digit room same = rw (digit, room) (ap Some same)

pub decimal_after : (n byte : ℕ) → byte < 256 → value_of byte ≤ 9 → n < 2 ^ 32 → digit_after 10 n byte ≡ Some (n * 10 + value_of byte)
unfolding digit_after
decimal_after n byte small low few =
    let tested = and_parts (is_digit byte 10) (eqb (digit_value byte) (value_of byte)) (is_decimal byte small low) in
    let same : digit_value byte ≡ value_of byte = eqb-true (digit_value byte) (value_of byte) tested.1 in
    let fits : n * 10 + digit_value byte < 2 ^ 64 = omega (arith, same, low, few) in
    read_one (is_digit byte 10) (ltb (n * 10 + digit_value byte) (2 ^ 64)) _ _ tested.0 (lt-ltb _ _ fits) (ap (λ d. n * 10 + d) same)

first_after : (byte : ℕ) → byte < 256 → value_of byte ≤ 9 → digit_after 10 0 byte ≡ Some (value_of byte)
first_after byte small low =
    let same : 0 * 10 + value_of byte ≡ value_of byte = omega arith in
    decimal_after 0 byte small low (omega arith) ∙ ap (λ m. Some m) same

-- the number of the digits that are there
abbrev pub hart_of : (a b c : ℕ) → (two three : Bool) → ℕ
hart_of a b c two three = cond three (cond two (value_of a * 10 + value_of b) (value_of a) * 10 + value_of c) (cond two (value_of a * 10 + value_of b) (value_of a))

pub hart_begins : (bytes : List ℕ) (a b c : ℕ) (rest : List ℕ) (two three : Bool) → bytes ≡ a ∷ b ∷ c ∷ rest → a < 256 → b < 256 → c < 256 → value_of a ≤ 9
    → (two ≡ true → value_of b ≤ 9) → (three ≡ true → (two ≡ true) × (value_of c ≤ 9))
    → BeginsDigits 10 bytes (hart_of a b c two three) (drop (1 + from_bool two + from_bool three) bytes)
hart_begins bytes a b c rest false false is sa sb sc one seconds thirds =
    rw is (one_digit_begins (a ∷ b ∷ c ∷ rest) (b ∷ c ∷ rest) a (value_of a) refl (first_after a sa one))
hart_begins bytes a b c rest true false is sa sb sc one seconds thirds =
    rw is (two_digits_begin (a ∷ b ∷ c ∷ rest) (b ∷ c ∷ rest) (c ∷ rest) a b (value_of a) (value_of a * 10 + value_of b) refl (first_after a sa one) refl
    (decimal_after (value_of a) b sb (seconds refl) (omega (arith, one))))
hart_begins bytes a b c rest true true is sa sb sc one seconds thirds =
    let last = thirds refl in
    rw is (three_digits_begin (a ∷ b ∷ c ∷ rest) (b ∷ c ∷ rest) (c ∷ rest) rest a b c (value_of a) (value_of a * 10 + value_of b) ((value_of a * 10 + value_of b) * 10 + value_of c)
    refl (first_after a sa one) refl (decimal_after (value_of a) b sb (seconds refl) (omega (arith, one))) refl
    (decimal_after (value_of a * 10 + value_of b) c sc last.1 (omega (arith, one, seconds refl))))
hart_begins bytes a b c rest false true is sa sb sc one seconds thirds = let none = (thirds refl).0 in cc

pub one_at_most : (k : ℕ) (b : Bool) → k ≡ from_bool b → k ≤ 1
one_at_most k true is = omega (arith, is)
one_at_most k false is = omega (arith, is)

-- the first three bytes, read
pub hart_read : (bytes : List ℕ) (one two three n m k l : ℕ) → 3 ≤ length bytes → ((i : ℕ) → get_or bytes i 0 < 256)
    → one ≡ value_of (get_or bytes 0 0) → two ≡ value_of (get_or bytes 1 0) → three ≡ value_of (get_or bytes 2 0) → one ≤ 9
    → n ≡ cond (leb two 9) (one * 10 + two) one → m ≡ cond (leb two 9 && leb three 9) (n * 10 + three) n
    → k ≡ from_bool (leb two 9) → l ≡ from_bool (leb two 9 && leb three 9) → BeginsDigits 10 bytes m (drop (1 + k + l) bytes)
hart_read [] one two three n m k l long bytes first second third low is_n is_m is_k is_l = absurd (omega (arith, long))
hart_read (a ∷ []) one two three n m k l long bytes first second third low is_n is_m is_k is_l = absurd (omega (arith, long))
hart_read (a ∷ b ∷ []) one two three n m k l long bytes first second third low is_n is_m is_k is_l = absurd (omega (arith, long))
hart_read (a ∷ b ∷ c ∷ rest) one two three n m k l long bytes first second third low is_n is_m is_k is_l =
    let begins = hart_begins (a ∷ b ∷ c ∷ rest) a b c rest (leb (value_of b) 9) (leb (value_of b) 9 && leb (value_of c) 9) refl (bytes 0) (bytes 1) (bytes 2) (rw (← first) low)
    (λ is. leb-true (value_of b) 9 is)
    (λ is. let both = and_parts (leb (value_of b) 9) (leb (value_of c) 9) is in (both.0, leb-true (value_of c) 9 both.1)) in
    rw (is_m, is_n, is_k, is_l, first, second, third) begins
