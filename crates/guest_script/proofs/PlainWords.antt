-- Words of letters, digits and marks alone, and the lines that they make.
use Rattle.std.proofs.Common.{◌≡◌, ◌≢◌, ℕ, ◌-◌, ◌<◌, ◌≤◌, Bool, true, false, eqb, List, [], ◌∷◌, ◌++◌, length, Option, Some, None, refl, sym, ap, ◌∙◌, inl, inr, arith}
use Rattle.std.specs.Prelude.{IsTrue, IsFalse}
use Rattle.std.specs.Char.{digit_value}
use Rattle.std.specs.List.{AllByRecursion, join_with_byte}
use Rattle.std.specs.Str.Lines.{lines, strip_carriage_return}
use Rattle.std.specs.Str.Parse.{AllDigits}
use Rattle.std.proofs.lemmas.Bool.{cases_lt, lt-ltb, le-ltb, le-leb, eqb-true, ne_eqb, false_from_ne_true}
use Rattle.std.proofs.lemmas.List.{append_assoc, append-nil}
use Rattle.std.proofs.lemmas.List.Elements.{All-from_recursion, All-get_or}
use Rattle.guest_script.specs.Words.{AreNumbers, is_allowed, is_blank, is_hash, IsLine, IsWord, Spaces, Spells}
use Rattle.guest_script.specs.Forms.{AreArguments}
use Rattle.line_words.proofs.LinesOf.{lines_fed}
use Rattle.line_words.proofs.Spacing.{Spaces-blank}

-- ---- words of letters and digits alone

-- a letter, a digit or a mark, and no `#`
pub record IsPlainByte (b : ℕ) : Type 0 where
  pub allowed : is_allowed b ≡ true
  pub solid : is_blank b ≡ false
  pub no_hash : is_hash b ≡ false

abbrev pub IsPlain : List ℕ → Type 0
IsPlain word = (word ≢ []) × AllByRecursion IsPlainByte word

pub append_all : {A : Type 0} (P : A → Type 0) (xs ys : List A) → AllByRecursion P xs → AllByRecursion P ys → AllByRecursion P (xs ++ ys)
append_all P [] ys all later = later
append_all P (x ∷ xs) ys all later = (all.0, append_all P xs ys all.1 later)

pub weaker_all : (P Q : ℕ → Type 0) → ((b : ℕ) → P b → Q b) → (xs : List ℕ) → AllByRecursion P xs → AllByRecursion Q xs
weaker_all P Q weaker [] all = tt
weaker_all P Q weaker (x ∷ xs) all = (weaker x all.0, weaker_all P Q weaker xs all.1)

-- what holds of a blank and of each plain byte holds of each byte of a line of plain words
pub joined_all : (P : ℕ → Type 0) → P 32 → ((b : ℕ) → IsPlainByte b → P b) → (words : List (List ℕ)) → AllByRecursion IsPlain words → AllByRecursion P (join_with_byte 32 words)
joined_all P blank weaker [] plain = tt
joined_all P blank weaker (word ∷ []) plain = weaker_all IsPlainByte P weaker word plain.0.1
joined_all P blank weaker (word ∷ next ∷ words) plain =
    append_all P word (32 ∷ join_with_byte 32 (next ∷ words)) (weaker_all IsPlainByte P weaker word plain.0.1)
    (blank, joined_all P blank weaker (next ∷ words) plain.1)

pub plain_word : (word : List ℕ) → IsPlain word → IsWord word
plain_word word plain = (plain.0, weaker_all IsPlainByte (λ b. IsFalse (is_blank b)) (λ b p. p.solid) word plain.1)

joined_spaces : (words : List (List ℕ)) → AllByRecursion IsPlain words → Spaces (join_with_byte 32 words) words
joined_spaces [] plain = tt
joined_spaces (word ∷ []) plain = ([], [], tt, plain_word word plain.0, sym (append-nil word), tt, tt)
joined_spaces (word ∷ next ∷ words) plain =
    ([], 32 ∷ join_with_byte 32 (next ∷ words), tt, plain_word word plain.0, refl, refl, Spaces-blank 32 (join_with_byte 32 (next ∷ words)) (next ∷ words) refl (joined_spaces (next ∷ words) plain.1))

pub joined_line : (words : List (List ℕ)) → AllByRecursion IsPlain words → IsLine (join_with_byte 32 words) words
joined_line words plain = record {
  body = join_with_byte 32 words;
  comment = [];
  parts = sym (append-nil (join_with_byte 32 words));
  allowed = joined_all (λ b. IsTrue (is_allowed b)) refl (λ b p. p.allowed) words plain;
  no_hash = joined_all (λ b. IsFalse (is_hash b)) refl (λ b p. p.no_hash) words plain;
  is_comment = tt;
  spaces = joined_spaces words plain;
}

-- ---- numbers are plain

digit_from : (b : ℕ) → digit_value b < 36 → 48 ≤ b
digit_from b digit = elim (cases_lt b 48) [
  | inl low ↦ absurd (omega (arith, rw (lt-ltb b 48 low) at digit))
  | inr from ↦ from
]

digit_to : (b : ℕ) → digit_value b < 36 → b < 123
digit_to b digit = elim (cases_lt b 123) [
  | inl to ↦ to
  | inr high ↦
      let past = rw (le-ltb b 48 (omega arith), le-ltb b 58 (omega arith), le-ltb b 65 (omega arith), le-ltb b 91 (omega arith), le-ltb b 97 (omega arith), le-ltb b 123 high) at digit in
      absurd (omega (arith, past))
]

digit_plain : (b : ℕ) → digit_value b < 36 → IsPlainByte b
digit_plain b digit =
    let from = digit_from b digit in
    let to = digit_to b digit in
    record {
      allowed = rw (le-leb 32 b (omega arith), le-leb b 126 (omega arith)) refl;
      solid = rw (ne_eqb b 32 (λ e. omega arith), ne_eqb b 9 (λ e. omega arith)) refl;
      no_hash = ne_eqb b 35 (λ e. omega arith);
    }

pub digits_plain : (radix : ℕ) (ds : List ℕ) → radix ≤ 36 → AllDigits radix ds → AllByRecursion IsPlainByte ds
digits_plain radix [] small all = tt
digits_plain radix (b ∷ ds) small all = (digit_plain b (omega (arith, all.0)), digits_plain radix ds small all.1)

pub spelled_plain : (word : List ℕ) (n : ℕ) → Spells word n → IsPlain word
spelled_plain word n (inl decimal) = ((λ e. absurd (omega (arith, decimal.0.0, ap length e))), digits_plain 10 word (omega arith) decimal.0.1)
spelled_plain word n (inr hex) =
    rw hex.1 ((λ e. cc), (digit_plain 48 (omega arith), (digit_plain 120 (omega arith), digits_plain 16 hex.0 (omega arith) hex.2.1)))

pub numbers_plain : (limit : ℕ) (words : List (List ℕ)) (ns : List ℕ) → AreNumbers limit words ns → AllByRecursion IsPlain words
numbers_plain limit [] ns numbers = tt
numbers_plain limit (word ∷ words) [] numbers = absurd numbers
numbers_plain limit (word ∷ words) (n ∷ ns) numbers = (spelled_plain word n numbers.0.1, numbers_plain limit words ns numbers.1)

pub arguments_plain : (dash : Bool) (limit : ℕ) (words : List (List ℕ)) (ns : List (Option ℕ)) → AreArguments dash limit words ns → AllByRecursion IsPlain words
arguments_plain dash limit [] ns arguments = tt
arguments_plain dash limit (word ∷ words) [] arguments = absurd arguments
arguments_plain dash limit (word ∷ words) (Some n ∷ ns) arguments = (spelled_plain word n arguments.0.1, arguments_plain dash limit words ns arguments.1)
arguments_plain dash limit (word ∷ words) (None ∷ ns) arguments =
    (rw arguments.0.1 ((λ e. cc), (record { allowed = refl; solid = refl; no_hash = refl }, tt)), arguments_plain dash limit words ns arguments.1)

-- a name of letters and digits
pub name_plain : (name : List ℕ) → name ≢ [] → AllDigits 36 name → IsPlain name
name_plain name some letters = (some, digits_plain 36 name (omega arith) letters)

-- ---- lines

not_ending : (c b : ℕ) → is_allowed c ≡ false → is_allowed b ≡ true → eqb b c ≡ false
not_ending c b ends is = false_from_ne_true (eqb b c) (λ same.
    let allowed : is_allowed c ≡ true = rw (← eqb-true b c same) is in
    let both : true ≡ false = sym allowed ∙ ends in cc)

kept_by_strip : (text : List ℕ) → AllByRecursion (λ b. eqb b 13 ≡ false) text → strip_carriage_return text ≡ text
kept_by_strip [] all = refl
kept_by_strip (b ∷ text) all =
    let last = All-get_or (λ x. eqb x 13 ≡ false) (b ∷ text) (length (b ∷ text) - 1) 0 (omega arith) (All-from_recursion (λ x. eqb x 13 ≡ false) (b ∷ text) all) in
    rw last refl

-- allowed bytes and a line feed come first among the lines
pub lines_allowed : (text bytes : List ℕ) → AllByRecursion (λ b. IsTrue (is_allowed b)) text → lines ((text ++ 10 ∷ []) ++ bytes) ≡ text ∷ lines bytes
lines_allowed text bytes allowed =
    let no_feed = weaker_all (λ b. IsTrue (is_allowed b)) (λ b. eqb b 10 ≡ false) (λ b is. not_ending 10 b refl is) text allowed in
    let no_return = weaker_all (λ b. IsTrue (is_allowed b)) (λ b. eqb b 13 ≡ false) (λ b is. not_ending 13 b refl is) text allowed in
    ap lines (append_assoc text (10 ∷ []) bytes)
    ∙ lines_fed text bytes (All-from_recursion (λ b. eqb b 10 ≡ false) text no_feed)
    ∙ ap (λ (t : List ℕ). t ∷ lines bytes) (kept_by_strip text no_return)

-- a printed line of plain words comes first among the lines
pub lines_printed : (words : List (List ℕ)) (bytes : List ℕ) → AllByRecursion IsPlain words → lines ((join_with_byte 32 words ++ 10 ∷ []) ++ bytes) ≡ join_with_byte 32 words ∷ lines bytes
lines_printed words bytes plain =
    lines_allowed (join_with_byte 32 words) bytes (joined_all (λ b. IsTrue (is_allowed b)) refl (λ b p. p.allowed) words plain)
