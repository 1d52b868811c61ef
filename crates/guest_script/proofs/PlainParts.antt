-- The parts of a line that is read as it is printed.
use Rattle.std.proofs.Common.{◌≡◌, ℕ, ℤ, pos, neg_ℤ, zero, suc, ◌+◌, ◌-◌, ◌*◌, ◌<◌, ◌≤◌, ◌^◌, Bool, true, false, cond, ltb, ◌&&◌, List, [], ◌∷◌, ◌++◌, length, get_or, take, drop, codes, Option, Some, None, refl, sym, ap, ◌∙◌, inl, inr, arith}
use Rattle.std.specs.Char.{digit_value, is_digit}
use Rattle.std.specs.Str.{bytes_eq}
use Rattle.std.specs.Str.Parse.{digits_value, IsNumeral}
use Rattle.std.proofs.lemmas.Bool.{le-leb, ltb-true}
use Rattle.std.proofs.lemmas.List.{append_assoc, append-nil, length-drop, take-append-drop, take_all}
use Rattle.std.proofs.Math.Seq.{take-suc}
use Rattle.std.proofs.lemmas.Slice.Eq.{bytes_eq-Decides}
use Rattle.board_terms.specs.declared.op.Actor.{Actor}
use Rattle.board_terms.specs.declared.op.Op.{Op}
use Rattle.board_terms.specs.declared.op.Op.TheVariants.{Sfence}
use Rattle.script_lines.specs.declared.op_name.OpName.{OpName}
use Rattle.script_lines.specs.declared.op_name.OpName.TheVariants as names
use Rattle.script_lines.specs.declared.places.Places.{Places}
use Rattle.script_lines.specs.declared.said.Said.{Said}
use Rattle.script_lines.specs.declared.said.Said.TheVariants.{Ret}
use Rattle.script_lines.specs.declared.said_name.SaidName.TheVariants as saids
use Rattle.script_lines.specs.declared.script.Doing.TheVariants.{Step}
use Rattle.guest_script.specs.Words.{last_below, AreNumbers, last_number}
use Rattle.guest_script.specs.Forms.{AreArguments, argument_at, Form, form_of, guest_form_of, IsNamed}
use Rattle.script_lines.specs.Names.{is_guests, op_word}
use Rattle.guest_script.specs.Reading.{IsFormAt, made_from}
use Rattle.guest_script.specs.Values.{is_numeral}
use Rattle.line_words.specs.Values.{digit_after}
use Rattle.line_words.specs.Inside.Scanning.{digits_after, and_digits, numeral_of}
use Rattle.guest_script.specs.Inside.PlainLines.{behind, BeginsActor, BeginsArgument, BeginsDigits, BeginsGuest, BeginsLine, BeginsName, BeginsNamed, BeginsNumber, BeginsNumbers, BeginsOp, BeginsSaid, BeginsSaidName, BeginsSigned, BeginsWord}
use Rattle.guest_script.proofs.Named.{op_forms}
use Rattle.guest_script.proofs.PlainShapes.{some_all}
use Rattle.guest_script.proofs.LineWords.{length_numbers}
use Rattle.line_words.proofs.Numerals.{at_most, numeral_at_most}
use Rattle.line_words.proofs.Spelling.{numeral_tested}

pub stripped : (bytes front rest : List ℕ) → bytes_eq (take (length front) bytes) front ≡ true → rest ≡ drop (length front) bytes → bytes ≡ front ++ rest
stripped bytes front rest same is =
    sym (take-append-drop (length front) bytes) ∙ rw is (ap (λ (xs : List ℕ). xs ++ drop (length front) bytes) ((bytes_eq-Decides (take (length front) bytes) front).0 same))

-- ---- digits

is_kept : (limit : ℕ) (o : Option ℕ) (b : Bool) (x n : ℕ) → o ≡ Some n → n ≤ limit → at_most limit o ≡ cond b (Some x) None → (b ≡ true) × (n ≡ x)
is_kept limit o true x n some le e = (refl, let f = rw (some, le-leb n limit le) at e in cc)
is_kept limit o false x n some le e = absurd (let f = rw (some, le-leb n limit le) at e in cc)

digits_filled : (i : ℕ) (bytes : List ℕ) → 0 < i → i ≤ length bytes → (b : ℕ) × (ds : List ℕ) × (take i bytes ≡ b ∷ ds)
digits_filled zero bytes some within = absurd (omega (arith, some))
digits_filled (suc i) [] some within = absurd (omega (arith, within))
digits_filled (suc i) (b ∷ bytes) some within = (b, take i bytes, refl)

numeral_read : (radix : ℕ) (ds : List ℕ) (b n : ℕ) (rest : List ℕ) → 1 ≤ radix → n < 2 ^ 64 → ds ≡ b ∷ rest → digits_after radix 0 ds ≡ Some n → IsNumeral radix ds × (n ≡ digits_value radix ds)
numeral_read radix ds b n rest r small at read =
    let kept = is_kept last_number (numeral_of radix (b ∷ rest)) (is_numeral radix last_number (b ∷ rest)) (digits_value radix (b ∷ rest)) n (rw at at read) (omega arith)
    (numeral_at_most radix last_number (b ∷ rest) r (omega arith)) in
    let tested = numeral_tested radix last_number (b ∷ rest) kept.0 in
    rw at (tested.0, kept.1)

pub digits_begin : (radix : ℕ) (bytes : List ℕ) (i n : ℕ) (rest : List ℕ) → 1 ≤ radix → n < 2 ^ 64 → 0 < i → i ≤ length bytes → rest ≡ drop i bytes → digits_after radix 0 (take i bytes) ≡ Some n
    → BeginsDigits radix bytes n rest
digits_begin radix bytes i n rest r small some within is read =
    let filled = digits_filled i bytes some within in
    let numeral = numeral_read radix (take i bytes) filled.0 n filled.1 r small filled.2 read in
    (take i bytes, rw is (sym (take-append-drop i bytes)), numeral.0, numeral.1)

after_all : (radix m : ℕ) (xs ys : List ℕ) → digits_after radix m (xs ++ ys) ≡ and_digits (λ n. digits_after radix n ys) (digits_after radix m xs)
after_all radix m [] ys = refl
after_all radix m (x ∷ xs) ys = after_one radix xs ys (digit_after radix m x) (λ n. after_all radix n xs ys) where
  after_one : (radix : ℕ) (xs ys : List ℕ) (o : Option ℕ) → ((n : ℕ) → digits_after radix n (xs ++ ys) ≡ and_digits (λ k. digits_after radix k ys) (digits_after radix n xs))
      → and_digits (λ n. digits_after radix n (xs ++ ys)) o ≡ and_digits (λ k. digits_after radix k ys) (and_digits (λ n. digits_after radix n xs) o)
  after_one radix xs ys None each = refl
  after_one radix xs ys (Some n) each = each n

one_digit : (o : Option ℕ) → and_digits (λ n. Some n) o ≡ o
one_digit None = refl
one_digit (Some n) = refl

pub digits_more : (radix : ℕ) (bytes : List ℕ) (i n more : ℕ) → i < length bytes → digits_after radix 0 (take i bytes) ≡ Some n → digit_after radix n (get_or bytes i 0) ≡ Some more
    → digits_after radix 0 (take (i + 1) bytes) ≡ Some more
digits_more radix bytes i n more within read digit =
    let next : i + 1 ≡ suc i = omega arith in
    ap (λ (k : ℕ). digits_after radix 0 (take k bytes)) next
    ∙ ap (digits_after radix 0) (take-suc bytes i 0 within)
    ∙ after_all radix 0 (take i bytes) (get_or bytes i 0 ∷ [])
    ∙ rw read (one_digit (digit_after radix n (get_or bytes i 0)) ∙ digit)

pub rest_of : (bytes : List ℕ) (i : ℕ) → i ≤ length bytes → take (length bytes - i) (drop i bytes) ≡ drop i bytes
rest_of bytes i within = take_all (length bytes - i) (drop i bytes) (omega (arith, length-drop i bytes))

pub digit_small : (radix n b more : ℕ) → digit_after radix n b ≡ Some more → more < 2 ^ 64
unfolding digit_after
digit_small radix n b more read = small (is_digit b radix) (ltb (n * radix + digit_value b) (2 ^ 64)) refl read where
  small : (digit fits : Bool) → fits ≡ ltb (n * radix + digit_value b) (2 ^ 64) → cond (digit && fits) (Some (n * radix + digit_value b)) None ≡ Some more → more < 2 ^ 64
  small true true fits read = let same : n * radix + digit_value b ≡ more = cc in omega (arith, ltb-true _ _ (sym fits), same)
  small true false fits read = absurd cc
  small false fits is read = absurd cc

-- up to three digits, each read on its own
digits_read : (bytes ds : List ℕ) (d n : ℕ) (others rest : List ℕ) → bytes ≡ ds ++ rest → ds ≡ d ∷ others → n < 2 ^ 64 → digits_after 10 0 ds ≡ Some n → BeginsDigits 10 bytes n rest
digits_read bytes ds d n others rest parts filled small read =
    let numeral = numeral_read 10 ds d n others (omega arith) small filled read in
    (ds, parts, numeral.0, numeral.1)

pub one_digit_begins : (bytes rest : List ℕ) (d n : ℕ) → bytes ≡ d ∷ rest → digit_after 10 0 d ≡ Some n → BeginsDigits 10 bytes n rest
one_digit_begins bytes rest d n at read =
    digits_read bytes (d ∷ []) d n [] rest at refl (digit_small 10 0 d n read) (ap (and_digits (λ (k : ℕ). Some k)) read)

pub two_digits_begin : (bytes middle rest : List ℕ) (c d m n : ℕ) → bytes ≡ c ∷ middle → digit_after 10 0 c ≡ Some m → middle ≡ d ∷ rest → digit_after 10 m d ≡ Some n → BeginsDigits 10 bytes n rest
two_digits_begin bytes middle rest c d m n at first next second =
    digits_read bytes (c ∷ d ∷ []) c n (d ∷ []) rest (at ∙ ap (λ (b : List ℕ). c ∷ b) next) refl (digit_small 10 m d n second)
    (ap (and_digits (λ (k : ℕ). digits_after 10 k (d ∷ []))) first ∙ ap (and_digits (λ (k : ℕ). Some k)) second)

pub three_digits_begin : (bytes middle last rest : List ℕ) (b c d k m n : ℕ) → bytes ≡ b ∷ middle → digit_after 10 0 b ≡ Some k → middle ≡ c ∷ last → digit_after 10 k c ≡ Some m → last ≡ d ∷ rest
    → digit_after 10 m d ≡ Some n → BeginsDigits 10 bytes n rest
three_digits_begin bytes middle last rest b c d k m n at first next second behind_it third =
    digits_read bytes (b ∷ c ∷ d ∷ []) b n (c ∷ d ∷ []) rest (at ∙ ap (λ (l : List ℕ). b ∷ l) (next ∙ ap (λ (l : List ℕ). c ∷ l) behind_it)) refl (digit_small 10 m d n third)
    (ap (and_digits (λ (j : ℕ). digits_after 10 j (c ∷ d ∷ []))) first ∙ ap (and_digits (λ (j : ℕ). digits_after 10 j (d ∷ []))) second ∙ ap (and_digits (λ (j : ℕ). Some j)) third)

-- ---- numbers

pub hex_begins : (bytes front : List ℕ) (n : ℕ) (rest : List ℕ) → bytes ≡ codes "0x" ++ front → n < 2 ^ 64 → BeginsDigits 16 front n rest → BeginsWord bytes n rest
hex_begins bytes front n rest at small (digits, parts, numeral, value) =
    (codes "0x" ++ digits, at ∙ ap (λ (xs : List ℕ). codes "0x" ++ xs) parts, (omega arith, inr (digits, refl, numeral, value)))

pub decimal_begins : (bytes : List ℕ) (n : ℕ) (rest : List ℕ) → n < 2 ^ 64 → BeginsDigits 10 bytes n rest → BeginsWord bytes n rest
decimal_begins bytes n rest small (digits, parts, numeral, value) = (digits, parts, (omega arith, inl (numeral, value)))

behind-append : (xs ys : List (List ℕ)) → behind (xs ++ ys) ≡ behind xs ++ behind ys
behind-append [] ys = refl
behind-append (x ∷ xs) ys = ap (λ (b : List ℕ). 32 ∷ b) (ap (λ (b : List ℕ). x ++ b) (behind-append xs ys) ∙ sym (append_assoc x (behind xs) (behind ys)))

numbers_append : (xs ys : List (List ℕ)) (ns ms : List ℕ) → AreNumbers last_number xs ns → AreNumbers last_number ys ms → AreNumbers last_number (xs ++ ys) (ns ++ ms)
numbers_append [] ys [] ms numbers later = later
numbers_append [] ys (n ∷ ns) ms numbers later = absurd numbers
numbers_append (x ∷ xs) ys [] ms numbers later = absurd numbers
numbers_append (x ∷ xs) ys (n ∷ ns) ms numbers later = (numbers.0, numbers_append xs ys ns ms numbers.1 later)

pub no_numbers : (bytes ns : List ℕ) → ns ≡ [] → BeginsNumbers bytes ns bytes
no_numbers bytes ns none = ([], refl, rw none tt)

pub numbers_more : (bytes ns rest : List ℕ) (n : ℕ) (after : List ℕ) → BeginsNumbers bytes ns rest → BeginsNumber rest n after → BeginsNumbers bytes (ns ++ n ∷ []) after
numbers_more bytes ns rest n after (words, parts, numbers) (word, at, number) = (
  words ++ word ∷ [],
  parts ∙ rw at (sym (append_assoc (behind words) (32 ∷ (word ++ [])) after ∙ ap (λ (b : List ℕ). behind words ++ 32 ∷ b) (append_assoc word [] after)))
      ∙ ap (λ (b : List ℕ). b ++ after) (sym (behind-append words (word ∷ []))),
  numbers_append words (word ∷ []) ns (n ∷ []) numbers (number, tt),
)

-- ---- operations

any_arguments : (dash : Bool) (limit : ℕ) (words : List (List ℕ)) (ns : List ℕ) → AreNumbers limit words ns → AreArguments dash limit words (some_all ns)
any_arguments dash limit [] [] numbers = tt
any_arguments dash limit [] (n ∷ ns) numbers = absurd numbers
any_arguments dash limit (word ∷ words) [] numbers = absurd numbers
any_arguments dash limit (word ∷ words) (n ∷ ns) numbers = (numbers.0, any_arguments dash limit words ns numbers.1)

module _ {A : Type 0} (form_of : List ℕ → Option (Form A)) (otherwise : A) where
  named_by : (name : List ℕ) (places : Places) (form : Option (Form A)) (words : List (List ℕ)) (ns : List ℕ) → form_of name ≡ form → IsFormAt places form → places.limit ≡ last_number
      → AreNumbers last_number words ns → places.least ≤ length ns → length ns ≤ places.most → IsNamed form_of (name ∷ words) (made_from otherwise form (some_all ns))
  named_by name places None words ns at is limit numbers enough not_more = absurd is
  named_by name places (Some form) words ns at is limit numbers enough not_more = record {
    name = name;
    others = words;
    form = form;
    arguments = some_all ns;
    parts = refl;
    has_form = at;
    enough = omega (arith, is.0, enough, length_numbers last_number words ns numbers);
    not_more = omega (arith, is.1, not_more, length_numbers last_number words ns numbers);
    are_arguments = rw (is.2, limit) (any_arguments form.may_be_absent last_number words ns numbers);
    made = refl;
  }

  -- a name and its numbers
  pub named_begins : (bytes name middle : List ℕ) (places : Places) (ns rest : List ℕ) (value : A) → bytes ≡ name ++ middle → IsFormAt places (form_of name) → places.limit ≡ last_number
      → BeginsNumbers middle ns rest → places.least ≤ length ns → length ns ≤ places.most → value ≡ made_from otherwise (form_of name) (some_all ns)
      → (others : List (List ℕ)) × (bytes ≡ name ++ (behind others ++ rest)) × IsNamed form_of (name ∷ others) value
  named_begins bytes name middle places ns rest value at is limit (words, parts, numbers) enough not_more made = (
    words,
    at ∙ ap (λ (b : List ℕ). name ++ b) parts,
    rw made (named_by name places (form_of name) words ns refl is limit numbers enough not_more),
  )

-- the same behind a blank
pub behind_blank : (bytes name : List ℕ) (others : List (List ℕ)) (rest : List ℕ) → bytes ≡ name ++ (behind others ++ rest) → 32 ∷ bytes ≡ behind (name ∷ others) ++ rest
behind_blank bytes name others rest parts = ap (λ (b : List ℕ). 32 ∷ b) (parts ∙ sym (append_assoc name (behind others) rest))

pub op_behind : (name : OpName) (bytes : List ℕ) (op : Op) (rest : List ℕ) → BeginsNamed name bytes op rest → BeginsOp (32 ∷ bytes) op rest
op_behind name bytes op rest (others, parts, is) = (op_word name ∷ others, behind_blank bytes (op_word name) others rest parts, is)

-- of a guest, whose forms have this name too
pub guest_begins : (name : OpName) (bytes : List ℕ) (op : Op) (rest after : List ℕ) → is_guests name ≡ true → BeginsNamed name bytes op rest
    → rest ≡ 10 ∷ after → BeginsGuest bytes op after
guest_begins name bytes op rest after guests (others, parts, is) end = (
  op_word name,
  others,
  parts ∙ ap (λ (b : List ℕ). op_word name ++ (behind others ++ b)) end,
  guest_named (rw guests at (op_forms name).1 ∙ sym (op_forms name).0) is,
) where
  guest_named : {words : List (List ℕ)} → guest_form_of (op_word name) ≡ form_of (op_word name) → IsNamed form_of (op_word name ∷ words) op → IsNamed guest_form_of (op_word name ∷ words) op
  guest_named same named = record {
    name = named.name;
    others = named.others;
    form = named.form;
    arguments = named.arguments;
    parts = named.parts;
    has_form = (let is : op_word name ≡ named.name = cc in rw (sym is) (same ∙ rw is named.has_form));
    enough = named.enough;
    not_more = named.not_more;
    are_arguments = named.are_arguments;
    made = named.made;
  }

-- a fence with its arguments
pub fence_begins : (before bytes : List ℕ) (va : Option ℕ) (middle : List ℕ) (asid : Option ℕ) (rest : List ℕ) (op : Op) → BeginsName before names.Sfence bytes
    → BeginsArgument bytes va middle → BeginsArgument middle asid rest → op ≡ Sfence va asid → BeginsNamed names.Sfence before op rest
unfolding form_of
fence_begins before bytes va middle asid rest op at (first, parts, is_va) (second, more, is_asid) made = (
  first ∷ second ∷ [],
  at
      ∙ ap (λ (b : List ℕ). codes "sfence" ++ b) (
      parts
      ∙ ap (λ (b : List ℕ). 32 ∷ (first ++ b)) (more ∙ ap (λ (b : List ℕ). 32 ∷ (b ++ rest)) (sym (append-nil second)))
      ∙ ap (λ (b : List ℕ). 32 ∷ b) (sym (append_assoc first (32 ∷ (second ++ [])) rest))
      ),
  record {
    name = codes "sfence";
    others = first ∷ second ∷ [];
    form = record { least = 2; most = 2; limit = last_number; may_be_absent = true; makes = λ ns. Sfence (argument_at ns 0) (argument_at ns 1) };
    arguments = va ∷ asid ∷ [];
    parts = refl;
    has_form = refl;
    enough = omega arith;
    not_more = omega arith;
    are_arguments = (is_va, (is_asid, tt));
    made = made;
  },
)

-- ---- what is said

pub below_begins : (bytes front : List ℕ) (n : ℕ) (rest : List ℕ) → bytes ≡ codes "-" ++ front → n ≤ last_below → BeginsDigits 10 front n rest → BeginsSigned bytes (neg_ℤ (pos n)) rest
below_begins bytes front n rest at small (digits, parts, numeral, value) =
    (codes "-" ++ digits, at ∙ ap (λ (b : List ℕ). 45 ∷ b) parts, inr (digits, refl, numeral, omega (arith, small, value), ap (λ (k : ℕ). neg_ℤ (pos k)) value))

pub ret_begins : (before bytes : List ℕ) (error : ℤ) (middle : List ℕ) (value : ℕ) (rest : List ℕ) → BeginsSaidName before saids.Ret (32 ∷ bytes) → BeginsSigned bytes error middle → BeginsNumber middle value rest
    → BeginsSaid before (Ret error value) rest
ret_begins before bytes error middle value rest at (word, parts, is_error) (next, more, is_value) = (
  codes "ret" ∷ word ∷ next ∷ [],
  at ∙ ap (λ (b : List ℕ). codes " ret " ++ b)
      (parts ∙ ap (λ (b : List ℕ). word ++ b) (more ∙ ap (λ (b : List ℕ). 32 ∷ (b ++ rest)) (sym (append-nil next))) ∙ sym (append_assoc word (32 ∷ (next ++ [])) rest)),
  inl (record { error_word = word; value_word = next; error = error; value = value; parts = refl; is_error = is_error; is_value = is_value; made = refl }),
)

-- ---- lines

pub told_begins : (n : ℕ) (bytes : List ℕ) (actor : Actor) (middle : List ℕ) (op : Op) (rest told : List ℕ) (said : Said) (end after : List ℕ) → BeginsActor bytes actor middle
    → BeginsOp middle op rest → rest ≡ codes " ->" ++ told
    → BeginsSaid told said end → end ≡ codes "\n" ++ after → BeginsLine n true bytes (record { number = n; doing = Step actor op; said = Some said }) after
told_begins n bytes actor middle op rest told said end after (first, parts, is_actor) (words, more, is_op) arrow (replies, last, is_said) at = (
  first,
  words ++ codes "->" ∷ replies,
  parts
      ∙ ap (λ (b : List ℕ). first ++ b) (
      more
      ∙ ap (λ (b : List ℕ). behind words ++ b) (arrow ∙ ap (λ (b : List ℕ). codes " ->" ++ b) (last ∙ ap (λ (b : List ℕ). behind replies ++ b) at))
      ∙ sym (append_assoc (behind words) (codes " ->" ++ behind replies) (10 ∷ after))
      ∙ ap (λ (b : List ℕ). b ++ 10 ∷ after) (sym (behind-append words (codes "->" ∷ replies)))
      ),
  (first ∷ words, replies, said, refl, refl, refl, record { first = first; others = words; parts = refl; is_actor = is_actor; is_op = is_op }, is_said),
)
