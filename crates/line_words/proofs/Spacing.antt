-- A line's text is its words under any spacing and a comment, and no other words.
use Rattle.std.proofs.Common.{◌≡◌, ℕ, Bool, true, cond, List, [], ◌∷◌, ◌++◌, refl, sym, ap, ◌∙◌, inl, inr}
use Rattle.std.specs.Prelude.{IsTrue, IsFalse}
use Rattle.std.specs.List.{AllByRecursion, filter, list_all, slice_split}
use Rattle.std.proofs.lemmas.Bool.{cases_Bool, and_parts, and_from}
use Rattle.std.proofs.lemmas.List.{append-nil}
use Rattle.line_words.specs.Words.{IsApart, IsComment, IsGap, IsLine, IsWord, Spaces, is_allowed, is_blank, is_hash}
use Rattle.line_words.specs.Values.{before_comment, is_filled, words_in}

pub list_all-true : {A : Type 0} (p : A → Bool) (xs : List A) → list_all p xs ≡ true → AllByRecursion (λ x. IsTrue (p x)) xs
list_all-true p [] all = tt
list_all-true p (x ∷ xs) all = let both = and_parts (p x) (list_all p xs) all in (both.0, list_all-true p xs both.1)

pub list_all-from : {A : Type 0} (p : A → Bool) (xs : List A) → AllByRecursion (λ x. IsTrue (p x)) xs → list_all p xs ≡ true
list_all-from p [] all = refl
list_all-from p (x ∷ xs) all = and_from (p x) (list_all p xs) all.0 (list_all-from p xs all.1)

-- ---- a text has its words under their spacing

abbrev words_of : List ℕ → List (List ℕ)
words_of text = filter is_filled (slice_split is_blank text)

-- the part before the first blank, and what follows it
record Begins (text : List ℕ) : Type 0 where
  part : List ℕ
  rest : List ℕ
  parts : List (List ℕ)
  split : slice_split is_blank text ≡ part ∷ parts
  solid : AllByRecursion (λ b. IsFalse (is_blank b)) part
  whole : text ≡ part ++ rest
  apart : IsApart rest
  spaces : Spaces rest (filter is_filled parts)

pub Spaces-blank : (b : ℕ) (text : List ℕ) (words : List (List ℕ)) → is_blank b ≡ true → Spaces text words → Spaces (b ∷ text) words
Spaces-blank b text [] blank spaces = (blank, spaces)
Spaces-blank b text (word ∷ words) blank spaces =
    (b ∷ spaces.0, spaces.1, (blank, spaces.2), spaces.3, ap (λ (t : List ℕ). b ∷ t) spaces.4, spaces.5, spaces.6)

part_spaces : (text part rest : List ℕ) (parts : List (List ℕ)) → AllByRecursion (λ b. IsFalse (is_blank b)) part → text ≡ part ++ rest → IsApart rest
    → Spaces rest (filter is_filled parts) → Spaces text (filter is_filled (part ∷ parts))
part_spaces text [] rest parts solid whole apart spaces = rw whole spaces
part_spaces text (b ∷ part) rest parts solid whole apart spaces = ([], rest, tt, ((λ e. cc), solid), whole, apart, spaces)

Begins-spaces : (text : List ℕ) → Begins text → Spaces text (words_of text)
Begins-spaces text begins = rw begins.split (part_spaces text begins.part begins.rest begins.parts begins.solid begins.whole begins.apart begins.spaces)

begins : (text : List ℕ) → Begins text
begins [] = record { part = []; rest = []; parts = []; split = refl; solid = tt; whole = refl; apart = tt; spaces = tt }
begins (b ∷ text) = elim (cases_Bool (is_blank b)) [
  | inl blank ↦ record {
    part = [];
    rest = b ∷ text;
    parts = slice_split is_blank text;
    split = rw blank refl;
    solid = tt;
    whole = refl;
    apart = blank;
    spaces = Spaces-blank b text _ blank (Begins-spaces text (begins text));
  }
  | inr solid ↦ let later = begins text in record {
    part = b ∷ later.part;
    rest = later.rest;
    parts = later.parts;
    split = rw (solid, later.split) refl;
    solid = (solid, later.solid);
    whole = ap (λ (t : List ℕ). b ∷ t) later.whole;
    apart = later.apart;
    spaces = later.spaces;
  }
]

spaced : (text : List ℕ) → Spaces text (words_of text)
spaced text = Begins-spaces text (begins text)

-- ---- words under their spacing are the text's

words_of-gap : (gap text : List ℕ) → IsGap gap → words_of (gap ++ text) ≡ words_of text
words_of-gap [] text is_gap = refl
words_of-gap (b ∷ gap) text is_gap = rw is_gap.0 (words_of-gap gap text is_gap.1)

split_apart : (word rest : List ℕ) → AllByRecursion (λ b. IsFalse (is_blank b)) word → IsApart rest
    → (parts : List (List ℕ)) × (slice_split is_blank (word ++ rest) ≡ word ∷ parts) × (filter is_filled parts ≡ words_of rest)
split_apart [] [] solid apart = ([], refl, refl)
split_apart [] (b ∷ rest) solid apart = rw apart (slice_split is_blank rest, refl, refl)
split_apart (b ∷ word) rest solid apart =
    let later = split_apart word rest solid.1 apart in
    (later.0, rw (solid.0, later.1) refl, later.2)

words_of-word : (word rest : List ℕ) → IsWord word → IsApart rest → words_of (word ++ rest) ≡ word ∷ words_of rest
words_of-word [] rest is_word apart = absurd (is_word.0 refl)
words_of-word (b ∷ word) rest is_word apart =
    let split = split_apart (b ∷ word) rest is_word.1 apart in
    ap (filter is_filled) split.1 ∙ ap (λ (ws : List (List ℕ)). (b ∷ word) ∷ ws) split.2

words_of-spaced : (text : List ℕ) (words : List (List ℕ)) → Spaces text words → words_of text ≡ words
words_of-spaced text [] spaces = ap words_of (sym (append-nil text)) ∙ words_of-gap text [] spaces
words_of-spaced text (word ∷ words) spaces =
    ap words_of spaces.4
    ∙ words_of-gap spaces.0 (word ++ spaces.1) spaces.2
    ∙ words_of-word word spaces.1 spaces.3 spaces.5
    ∙ ap (λ (ws : List (List ℕ)). word ∷ ws) (words_of-spaced spaces.1 words spaces.6)

-- ---- comments

abbrev comment_of : List ℕ → List ℕ
comment_of [] = []
comment_of (b ∷ text) = cond (is_hash b) (b ∷ text) (comment_of text)

record Parts (text : List ℕ) : Type 0 where
  whole : text ≡ before_comment text ++ comment_of text
  no_hash : AllByRecursion (λ b. IsFalse (is_hash b)) (before_comment text)
  is_comment : IsComment (comment_of text)

parts_of : (text : List ℕ) → Parts text
parts_of [] = record { whole = refl; no_hash = tt; is_comment = tt }
parts_of (b ∷ text) = elim (cases_Bool (is_hash b)) [
  | inl hash ↦ record { whole = rw hash refl; no_hash = rw hash tt; is_comment = rw hash hash }
  | inr other ↦ let later = parts_of text in record {
    whole = rw other (ap (λ (t : List ℕ). b ∷ t) later.whole);
    no_hash = rw other (other, later.no_hash);
    is_comment = rw other later.is_comment;
  }
]

before_comment-append : (body comment : List ℕ) → AllByRecursion (λ b. IsFalse (is_hash b)) body → IsComment comment → before_comment (body ++ comment) ≡ body
before_comment-append [] [] no_hash is_comment = refl
before_comment-append [] (b ∷ comment) no_hash is_comment = rw is_comment refl
before_comment-append (b ∷ body) comment no_hash is_comment = rw no_hash.0 (ap (λ (t : List ℕ). b ∷ t) (before_comment-append body comment no_hash.1 is_comment))

-- ---- lines

pub line_has_words : (text : List ℕ) → list_all is_allowed text ≡ true → IsLine text (words_in text)
unfolding words_in
line_has_words text allowed =
    let parts = parts_of text in
    record {
      body = before_comment text;
      comment = comment_of text;
      parts = parts.whole;
      allowed = list_all-true is_allowed text allowed;
      no_hash = parts.no_hash;
      is_comment = parts.is_comment;
      spaces = spaced (before_comment text);
    }

pub line_allowed : (text : List ℕ) (words : List (List ℕ)) → IsLine text words → list_all is_allowed text ≡ true
line_allowed text words line = list_all-from is_allowed text line.allowed

pub line_words : (text : List ℕ) (words : List (List ℕ)) → IsLine text words → words_in text ≡ words
unfolding words_in
line_words text words line =
    ap (λ (t : List ℕ). words_of (before_comment t)) line.parts
    ∙ ap words_of (before_comment-append line.body line.comment line.no_hash line.is_comment)
    ∙ words_of-spaced line.body words line.spaces
