-- The words of a text, from its front.
use Rattle.std.proofs.lemmas.List.{at_drop_more}
use Rattle.std.proofs.Common.{get_or, ◌≡◌, ℕ, ◌+◌, ◌<◌, ◌≤◌, true, false, eqb, List, [], ◌∷◌, length, take, drop, refl, sym, ap, ◌∙◌, inl, inr, arith}
use Rattle.std.specs.List.{filter, slice_split}
use Rattle.std.proofs.lemmas.Bool.{cases_Bool, eqb-true, or_cases}
use Rattle.line_words.specs.Words.{is_blank, is_hash}
use Rattle.line_words.specs.Values.{before_comment, is_filled, words_in}
use Rattle.line_words.specs.Inside.Scanning.{begins_blank, is_word_end, word_length}

pub blank_no_hash : (b : ℕ) → is_blank b ≡ true → is_hash b ≡ false
blank_no_hash b e = elim (or_cases (eqb b 32) (eqb b 9) e) [
  | inl at ↦ rw (eqb-true b 32 at) refl
  | inr at ↦ rw (eqb-true b 9 at) refl
]

pub words_in-blank : (b : ℕ) (text : List ℕ) → is_blank b ≡ true → words_in (b ∷ text) ≡ words_in text
unfolding words_in
words_in-blank b text e = rw (blank_no_hash b e, e) refl

pub word_length_le : (text : List ℕ) → word_length text ≤ length text
word_length_le [] = omega arith
word_length_le (b ∷ text) = elim (cases_Bool (is_word_end b)) [
  | inl at ↦ rw at (omega arith)
  | inr at ↦ let others = word_length_le text in rw at (omega arith)
]

-- the text's first part, and the words in the others
first_part : (text : List ℕ)
    → (parts : List (List ℕ)) × (slice_split is_blank (before_comment text) ≡ take (word_length text) text ∷ parts) × (filter is_filled parts ≡ words_in (drop (word_length text) text))
unfolding words_in
first_part [] = ([], refl, refl)
first_part (b ∷ text) = elim (cases_Bool (is_blank b)) [
  | inl blank ↦ rw (blank_no_hash b blank, blank) (slice_split is_blank (before_comment text), refl, rw (blank_no_hash b blank, blank) refl)
  | inr solid ↦ elim (cases_Bool (is_hash b)) [
    | inl hash ↦ rw (solid, hash) ([], refl, rw hash refl)
    | inr plain ↦ let others = first_part text in rw (plain, others.1, solid) (others.0, refl, others.2)
  ]
]

pub words_in_drop_blank : (text : List ℕ) (i : ℕ) → i < length text → is_blank (get_or text i 0) ≡ true → words_in (drop (i + 1) text) ≡ words_in (drop i text)
words_in_drop_blank text i h e = sym (at_drop_more words_in text i 0 h ∙ words_in-blank (get_or text i 0) (drop (i + 1) text) e)

-- a text that begins with a word
word_first : (text : List ℕ) → (word_length text ≡ 0 → ⊥) → words_in text ≡ take (word_length text) text ∷ words_in (drop (word_length text) text)
unfolding words_in
word_first [] some = absurd (some refl)
word_first (b ∷ text) some =
    let first = first_part (b ∷ text) in
    elim (cases_Bool (is_word_end b)) [
      | inl at ↦ absurd (some (rw at refl))
      | inr at ↦
          let word = rw at at first.1 in
          let others = rw at at first.2 in
          ap (filter is_filled) word ∙ rw at (ap (λ (ws : List (List ℕ)). (b ∷ take (word_length text) text) ∷ ws) others)
    ]

pub words_in_word : (text : List ℕ) (n : ℕ) → n ≡ word_length text → (n ≡ 0 → ⊥) → words_in text ≡ take n text ∷ words_in (drop n text)
words_in_word text n e some = rw e (word_first text (rw e at some))

-- a text that begins with neither a blank nor a word has none
pub words_in_none : (text : List ℕ) → begins_blank text ≡ false → 0 ≡ word_length text → words_in text ≡ []
unfolding words_in
words_in_none [] solid e = refl
words_in_none (b ∷ text) solid e = elim (cases_Bool (is_hash b)) [
  | inl hash ↦ rw hash refl
  | inr plain ↦ absurd (omega (arith, rw (solid, plain) at e))
]
