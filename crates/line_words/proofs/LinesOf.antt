-- The lines of bytes, from the first on.
use Rattle.std.proofs.Common.{◌≡◌, ℕ, ◌+◌, ◌<◌, Bool, true, false, not, cond, eqb, ltb, List, [], ◌∷◌, ◌++◌, length, take, drop, Some, None, refl, sym, ap, ◌∙◌, inl, inr, arith}
use Rattle.std.specs.List.{slice_split, onto_first, position, position_or_len, after_first, All}
use Rattle.std.specs.Str.Lines.{lines, lines_of_parts, strip_carriage_return}
use Rattle.std.proofs.lemmas.Bool.{cases_Bool, ltb-true, ltb-false, ne_eqb, not-true}
use Rattle.std.proofs.lemmas.List.{drop_all}
use Rattle.std.proofs.lemmas.Option.{cond_some}
use Rattle.std.proofs.lemmas.List.Sums.{prefix_len_passes}
use Rattle.std.proofs.lemmas.List.Splits.{slice_split_first, slice_split_at, slice_split_none}

-- a list with an element
abbrev pub IsFilled : List (List ℕ) → Type 0
IsFilled parts = (part : List ℕ) × (others : List (List ℕ)) × (parts ≡ part ∷ others)

pub onto_first_filled : (b : ℕ) (parts : List (List ℕ)) → IsFilled (onto_first b parts)
onto_first_filled b [] = (b ∷ [], [], refl)
onto_first_filled b (part ∷ parts) = (b ∷ part, parts, refl)

pub split_filled : (bytes : List ℕ) → IsFilled (slice_split (λ b. eqb b 10) bytes)
split_filled [] = ([], [], refl)
split_filled (b ∷ bytes) = elim (cases_Bool (eqb b 10)) [
  | inl feed ↦ rw feed ([], slice_split (λ x. eqb x 10) bytes, refl)
  | inr other ↦ rw other (onto_first_filled b (slice_split (λ x. eqb x 10) bytes))
]

pub lines_of_more : (part : List ℕ) (parts : List (List ℕ)) → IsFilled parts → lines_of_parts (part ∷ parts) ≡ strip_carriage_return part ∷ lines_of_parts parts
lines_of_more part parts filled = rw filled.2 refl

-- a text that a line feed ends
pub lines_fed : (text bytes : List ℕ) → All (λ b. eqb b 10 ≡ false) text → lines (text ++ 10 ∷ bytes) ≡ strip_carriage_return text ∷ lines bytes
lines_fed text bytes none =
    ap lines_of_parts (slice_split_at (λ b. eqb b 10) text 10 bytes none refl)
    ∙ lines_of_more text (slice_split (λ b. eqb b 10) bytes) (split_filled bytes)

pub lines_at : (bytes : List ℕ) (n : ℕ) → Some n ≡ position (λ b. eqb b 10) bytes → lines bytes ≡ strip_carriage_return (take n bytes) ∷ lines (drop (n + 1) bytes)
lines_at bytes n at =
    let p : ℕ → Bool = λ b. eqb b 10 in
    let found = cond_some (ltb (position_or_len p bytes) (length bytes)) (position_or_len p bytes) n (sym at) in
    rw (← found.1) (ap lines_of_parts (slice_split_first p bytes 0 (ltb-true _ _ found.0)) ∙ lines_of_more _ _ (split_filled (after_first p bytes)))

lines_whole : (bytes : List ℕ) → 0 < length bytes → lines_of_parts (bytes ∷ []) ≡ bytes ∷ []
lines_whole bytes some = rw (ne_eqb (length bytes) 0 (λ e. omega arith)) refl

not_found : {A : Type 0} (b : Bool) (x : A) → None ≡ cond b (Some x) None → b ≡ false
not_found true x e = absurd cc
not_found false x e = refl

pub lines_last : (bytes : List ℕ) → None ≡ position (λ b. eqb b 10) bytes → 0 < length bytes → lines bytes ≡ bytes ∷ lines (drop (length bytes) bytes)
lines_last bytes none some =
    let p : ℕ → Bool = λ b. eqb b 10 in
    let long = ltb-false _ _ (not_found (ltb (position_or_len p bytes) (length bytes)) _ none) in
    let others : All (λ b. p b ≡ false) bytes = λ k d h. not-true _ (prefix_len_passes (λ b. not (p b)) bytes k d (omega arith)) in
    let split : slice_split p bytes ≡ bytes ∷ [] = slice_split_none p bytes others in
    rw (drop_all (length bytes) bytes (omega arith)) (ap lines_of_parts split ∙ lines_whole bytes some)
