-- Whole lines, and the lines after them.
use Rattle.std.proofs.Common.{◌≡◌, ℕ, eqb, List, [], ◌∷◌, ◌++◌, map, refl, sym, ap, ◌∙◌, inl, inr}
use Rattle.std.specs.List.{slice_split, onto_first}
use Rattle.std.specs.Str.Lines.{lines, lines_of_parts, strip_carriage_return}
use Rattle.std.proofs.lemmas.Bool.{cases_Bool}
use Rattle.std.proofs.lemmas.List.{append-nil, append_assoc}
use Rattle.guest_script.specs.Pieces.{AreWhole}
use Rattle.line_words.proofs.LinesOf.{IsFilled, lines_of_more, split_filled}

onto_first_of : (b : ℕ) (parts more : List (List ℕ)) → IsFilled parts → onto_first b (parts ++ more) ≡ onto_first b parts ++ more
onto_first_of b parts more filled = rw filled.2 refl

split_fed : (front bytes : List ℕ) → slice_split (λ b. eqb b 10) (front ++ 10 ∷ bytes) ≡ slice_split (λ b. eqb b 10) front ++ slice_split (λ b. eqb b 10) bytes
split_fed [] bytes = refl
split_fed (b ∷ front) bytes = elim (cases_Bool (eqb b 10)) [
  | inl feed ↦ rw feed (ap (λ (parts : List (List ℕ)). [] ∷ parts) (split_fed front bytes))
  | inr other ↦ rw (other, split_fed front bytes) (onto_first_of b (slice_split (λ x. eqb x 10) front) (slice_split (λ x. eqb x 10) bytes) (split_filled front))
]

filled_behind : (parts more : List (List ℕ)) → IsFilled more → IsFilled (parts ++ more)
filled_behind [] more filled = filled
filled_behind (part ∷ parts) more filled = (part, parts ++ more, refl)

lines_of_both : (parts more : List (List ℕ)) → IsFilled more → lines_of_parts (parts ++ more) ≡ map strip_carriage_return parts ++ lines_of_parts more
lines_of_both [] more filled = refl
lines_of_both (part ∷ parts) more filled =
    lines_of_more part (parts ++ more) (filled_behind parts more filled) ∙ ap (λ (texts : List (List ℕ)). strip_carriage_return part ∷ texts) (lines_of_both parts more filled)

lines_behind_feed : (front bytes : List ℕ) → lines (front ++ 10 ∷ bytes) ≡ map strip_carriage_return (slice_split (λ b. eqb b 10) front) ++ lines bytes
lines_behind_feed front bytes = ap lines_of_parts (split_fed front bytes) ∙ lines_of_both (slice_split (λ b. eqb b 10) front) (slice_split (λ b. eqb b 10) bytes) (split_filled bytes)

pub lines_both : (whole bytes : List ℕ) → AreWhole whole → lines (whole ++ bytes) ≡ lines whole ++ lines bytes
lines_both whole bytes (inl none) = rw none refl
lines_both whole bytes (inr (front, ends)) =
    rw ends (
    ap lines (append_assoc front (10 ∷ []) bytes) ∙ lines_behind_feed front bytes
    ∙ ap (λ (texts : List (List ℕ)). texts ++ lines bytes) (sym (lines_behind_feed front [] ∙ append-nil (map strip_carriage_return (slice_split (λ b. eqb b 10) front))))
    )
