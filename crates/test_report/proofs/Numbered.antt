-- Texts of points, one behind the other.
use Rattle.std.proofs.Common.{◌≡◌, ℕ, ◌+◌, List, [], ◌∷◌, ◌++◌, length, refl, sym, ap, ◌∙◌, subst, arith}
use Rattle.std.proofs.lemmas.List.{append-nil, append_assoc}
use Rattle.test_report.specs.declared.point.Point.{Point}
use Rattle.test_report.specs.Inside.Bare.{IsBare}
use Rattle.test_report.specs.Lines.{AreNumbered, IsPointText, block_text, notes_text}

pub noted : (number : ℕ) (point : Point) (bare text : List ℕ) (lines : List (List ℕ)) → IsBare number point bare
    → text ≡ bare ++ notes_text lines → IsPointText number point text
noted number point bare text lines is h = record {
  holds = is.holds;
  ok = is.ok;
  said = is.said;
  details = is.details;
  notes = lines;
  is = h ∙ ap (λ (t : List ℕ). t ++ notes_text lines) is.is ∙ append_assoc _ (block_text is.details) (notes_text lines);
}

pub one-more : (before : ℕ) (points : List Point) (point : Point) (text one : List ℕ)
    → AreNumbered before points text → IsPointText ((before + length points) + 1) point one
    → AreNumbered before (points ++ point ∷ []) (text ++ one)
one-more before [] point text one none is = (
  one,
  [],
  ap (λ (t : List ℕ). t ++ one) none ∙ sym (append-nil one),
  subst (λ (n : ℕ). IsPointText (n + 1) point one) (omega arith) is,
  refl,
)
one-more before (first ∷ points) point text one more is = (
  more.0,
  more.1 ++ one,
  ap (λ (t : List ℕ). t ++ one) more.2 ∙ append_assoc more.0 more.1 one,
  more.3,
  one-more (before + 1) points point more.1 one more.4
      (subst (λ (n : ℕ). IsPointText (n + 1) point one) (omega arith) is),
)
