-- Parts of a text, one after another: one more at the end, and that there is one way to read a text.
use Rattle.std.proofs.Common.{◌≡◌, ◌⊎◌, ℕ, List, [], ◌∷◌, ◌++◌, length, refl, sym, ap, ◌∙◌, subst, inl, inr}
use Rattle.asm_tokens.specs.declared.tokens.BadText.{BadText}
use Rattle.asm_tokens.specs.Tokens.{Lexeme, first}
use Rattle.asm_tokens.specs.Tokens.Reading.{Begins, Gap, Faulty, Over}
use Rattle.asm_tokens.specs.Readings.{HasOneRow, TextPart, ReadsTo, TokenSpot, tokens_among}
use Rattle.asm_tokens.specs.Readings.TextPart.{Passed, Took}

-- ---- one more part

pub passed_more : (text : List ℕ) (parts : List TextPart) (rest after : List ℕ) → ReadsTo text parts rest → first rest ≡ Gap after
    → ReadsTo text (parts ++ Passed ∷ []) after
passed_more text [] rest after reads gap = (after, ap first reads ∙ gap, refl)
passed_more text (Passed ∷ parts) rest after reads gap = (reads.0, reads.1, passed_more reads.0 parts rest after reads.2 gap)
passed_more text (Took spot ∷ parts) rest after reads gap = (reads.0, reads.1, reads.2, passed_more reads.0 parts rest after reads.3 gap)

pub took_more : (text : List ℕ) (parts : List TextPart) (rest after : List ℕ) (spot : TokenSpot) → ReadsTo text parts rest
    → first rest ≡ Begins spot.lexeme after → spot.left ≡ length rest → ReadsTo text (parts ++ Took spot ∷ []) after
took_more text [] rest after spot reads begins left = (after, ap first reads ∙ begins, left ∙ sym (ap length reads), refl)
took_more text (Passed ∷ parts) rest after spot reads begins left =
    (reads.0, reads.1, took_more reads.0 parts rest after spot reads.2 begins left)
took_more text (Took one ∷ parts) rest after spot reads begins left =
    (reads.0, reads.1, reads.2, took_more reads.0 parts rest after spot reads.3 begins left)

pub taken-passed : (parts : List TextPart) → tokens_among (parts ++ Passed ∷ []) ≡ tokens_among parts
taken-passed [] = refl
taken-passed (Passed ∷ parts) = taken-passed parts
taken-passed (Took spot ∷ parts) = ap (λ (spots : List TokenSpot). spot ∷ spots) (taken-passed parts)

pub taken-took : (parts : List TextPart) (spot : TokenSpot) → tokens_among (parts ++ Took spot ∷ []) ≡ tokens_among parts ++ spot ∷ []
taken-took [] spot = refl
taken-took (Passed ∷ parts) spot = taken-took parts spot
taken-took (Took one ∷ parts) spot = ap (λ (spots : List TokenSpot). one ∷ spots) (taken-took parts spot)

-- ---- one reading

-- a text that begins with no part
Stops : List ℕ → Type 0
Stops text = (first text ≡ Over) ⊎ ((wrong : BadText) × (first text ≡ Faulty wrong))

no_gap : (text rest after : List ℕ) → text ≡ rest → Stops rest → first text ≡ Gap after → ⊥
unfolding Stops
no_gap text rest after same (inl over) gap = let e : first text ≡ first rest = ap first same in cc
no_gap text rest after same (inr wrong) gap = let e : first text ≡ first rest = ap first same in let w = wrong.1 in cc

no_token : (text rest after : List ℕ) (lexeme : Lexeme) → text ≡ rest → Stops rest → first text ≡ Begins lexeme after → ⊥
unfolding Stops
no_token text rest after lexeme same (inl over) begins = let e : first text ≡ first rest = ap first same in cc
no_token text rest after lexeme same (inr wrong) begins =
    let e : first text ≡ first rest = ap first same in let w = wrong.1 in cc

same_parts : (text : List ℕ) (a b : List TextPart) (r s : List ℕ) → ReadsTo text a r → ReadsTo text b s → Stops r → Stops s
    → (a ≡ b) × (r ≡ s)
same_parts text [] [] r s ra rb stops also = (refl, sym ra ∙ rb)
same_parts text [] (Passed ∷ b) r s ra rb stops also = absurd (no_gap text r rb.0 ra stops rb.1)
same_parts text [] (Took spot ∷ b) r s ra rb stops also = absurd (no_token text r rb.0 spot.lexeme ra stops rb.1)
same_parts text (Passed ∷ a) [] r s ra rb stops also = absurd (no_gap text s ra.0 rb also ra.1)
same_parts text (Took spot ∷ a) [] r s ra rb stops also = absurd (no_token text s ra.0 spot.lexeme rb also ra.1)
same_parts text (Passed ∷ a) (Took spot ∷ b) r s ra rb stops also = let x = ra.1 in let y = rb.1 in absurd cc
same_parts text (Took spot ∷ a) (Passed ∷ b) r s ra rb stops also = let x = ra.1 in let y = rb.1 in absurd cc
same_parts text (Passed ∷ a) (Passed ∷ b) r s ra rb stops also =
    let both : Gap ra.0 ≡ Gap rb.0 = sym ra.1 ∙ rb.1 in
    let after : ra.0 ≡ rb.0 = cc in
    let more = same_parts rb.0 a b r s (subst (λ (t : List ℕ). ReadsTo t a r) after ra.2) rb.2 stops also in
    (ap (λ (parts : List TextPart). Passed ∷ parts) more.0, more.1)
same_parts text (Took one ∷ a) (Took other ∷ b) r s ra rb stops also =
    let both : Begins one.lexeme ra.0 ≡ Begins other.lexeme rb.0 = sym ra.1 ∙ rb.1 in
    let after : ra.0 ≡ rb.0 = cc in
    let lexeme : one.lexeme ≡ other.lexeme = cc in
    let left : one.left ≡ other.left = ra.2 ∙ sym rb.2 in
    let spot : one ≡ other = λ i. record { lexeme = lexeme i; left = left i } in
    let more = same_parts rb.0 a b r s (subst (λ (t : List ℕ). ReadsTo t a r) after ra.3) rb.3 stops also in
    ((λ i. Took (spot i) ∷ more.0 i), more.1)

pub one_reading_of : (text : List ℕ) → HasOneRow text
unfolding Stops
one_reading_of text = record {
  tokens = λ some others a b.
      let same = same_parts text a.0 b.0 [] [] a.1 b.1 (inl refl) (inl refl) in
      sym a.2 ∙ ap tokens_among same.0 ∙ b.2;
  apart = λ spots fault a f.
      let same = same_parts text a.0 f.0 [] f.1 a.1 f.2 (inl refl) (inr (fault.wrong, f.3)) in
      let e : first [] ≡ first f.1 = ap first same.1 in
      let w = f.3 in
      cc;
  fault = λ one other f g.
      let same = same_parts text f.0 g.0 f.1 g.1 f.2 g.2 (inr (one.wrong, f.3)) (inr (other.wrong, g.3)) in
      let e : first f.1 ≡ first g.1 = ap first same.1 in
      let both : Faulty one.wrong ≡ Faulty other.wrong = sym f.3 ∙ e ∙ g.3 in
      let wrong : one.wrong ≡ other.wrong = cc in
      let left : one.left ≡ other.left = f.4 ∙ ap length same.1 ∙ sym g.4 in
      λ i. record { wrong = wrong i; left = left i };
}
