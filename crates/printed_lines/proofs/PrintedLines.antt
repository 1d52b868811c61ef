-- Words after a blank each, and words that one blank parts.
use Rattle.std.proofs.Common.{◌≡◌, ℕ, List, [], ◌∷◌, ◌++◌, ◌<◌, length, drop, arith, refl, ap, ◌∙◌, append_assoc}
use Rattle.std.specs.List.{join_with_byte}
use Rattle.printed_lines.specs.LineText.{with_words}
use Rattle.printed_lines.specs.Words.{as_line}

pub with_words-append : (line : List ℕ) (words more : List (List ℕ)) → with_words line (words ++ more) ≡ with_words (with_words line words) more
with_words-append line [] more = refl
with_words-append line (word ∷ words) more = with_words-append (line ++ 32 ∷ word) words more

with_words-join : (line word : List ℕ) (words : List (List ℕ)) → with_words line (word ∷ words) ≡ line ++ (32 ∷ join_with_byte 32 (word ∷ words))
with_words-join line word [] = refl
with_words-join line word (next ∷ words) =
    with_words-join (line ++ 32 ∷ word) next words ∙ append_assoc line (32 ∷ word) (32 ∷ join_with_byte 32 (next ∷ words))

-- without its first blank, and ended, the line is the line of its words
pub words-as_line : (line ended : List ℕ) (words : List (List ℕ)) → 0 < length line → ended ≡ line ++ 10 ∷ [] → line ≡ with_words [] words → drop 1 ended ≡ as_line words
words-as_line line ended [] some e is = absurd (omega (arith, ap length is))
words-as_line line ended (word ∷ words) some e is = ap (drop 1) (e ∙ ap (λ l. l ++ 10 ∷ []) (is ∙ with_words-join [] word words))

-- words behind a line's first word
words-behind : (line first : List ℕ) (words : List (List ℕ)) → with_words (line ++ first) words ≡ line ++ join_with_byte 32 (first ∷ words)
words-behind line first [] = refl
words-behind line first (word ∷ words) =
    with_words-join (line ++ first) word words ∙ append_assoc line first (32 ∷ join_with_byte 32 (word ∷ words))

-- an actor, the words of a step, an arrow, the words of its answer, and the line's end
pub step-line : (line actor arrow : List ℕ) (op reply : List (List ℕ)) (own stepped parted told whole : List ℕ) → own ≡ line ++ actor
    → stepped ≡ with_words own op → parted ≡ stepped ++ 32 ∷ arrow → told ≡ with_words parted reply → whole ≡ told ++ 10 ∷ []
    → whole ≡ line ++ as_line (actor ∷ (op ++ arrow ∷ reply))
step-line line actor arrow op reply own stepped parted told whole e1 e2 e3 e4 e5 =
    let words = op ++ arrow ∷ reply in
    rw (e5, e4, e3, e2, e1, ← with_words-append (line ++ actor) op (arrow ∷ reply), words-behind line actor words, append_assoc line (join_with_byte 32 (actor ∷ words)) (10 ∷ [])) refl
