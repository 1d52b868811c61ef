-- What several writes in a row did to the known bytes.
use Rattle.std.proofs.Common.{◌≡◌, ℕ, zero, suc, append-nil, append_assoc, add-one, ◌+◌, List, ◌++◌, Option, sym, ap, ◌∙◌, arith}
use Rattle.std.specs.List.{flat_map, range_with_len}
use Rattle.std.specs.Io.KnownBytes.{Appends}
use Rattle.std.proofs.KnownBytes.{Appends-trans}

texts-more : (f : ℕ → List ℕ) (from count : ℕ) → flat_map f (range_with_len from (suc count)) ≡ flat_map f (range_with_len from count) ++ f (from + count)
texts-more f from zero = append-nil (f from) ∙ ap f (omega arith)
texts-more f from (suc count) =
    ap (λ l. f from ++ l) (texts-more f (from + 1) count) ∙ sym (append_assoc (f from) (flat_map f (range_with_len (from + 1) count)) (f (from + 1 + count)))
    ∙ ap (λ n. (f from ++ flat_map f (range_with_len (from + 1) count)) ++ f n) (omega arith)

-- one text more of those of the numbers from 0
pub appends-next : (a b c : Option (List ℕ)) (f : ℕ → List ℕ) (h : ℕ) → Appends a b (flat_map f (range_with_len 0 h)) → Appends b c (f h) → Appends a c (flat_map f (range_with_len 0 (h + 1)))
appends-next a b c f h front next =
    let more : flat_map f (range_with_len 0 (suc h)) ≡ flat_map f (range_with_len 0 h) ++ f h = texts-more f 0 h ∙ ap (λ n. flat_map f (range_with_len 0 h) ++ f n) (omega arith) in
    rw (add-one, more) (Appends-trans a b c _ _ front next)
