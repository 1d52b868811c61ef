use Rattle.std.proofs.Common.{◌≡◌, ◌≢◌, ◌++◌, ℕ, List, inl, inr, sym, ap, ◌∙◌, below_more, arith}
use Rattle.std.specs.Prelude.{Some, map, slice_get, string_bytes}
use Rattle.std.specs.Option.{option_map}
use Rattle.std.proofs.lemmas.List.{length-map}
use Rattle.std.proofs.lemmas.Option.{same_Some, slice_get-get_or, slice_get-map, slice_get_within}
use Rattle.test_runner.proofs.Records.{one-begins}
use Rattle.test_runner.proofs.record_names.is_apart.Goals as goal

pub loop-place-preserved : goal.loop-place-preserved
loop-place-preserved c =
    let names = c.args.names.now in
    let place : ℕ = c.loop-place.place in
    let name : List ℕ = c.args.name.now in
    let mine : slice_get (map string_bytes names) place ≡ Some (string_bytes c.index-names-place.result) =
    slice_get-map string_bytes names place
    ∙ ap (option_map string_bytes) (slice_get-get_or names place c.index-names-place.result (omega arith) ∙ ap (λ it. Some it) (sym c.index-names-place.is)) in
    below_more (λ (k : ℕ). (other label another : List ℕ) → slice_get (map string_bytes names) k ≡ Some other → other ++ label ≢ name ++ another)
    place c.loop-place.invariant
    (λ other label another at is.
    let same : c.as_str-other.result.now ≡ other = c.as_str-other.ensures.value ∙ same_Some (string_bytes c.index-names-place.result) other (sym mine ∙ at) in
    elim (one-begins other name label another is) [
      | inl a ↦ let yes = c.begins.ensures a.0 (same ∙ a.1) in absurd (let no = c.if-begins.false in let nor = c.if-begins-2.false in cc)
      | inr b ↦ let yes = c.begins-else-begins.ensures b.0 (b.1 ∙ ap (λ (text : List ℕ). text ++ b.0) (sym same)) in absurd (let no = c.if-begins.false in let nor = c.if-begins-2.false in cc)
    ])

pub returns : goal.returns
returns c so k other label another at is =
    let within = slice_get_within (map string_bytes c.args.names.now) k other at in
    let long = length-map c.args.names.now string_bytes in
    c.loop-place.invariant k (omega arith) other label another at is
