use Rattle.std.proofs.Common.{◌≡◌, ◌∷◌, ◌++◌, List, ℕ, [], length, map, sym, ap, ◌∙◌, subst, arith}
use Rattle.std.specs.Prelude.{string_bytes}
use Rattle.std.proofs.lemmas.List.{length-append, map_push}
use Rattle.test_runner.specs.Records.{AreApart, AreNoFiles, IsApartFrom}
use Rattle.test_runner.proofs.Records.{apart-more, no-files-more}
use Rattle.test_runner.proofs.record_names.record_names.Goals as goal

pub loop-place-preserved : goal.loop-place-preserved
loop-place-preserved c =
    let before = c.loop-place.invariant in
    let files : List (List ℕ) = map (λ file. file.now) c.args.files.now in
    let old = c.loop-place.names.items in
    let name = c.in_ok-name.name in
    let more : c.push.new.self.items ≡ old ++ name ∷ [] = c.in_ok-push.ensures.items in
    let texts : map string_bytes c.push.new.self.items ≡ map string_bytes old ++ string_bytes name ∷ [] =
    ap (map string_bytes) more ∙ map_push string_bytes old name in (
      (let long = ap length more in let is = length-append old (name ∷ []) in let many = before.0 in omega arith),
      subst (λ (names : List (List ℕ)). AreNoFiles files names) (sym texts)
          (no-files-more files (map string_bytes old) (string_bytes name) before.1 c.in_ok-name.ensures.files),
      subst AreApart (sym texts) (apart-more (map string_bytes old) (string_bytes name) before.2
          (subst (λ all. IsApartFrom (map string_bytes all) (string_bytes name)) c.deref.ensures.value c.in_ok-name.ensures.apart)),
    )
