use Rattle.std.proofs.Common.{◌≡◌, ◌≢◌, ◌<◌, ◌++◌, ℕ, List, length, sym, ap, ◌∙◌, below_more, arith}
use Rattle.std.specs.Prelude.{Some, map, slice_get}
use Rattle.std.specs.Option.{option_map}
use Rattle.std.specs.Path.{path_file_name}
use Rattle.std.proofs.lemmas.List.{length-map}
use Rattle.std.proofs.lemmas.Option.{same_Some, slice_get-get_or, slice_get-map, slice_get_within}
use Rattle.test_runner.proofs.record_names.is_no_file.Goals as goal

pub loop-file-preserved : goal.loop-file-preserved
loop-file-preserved c =
    let files = c.args.files.now in
    let place : ℕ = c.loop-file.file-index in
    let name : List ℕ = c.args.name.now in
    let below : place < length files = (let test = c.loop-file-test.true in omega arith) in
    below_more (λ (k : ℕ). (file label : List ℕ) → slice_get (map (λ it. it.now) files) k ≡ Some file → path_file_name file ≢ Some (name ++ label))
    place c.loop-file.invariant
    (λ file label at is.
    let yes = c.begins.ensures label (c.own_name.ensures (name ++ label)
    (ap path_file_name (same_Some _ file (sym (slice_get-map (λ it. it.now) files place ∙ ap (option_map (λ it. it.now)) (slice_get-get_or files place _ below)) ∙ at)) ∙ is)) in
    absurd (let no = c.if-begins.false in cc))

pub returns : goal.returns
returns c so k file label at is =
    let within = slice_get_within (map (λ it. it.now) c.args.files.now) k file at in
    let long = length-map c.args.files.now (λ it. it.now) in
    let over = c.loop-file-test.false in
    c.loop-file.invariant k (omega arith) file label at is
