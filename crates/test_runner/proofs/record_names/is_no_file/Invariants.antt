use Rattle.std.specs.Prelude.{◌≡◌, ◌≢◌, ◌<◌, ◌++◌, ℕ, List, Some, map, slice_get}
use Rattle.std.specs.Path.{path_file_name}
use Rattle.test_runner.proofs.record_names.is_no_file.Given as goal

-- none so far begins so
abbrev pub invariant-loop-file : goal.invariant-loop-file
invariant-loop-file l =
    (k : ℕ) → k < l.file-index → (file label : List ℕ) → slice_get (map (λ it. it.now) l.files) k ≡ Some file
    → path_file_name file ≢ Some (l.name ++ label)
