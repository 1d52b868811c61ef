use Rattle.std.specs.Prelude.{◌≡◌, ◌≢◌, ◌<◌, ◌++◌, ℕ, List, Some, map, slice_get, string_bytes}
use Rattle.test_runner.proofs.record_names.is_apart.Given as goal

-- it is apart from those so far
abbrev pub invariant-loop-place : goal.invariant-loop-place
invariant-loop-place l =
    (k : ℕ) → k < l.place → (other label another : List ℕ) → slice_get (map string_bytes l.names) k ≡ Some other
    → other ++ label ≢ l.name ++ another
