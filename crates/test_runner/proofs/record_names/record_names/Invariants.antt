use Rattle.std.specs.Prelude.{◌≡◌, length, map, string_bytes}
use Rattle.test_runner.specs.Records.{AreApart, AreNoFiles}
use Rattle.test_runner.proofs.record_names.record_names.Given as goal

-- there is a name for each file so far
abbrev pub invariant-loop-place : goal.invariant-loop-place
invariant-loop-place l =
    (length l.names.items ≡ l.place) × AreNoFiles (map (λ file. file.now) l.files) (map string_bytes l.names.items)
    × AreApart (map string_bytes l.names.items)
