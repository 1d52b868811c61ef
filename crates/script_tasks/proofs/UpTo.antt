-- Several reads in a row: how many bytes they took, and what stands behind what was read before.
use Rattle.std.proofs.Common.{◌≡◌, ℕ, ◌+◌, ◌≤◌, List, ◌++◌, IfOk, Result, Ok, Err, length, take, Option, sym, ap, ◌∙◌, arith, length-append, length-take-le}
use Rattle.std.specs.Io.KnownBytes.{Consumes, ReadConsumes}
use Rattle.std.proofs.KnownBytes.{Consumes-trans}
use Rattle.std.proofs.Math.Seq.{take-append-add}
use Rattle.std.proofs.lemmas.List.{take-append-le}
use Rattle.script_tasks.specs.Sources.{ReadsBehind, ReadsUpTo}

pub reads-more : (limit room : ℕ) (a b c : Option (List ℕ)) (front : List ℕ) → Consumes a b front → ReadsUpTo room b c
    → length front + room ≤ limit → ReadsUpTo limit a c
reads-more limit room a b c front read (bytes, more, within) fits =
    (front ++ bytes, Consumes-trans a b c front bytes read more, omega (arith, length-append front bytes))

-- what one read put into the part behind the front
pub reads-behind : {E : Type 0} (a b : Option (List ℕ)) (r : Result ℕ E) (bytes part rest : List ℕ) (at : ℕ) → length (take at bytes) ≡ at
    → IfOk r (λ n. n ≤ length part) → ReadConsumes a b r part
    → IfOk r (λ n. ReadsBehind at a b bytes (take at bytes ++ (part ++ rest)) n)
reads-behind a b (Ok n) bytes part rest at long fits read =
    let front = take at bytes in
    let behind : take (at + n) (front ++ (part ++ rest)) ≡ front ++ take n part =
    ap (λ k. take (k + n) (front ++ (part ++ rest))) (sym long) ∙ take-append-add front (part ++ rest) n ∙ ap (λ ys. front ++ ys) (take-append-le n part rest fits) in
    record { got = take n part; long = length-take-le n part fits; taken = read.0; behind = behind }
reads-behind a b (Err e) bytes part rest at long fits read = tt
