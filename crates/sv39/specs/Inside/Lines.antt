-- Marks of lines of eight words, in rows of 64: private.
use Rattle.std.specs.Prelude.{◌≡◌, ℕ, ◌*◌, ◌/◌, ◌%◌, ◌^◌, ◌<◌, ◌≤◌, List, bit_or, slice_index, slice_set}
use Rattle.std.specs.Int.{bit_at}

-- the mark of a line: 0 or 1
abbrev pub mark_of : List ℕ → (line : ℕ) → ℕ
mark_of marks line = bit_at (slice_index marks (line / 64)) (line % 64)

-- the marks with one more
abbrev pub marked : List ℕ → (line : ℕ) → List ℕ
marked marks line =
    slice_set marks (line / 64) (bit_or (slice_index marks (line / 64)) (1 * 2 ^ (line % 64) % 2 ^ 64))

-- no line from one on and before another has a mark
abbrev pub AreUnmarked : (marks : List ℕ) (from to : ℕ) → Type 0
AreUnmarked marks from to = (line : ℕ) → from ≤ line → line < to → mark_of marks line ≡ 0

-- the words of each line without a mark are 0
abbrev pub AreMarked : (words marks : List ℕ) → Type 0
AreMarked words marks = (k : ℕ) → mark_of marks (k / 8) ≡ 0 → slice_index words k ≡ 0

-- each word from one place on and before another is that of another list
abbrev pub AreSame : (words others : List ℕ) (from to : ℕ) → Type 0
AreSame words others from to = (k : ℕ) → from ≤ k → k < to → slice_index words k ≡ slice_index others k
