-- What holds of a source after reads, and of the script that was read (profile).
use Rattle.std.specs.Prelude.{◌≡◌, ℕ, ◌+◌, ◌<◌, ◌≤◌, List, ◌++◌, length, take, Option, Result, Ok, Err, IfSome, MatchResult}
use Rattle.std.specs.Io.KnownBytes.{Consumes, IsAtEnd}
use Rattle.script_lines.specs.declared.script.Script.{Script}
use Rattle.guest_script.specs.FirstFault.{no_memory}
use Rattle.guest_script.specs.Grammar.{most_bytes}
use Rattle.guest_script.specs.Pieces.{HasRead, IsAnswered, Part}
use Rattle.script_tasks.specs.declared.device.pieces.ReadFault.{ReadFault}
use Rattle.script_tasks.specs.declared.device.pieces.ReadFault.TheVariants.{Failed, Script as NoScript}

-- how many bytes are read at most: one more than a script may have
abbrev pub read_limit : ℕ
read_limit = most_bytes + 1

-- A fault of reading is a failed call, or a fault of the script while no call failed.
abbrev pub CountsFault : (old new : ℕ) → ReadFault → Type 0
CountsFault old new Failed = old < new
CountsFault old new (NoScript fault) = new ≡ old

-- If reading succeeded, no call failed. It failed with a fault of the system if and only if a call failed.
abbrev pub CountsReading : {T : Type 0} → (old new : ℕ) → Result T ReadFault → Type 0
CountsReading old new result = MatchResult result (λ _. new ≡ old) (CountsFault old new)

-- At most this many of the coming bytes were read.
abbrev pub ReadsUpTo : (limit : ℕ) → (old new : Option (List ℕ)) → Type 0
ReadsUpTo limit old new = (bytes : List ℕ) × Consumes old new bytes × (length bytes ≤ limit)

-- A read took this many bytes, and put them behind the first ones.
pub record ReadsBehind (first : ℕ) (old new : Option (List ℕ)) (bytes bytes' : List ℕ) (count : ℕ) : Type 0 where
  pub got : List ℕ
  pub long : length got ≡ count
  pub taken : Consumes old new got
  pub behind : take (first + count) bytes' ≡ take first bytes ++ got

-- The bytes that were taken from a source are those that the reader got, and then those that are pending.
pub record HasTaken (old new : Option (List ℕ)) (reader : Part) (pending : List ℕ) (count : ℕ) : Type 0 where
  pub given : List ℕ
  pub read : HasRead reader given
  pub taken : Consumes old new (given ++ pending)
  pub long : length (given ++ pending) ≡ count

-- All bytes that were to come were taken, or as many as are read at most.
abbrev pub HasTakenAll : (old new : Option (List ℕ)) → (reader : Part) → (pending : List ℕ) → Type 0
HasTakenAll old new reader pending =
    (count : ℕ) × HasTaken old new reader pending count × (count ≤ read_limit) × (count < read_limit → IsAtEnd new)

-- A failed call, or a failed allocation.
abbrev pub Lacks : ReadFault → Type 0
Lacks Failed = Unit {0}
Lacks (NoScript fault) = fault ≡ no_memory

-- The result of reading bytes: their script, or their fault, or a failed allocation. After a failed call nothing is said of
-- them.
abbrev pub IsRead : List ℕ → Result Script ReadFault → Type 0
IsRead bytes (Ok script) = IsAnswered bytes (Ok script)
IsRead bytes (Err (NoScript fault)) = IsAnswered bytes (Err fault)
IsRead bytes (Err Failed) = Unit {0}

-- The result of reading is right for some bytes, which are those of the source up to the limit, if they are known.
abbrev pub ReadsScript : (old : Option (List ℕ)) → Result Script ReadFault → Type 0
ReadsScript old result = (bytes : List ℕ) × IsRead bytes result × IfSome old (λ all. bytes ≡ take read_limit all)
