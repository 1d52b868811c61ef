-- How far a script is read, as a reader keeps it.
use Rattle.std.specs.Prelude.{ℕ, ◌+◌, min, List, Result}
use Rattle.guest_script.specs.declared.fault.ScriptFault.{ScriptFault}
use Rattle.guest_script.specs.declared.progress.Progress.{Progress}
use Rattle.guest_script.specs.declared.progress.Stage.{Stage}
use Rattle.guest_script.specs.declared.progress.Stage.TheVariants.{Nothing, Lines, Faulty}
use Rattle.guest_script.specs.FirstFault.{script_fault}
use Rattle.guest_script.specs.Inside.Drafts.{draft_of}
use Rattle.guest_script.specs.Grammar.{Written, most_bytes}
use Rattle.guest_script.specs.Pieces.{OnBoard, Part, Saying, Untold, Wrong, told_after}

abbrev pub told_of : Stage → Saying
told_of Nothing = Untold
told_of (Lines config draft) = OnBoard config (draft_of draft)
told_of (Faulty misread) = Wrong (script_fault misread)

abbrev pub part_of : (size : ℕ) → Progress → Part
part_of size p = record { size = size; next = p.next; told = told_of p.stage }

-- the script, where the lines from line n on follow
abbrev pub stage_after : Stage → ℕ → List (List ℕ) → Result Written ScriptFault
stage_after stage n texts = told_after (told_of stage) n texts

-- the script, where these lines follow
abbrev pub script_after : Progress → List (List ℕ) → Result Written ScriptFault
script_after p texts = stage_after p.stage p.next texts

-- the size with this many more bytes; if it is too large, nothing else is known
abbrev pub grown : ℕ → ℕ → ℕ
grown size more = min (size + more) (most_bytes + 1)
