-- What an event means for the log of walks.
use Rattle.std.specs.Prelude.{◌≡◌, ℕ, List, Option, Some, None}
use Rattle.board_terms.specs.declared.op.Actor.{Actor}
use Rattle.board_terms.specs.declared.op.Actor.TheVariants.{Hart, Clock}
use Rattle.board_core.specs.History.{Event}
use Rattle.board_core.specs.Memory.{satp}
use Rattle.board_core.specs.Opening.{Opening}
use Rattle.walk_watch.specs.declared.former.FormerSatp.{FormerSatp}
use Rattle.walk_watch.specs.declared.former.FormerWord.{FormerWord}
use Rattle.access_marks.specs.declared.changes.Written.{Written}

-- This is the satp of the hart that makes an event after a history, if a hart makes it.
abbrev pub SaysSatp : Opening → List Event → Actor → Option FormerSatp → Type 0
SaysSatp o past actor None = actor ≡ Clock
SaysSatp o past actor (Some former) = (actor ≡ Hart former.hart) × (former.satp ≡ satp o past former.hart)

-- This is the written word as it was before, if it changed: the memory has another one there now.
abbrev pub IsFormerOf : Option Written → (memory : ℕ → Option ℕ) → Option FormerWord → Type 0
IsFormerOf None memory former = former ≡ None
IsFormerOf (Some written) memory None = memory written.at ≡ written.word
IsFormerOf (Some written) memory (Some former) = (former.at ≡ written.at) × (former.word ≡ written.word)

-- This is a satp as it was before, if it changed: its hart has another one now.
abbrev pub IsSatpChange : Option FormerSatp → (satps : ℕ → ℕ) → Option FormerSatp → Type 0
IsSatpChange None satps changed = changed ≡ None
IsSatpChange (Some former) satps None = satps former.hart ≡ former.satp
IsSatpChange (Some former) satps (Some changed) = changed ≡ former
