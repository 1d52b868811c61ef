-- The word of the memory that an event changes.
use Rattle.std.specs.Prelude.{◌≡◌, ℕ, List, Option, Some, None}
use Rattle.amo.specs.Amos.{amo_size}
use Rattle.amo.specs.Parts.{word_at}
use Rattle.hart_access.specs.Ways.{phys_at}
use Rattle.tlb_model.specs.Entries.{Entry}
use Rattle.board_terms.specs.declared.op.Op.{Op}
use Rattle.board_terms.specs.declared.op.Op.TheVariants.{Store, Amo}
use Rattle.board_terms.specs.declared.reply.Reply.{Reply}
use Rattle.board_terms.specs.declared.reply.Reply.TheVariants.{Done, Value}
use Rattle.board_core.specs.History.{Event}
use Rattle.board_core.specs.Memory.{memory}
use Rattle.board_core.specs.Opening.{Opening}
use Rattle.access_marks.specs.declared.changes.Written.{Written}

-- the physical address of the word that a store or an AMO writes
abbrev pub place_by : Op → Reply → Option Entry → Option ℕ
place_by (Store va value) Done used = Some (phys_at used va)
place_by (Amo at amo) Done used = Some (phys_at used (word_at (amo_size amo) at))
place_by (Amo at amo) (Value old) used = Some (phys_at used (word_at (amo_size amo) at))
place_by op reply used = None

-- the physical address of the word that an event writes
abbrev pub place_of : Event → Option ℕ
place_of event = place_by event.op event.reply event.translation

-- This is the word that an event writes, with its value before it, if it writes one.
abbrev pub SaysWritten : Opening → List Event → Event → Option Written → Type 0
SaysWritten o past event None = place_of event ≡ None
SaysWritten o past event (Some written) = (place_of event ≡ Some written.at) × (written.word ≡ memory o past written.at)

-- The physical address of the word that changed: of the written one, if the memory has another word there now.
abbrev pub IsChange : Option Written → (memory : ℕ → Option ℕ) → Option ℕ → Type 0
IsChange None memory changed = changed ≡ None
IsChange (Some written) memory None = memory written.at ≡ written.word
IsChange (Some written) memory (Some at) = (at ≡ written.at) × (memory written.at ≡ written.word → ⊥)
