-- A body that is being read, as the lines so far.
use Rattle.std.specs.Prelude.{ℕ, Bool, true, false, List, Option}
use Rattle.guest_script.specs.declared.draft.BodyDraft.{BodyDraft}
use Rattle.guest_script.specs.declared.draft.BodyDraft.TheVariants as drafts
use Rattle.board_terms.specs.declared.op.Op.{Op}
use Rattle.script_lines.specs.declared.script.Line.{Line}
use Rattle.guest_script.specs.Grammar.{Draft, Guest, Nothing, Blocked, OfGuest, Stepped, Traced}

abbrev pub draft_of : BodyDraft → Draft
draft_of drafts.Nothing = Nothing
draft_of (drafts.Blocks blocks) = Blocked blocks
draft_of (drafts.Steps lines) = Stepped lines
draft_of (drafts.Trace lines) = Traced lines

-- steps of a trace or of a schedule
abbrev pub steps_of : (in_trace : Bool) → List Line → Draft
steps_of false lines = Stepped lines
steps_of true lines = Traced lines

-- a program whose open block is a guest's, with these operations so far
abbrev pub in_guest : List Guest → Option (List ℕ) → (addr : ℕ) → List Op → Draft
in_guest before clock addr ops =
    Blocked (record { before = before; clock = clock; current = OfGuest (record { addr = addr; ops = ops }) })
