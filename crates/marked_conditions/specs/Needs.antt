-- The steps that a condition on marks needs (profile).
use Rattle.std.specs.Prelude.{◌≡◌, ℕ, Bool, true, false, ◌||◌, ◌&&◌, List, slice_get, Option, Some, None, is_some}
use Rattle.sv39.specs.declared.cause.Cause.{Cause}
use Rattle.sv39.specs.declared.cause.Cause.TheVariants.{InstructionPageFault, LoadPageFault, StorePageFault}
use Rattle.access_marks.specs.declared.marks.Marks.{Marks}
use Rattle.board_core.specs.History.{Event}
use Rattle.board_terms.specs.declared.op.Op.{Op}
use Rattle.board_terms.specs.declared.op.Op.TheVariants.{Fetch}
use Rattle.board_terms.specs.declared.reply.Reply.{Reply}
use Rattle.board_terms.specs.declared.reply.Reply.TheVariants.{Fault, Value}
use Rattle.condition_script.specs.declared.marks.Mark.{Mark}
use Rattle.condition_script.specs.declared.marks.Mark.TheVariants.{Missed, Stale, Unfirm, Unlenient, Unsteady}
use Rattle.condition_script.specs.declared.patterns.Pattern.{Pattern}
use Rattle.condition_script.specs.declared.rules.Rule.{Rule}
use Rattle.condition_script.specs.declared.rules.Rule.TheVariants.{Never, NeverAfter, OfSome, Each, End, Before, CanEnd}
use Rattle.conditions.specs.Patterns.{FitsStep}
use Rattle.marked_conditions.specs.Marked.{IsAtWith, mark_of, told_mark}

-- whether an operation is a fetch
abbrev pub is_fetch : Op → Bool
is_fetch (Fetch va) = true
is_fetch op = false

-- whether a reply is a word that was read
abbrev pub is_word : Reply → Bool
is_word (Value word) = true
is_word reply = false

-- whether a cause is that of a page fault
abbrev pub is_of_page_fault : Cause → Bool
is_of_page_fault InstructionPageFault = true
is_of_page_fault LoadPageFault = true
is_of_page_fault StorePageFault = true
is_of_page_fault cause = false

-- whether a reply is a page fault
abbrev pub is_page_fault : Reply → Bool
is_page_fault (Fault cause) = is_of_page_fault cause
is_page_fault reply = false

-- whether a step is an access that used an entry, that an entry could have kept from its page fault, or that fetched a word
abbrev pub could_fetch : Event → Bool
could_fetch e = is_some e.translation || (is_page_fault e.reply || (is_fetch e.op && is_word e.reply))

-- Whether a step without the mark could have had it by other entries or fetched words: of `stale` and `missed` an access that used an entry,
-- or that an entry could have kept from its page fault; of the other marks also one that fetched a word.
abbrev pub could_have : Mark → Event → Bool
could_have Stale e = is_some e.translation || is_page_fault e.reply
could_have Missed e = is_some e.translation || is_page_fault e.reply
could_have Unsteady e = could_fetch e
could_have Unfirm e = could_fetch e
could_have Unlenient e = could_fetch e

-- Whether a mark tells something of a step with these marks: it has the mark, or could have had it.
abbrev pub is_telling : Mark → Event → Marks → Bool
is_telling mark e marks = told_mark mark marks || could_have mark e

-- Of a pattern without a mark any step tells something.
abbrev pub IsTelling : Option Mark → Event → Marks → Type 0
IsTelling None e marks = Unit {0}
IsTelling (Some mark) e marks = is_telling mark e marks ≡ true

-- Step k of a record, from 0, has an actor and an operation that fit, and the pattern's mark, if it has one, tells something of it.
pub record IsTellingAt (p : Pattern) (events : List Event) (marks : List Marks) (k : ℕ) : Type 0 where
  pub event : Event
  pub of : Marks
  pub happened : slice_get events k ≡ Some event
  pub marked : slice_get marks k ≡ Some of
  pub fits : FitsStep p event
  pub tells : IsTelling (mark_of p) event of

-- A record has such a step.
abbrev pub HasTelling : Pattern → List Event → List Marks → Type 0
HasTelling p events marks = (k : ℕ) × IsTellingAt p events marks k

-- A record with marks has the step that the first pattern needs.
abbrev pub MeetsFirstWith : Rule → List Event → List Marks → Type 0
MeetsFirstWith (Never p) events marks = HasTelling p events marks
MeetsFirstWith (NeverAfter p q) events marks = HasTelling p events marks
MeetsFirstWith (OfSome p) events marks = HasTelling p events marks
MeetsFirstWith (Each p) events marks = HasTelling p events marks
MeetsFirstWith (Before p q) events marks = HasTelling p events marks
MeetsFirstWith (End ends) events marks = ⊥
MeetsFirstWith (CanEnd ends) events marks = ⊥

-- A record with marks has the step that the second pattern needs: behind `after` one that it matches.
abbrev pub MeetsSecondWith : Rule → List Event → List Marks → Type 0
MeetsSecondWith (Never p) events marks = ⊥
MeetsSecondWith (NeverAfter p q) events marks = (k : ℕ) × IsAtWith q events marks k
MeetsSecondWith (OfSome p) events marks = ⊥
MeetsSecondWith (Each p) events marks = ⊥
MeetsSecondWith (Before p q) events marks = HasTelling q events marks
MeetsSecondWith (End ends) events marks = ⊥
MeetsSecondWith (CanEnd ends) events marks = ⊥
