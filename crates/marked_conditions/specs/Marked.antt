-- When a record meets a condition that asks of marks (profile).
use Rattle.std.specs.Prelude.{◌≡◌, ℕ, ◌+◌, ◌<◌, ◌≤◌, Bool, false, true, ◌||◌, List, slice_get, Option, Some, None, MatchOption, is_some}
use Rattle.access_marks.specs.declared.marks.Marks.{Marks}
use Rattle.board_core.specs.History.{Event}
use Rattle.condition_script.specs.declared.items.Item.{Item}
use Rattle.condition_script.specs.declared.items.Item.TheVariants.{Word}
use Rattle.condition_script.specs.declared.marks.Mark.{Mark}
use Rattle.condition_script.specs.declared.marks.Mark.TheVariants.{Missed, Stale, Unfirm, Unlenient, Unsteady}
use Rattle.condition_script.specs.declared.names.Name.TheVariants as names
use Rattle.condition_script.specs.declared.patterns.Pattern.{Pattern}
use Rattle.condition_script.specs.declared.rules.Ending.{Ending}
use Rattle.condition_script.specs.declared.rules.Rule.{Rule}
use Rattle.condition_script.specs.declared.rules.Rule.TheVariants.{Never, NeverAfter, OfSome, Each, End, Before, CanEnd}
use Rattle.conditions.specs.Patterns.{FitsReply, FitsStep}
use Rattle.conditions.specs.Rules.{IsNamedIn}

-- ---- patterns

-- whether an access has a mark
abbrev pub told_mark : Mark → Marks → Bool
told_mark Stale marks = marks.stale
told_mark Missed marks = marks.missed
told_mark Unsteady marks = marks.unsteady
told_mark Unfirm marks = marks.unfirm
told_mark Unlenient marks = marks.unlenient

-- the mark that a word is
abbrev pub mark_in : Option (Option Item) → Option Mark
mark_in (Some (Some (Word (names.Mark mark)))) = Some mark
mark_in word = None

-- the mark in the place of a pattern's reply, if there is one
abbrev pub mark_of : Pattern → Option Mark
mark_of p = mark_in (slice_get p.reply.items 0)

-- The mark is the step's, or, without a mark, the reply fits.
abbrev pub FitsMark : Option Mark → Pattern → Event → Marks → Type 0
FitsMark None p e marks = FitsReply p e
FitsMark (Some mark) p e marks = told_mark mark marks ≡ true

-- The pattern matches a step with these marks.
abbrev pub MatchesWith : Pattern → Event → Marks → Type 0
MatchesWith p e marks = FitsStep p e × FitsMark (mark_of p) p e marks

-- ---- places

-- The pattern matches step k of a record, from 0, the oldest first, with its marks.
pub record IsAtWith (p : Pattern) (events : List Event) (marks : List Marks) (k : ℕ) : Type 0 where
  pub event : Event
  pub of : Marks
  pub happened : slice_get events k ≡ Some event
  pub marked : slice_get marks k ≡ Some of
  pub matches : MatchesWith p event of

-- k is the first place from another on that is such
pub record IsFirstPlace (Is : ℕ → Type 0) (from k : ℕ) : Type 0 where
  pub behind : from ≤ k
  pub here : Is k
  pub none_before : (j : ℕ) → j < k → from ≤ j → ¬ Is j

-- each step whose actor and operation fit a pattern has its mark, or a reply that fits
abbrev pub AnswersFit : Pattern → List Event → List Marks → Type 0
AnswersFit p events marks = (k : ℕ) (e : Event) (m : Marks) → slice_get events k ≡ Some e → slice_get marks k ≡ Some m
    → FitsStep p e → FitsMark (mark_of p) p e m

-- At place k a record has a step whose actor and operation fit a pattern, and which has another mark, or a reply that doesn't fit.
pub record IsUnfitWith (p : Pattern) (events : List Event) (marks : List Marks) (k : ℕ) : Type 0 where
  pub event : Event
  pub of : Marks
  pub happened : slice_get events k ≡ Some event
  pub marked : slice_get marks k ≡ Some of
  pub fits : FitsStep p event
  pub other : ¬ FitsMark (mark_of p) p event of

-- ---- conditions

-- A record with marks meets a condition. The places are those of `Holds`, with the marks.
abbrev pub HoldsWith : Rule → List Event → List Marks → Option Ending → Type 0
HoldsWith (Never p) events marks end = (k : ℕ) → ¬ IsAtWith p events marks k
HoldsWith (NeverAfter p q) events marks end =
    (j k : ℕ) → j < k → IsAtWith q events marks j → ¬ IsAtWith p events marks k
HoldsWith (OfSome p) events marks end = (k : ℕ) × IsAtWith p events marks k
HoldsWith (Each p) events marks end = AnswersFit p events marks
HoldsWith (End ends) events marks end = IsNamedIn ends.items end
HoldsWith (Before p q) events marks end = (j k : ℕ) → IsFirstPlace (IsAtWith p events marks) 0 j
    → IsFirstPlace (IsAtWith q events marks) 0 k → j < k
HoldsWith (CanEnd ends) events marks end = ⊥

-- The place of the first step with which a record with marks fails a condition: of `before` the first that its second pattern
-- matches. There is none if no step fails it.
abbrev pub IsFailingWith : Rule → List Event → List Marks → Option ℕ → Type 0
IsFailingWith (Never p) events marks found =
    MatchOption found ((k : ℕ) → ¬ IsAtWith p events marks k) (IsFirstPlace (IsAtWith p events marks) 0)
IsFailingWith (NeverAfter p q) events marks found =
    MatchOption found ((j k : ℕ) → j < k → IsAtWith q events marks j → ¬ IsAtWith p events marks k)
    (λ k. (j : ℕ) × IsFirstPlace (IsAtWith q events marks) 0 j × IsFirstPlace (IsAtWith p events marks) (j + 1) k)
IsFailingWith (OfSome p) events marks found = found ≡ None
IsFailingWith (Each p) events marks found =
    MatchOption found (AnswersFit p events marks) (IsFirstPlace (IsUnfitWith p events marks) 0)
IsFailingWith (End ends) events marks found = found ≡ None
IsFailingWith (Before p q) events marks found =
    MatchOption found ((k : ℕ) → ¬ IsAtWith q events marks k) (IsFirstPlace (IsAtWith q events marks) 0)
IsFailingWith (CanEnd ends) events marks found = found ≡ None

-- whether a pattern asks of marks
abbrev pub asks : Pattern → Bool
asks p = is_some (mark_of p)

-- whether a condition asks of marks
abbrev pub asks_of_marks : Rule → Bool
asks_of_marks (Never p) = asks p
asks_of_marks (NeverAfter p q) = asks p || asks q
asks_of_marks (OfSome p) = asks p
asks_of_marks (Each p) = asks p
asks_of_marks (End ends) = false
asks_of_marks (Before p q) = asks p || asks q
asks_of_marks (CanEnd ends) = false

-- whether a mark says something of walks
abbrev pub is_of_walks : Option Mark → Bool
is_of_walks None = false
is_of_walks (Some Stale) = false
is_of_walks (Some Missed) = false
is_of_walks (Some Unsteady) = false
is_of_walks (Some Unfirm) = true
is_of_walks (Some Unlenient) = true

-- whether a condition asks which accesses aren't firm or lenient
abbrev pub asks_of_walks : Rule → Bool
asks_of_walks (Never p) = is_of_walks (mark_of p)
asks_of_walks (NeverAfter p q) = is_of_walks (mark_of p) || is_of_walks (mark_of q)
asks_of_walks (OfSome p) = is_of_walks (mark_of p)
asks_of_walks (Each p) = is_of_walks (mark_of p)
asks_of_walks (End ends) = false
asks_of_walks (Before p q) = is_of_walks (mark_of p) || is_of_walks (mark_of q)
asks_of_walks (CanEnd ends) = false
