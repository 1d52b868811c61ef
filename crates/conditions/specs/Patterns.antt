-- Which steps a pattern matches (profile).
use Rattle.std.specs.Prelude.{◌≡◌, ℕ, List, slice_get, Option, Some, None}
use Rattle.board_core.specs.History.{Event}
use Rattle.condition_script.specs.declared.items.Item.{Item}
use Rattle.condition_script.specs.declared.patterns.Pattern.{Pattern}
use Rattle.conditions.specs.Items.{reply_items, step_items}

-- A word of a pattern fits the word in its place, if there is one: `_` fits any, another word only itself.
abbrev pub FitsWord : Option Item → Option Item → Type 0
FitsWord wanted None = ⊥
FitsWord None (Some found) = Unit {0}
FitsWord (Some wanted) (Some found) = wanted ≡ found

-- The words of a pattern fit words, place by place. The words behind them may be any.
abbrev pub Fits : List (Option Item) → List Item → Type 0
Fits pattern items = (k : ℕ) (wanted : Option Item) → slice_get pattern k ≡ Some wanted
    → FitsWord wanted (slice_get items k)

-- the actor and the operation of a step fit a pattern
abbrev pub FitsStep : Pattern → Event → Type 0
FitsStep p e = Fits p.step.items (step_items e)

-- The reply of a step fits a pattern.
abbrev pub FitsReply : Pattern → Event → Type 0
FitsReply p e = Fits p.reply.items (reply_items e)

-- The pattern matches the step.
abbrev pub Matches : Pattern → Event → Type 0
Matches p e = FitsStep p e × FitsReply p e
