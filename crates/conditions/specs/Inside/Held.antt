-- A word of a pattern that is none of its misfits.
use Rattle.std.specs.Prelude.{◌≡◌, ℕ, Bool, if◌then◌else◌, Option, Some, None}
use Rattle.script_lines.specs.declared.op_name.OpName.{OpName}
use Rattle.script_lines.specs.declared.op_name.OpName.TheVariants.{Tick}
use Rattle.script_lines.specs.declared.said_name.SaidName.{SaidName}
use Rattle.condition_script.specs.declared.items.Item.{Item}
use Rattle.condition_script.specs.declared.items.Item.TheVariants.{Word}
use Rattle.conditions.specs.declared.misfits.Misfit.{Misfit}
use Rattle.conditions.specs.declared.misfits.Misfit.TheVariants.{NoAnswer, NoReply}
use Rattle.condition_script.specs.declared.names.Name.TheVariants.{Op}
use Rattle.condition_script.specs.declared.patterns.Pattern.{Pattern}
use Rattle.conditions.specs.Misfits.{CanAnswer, CanDo, IsWrongInReply, OpCanHave, IsWordAt, is_reply_to}

-- the operation can have the word in this place, if there is one
abbrev pub HasHeldAt : Pattern → OpName → ℕ → Type 0
HasHeldAt p op place = (item : Item) → IsWordAt p.step.items place item → OpCanHave op item

-- the word in this place is not wrong behind the reply, if there is one
abbrev pub HasRightAt : ℕ → Pattern → SaidName → ℕ → Type 0
HasRightAt harts p said place =
    (item : Item) → IsWordAt p.reply.items place item → (any : Misfit) → ¬ IsWrongInReply harts p said place item any

-- what is found of an operation and a reply, where a pattern has both
abbrev pub no_reply : Option OpName → Option SaidName → Option Misfit
no_reply (Some op) (Some said) = if is_reply_to op said then None else Some (NoReply op said)
no_reply (Some op) None = None
no_reply None said = None

-- the actor can do the pattern's operation, if there is one
abbrev pub IsDoneBy : Pattern → Item → Type 0
IsDoneBy p actor = (op : OpName) → IsWordAt p.step.items 1 (Word (Op op)) → CanDo actor op

-- what a pattern means, by whether its actor is the clock, and by the operation that it names
abbrev pub meant : (is_clocks : Bool) → Option OpName → Option OpName
meant is_clocks named = if is_clocks then Some Tick else named

-- the operation can have the word in this reply, if there is an operation
abbrev pub HasAnswer : Option OpName → SaidName → Item → Type 0
HasAnswer op said item = (o : OpName) → op ≡ Some o → CanAnswer o said item

-- there is an operation, and it can't have the word in this reply
abbrev pub HasNoAnswer : Option OpName → SaidName → Item → Misfit → Type 0
HasNoAnswer op said item misfit = (o : OpName) × (op ≡ Some o) × (¬ CanAnswer o said item) × (misfit ≡ NoAnswer o said item)
