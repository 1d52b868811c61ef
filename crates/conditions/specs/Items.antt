-- An accepted step as words (profile).
use Rattle.std.specs.Prelude.{ℕ, Bool, true, false, List, [], ◌∷◌, map, Option, Some, None, Ok}
use Rattle.amo.specs.Amos.{numbers}
use Rattle.board_terms.specs.declared.op.Actor.{Actor}
use Rattle.board_terms.specs.declared.op.Actor.TheVariants as actors
use Rattle.board_terms.specs.declared.op.Op.{Op}
use Rattle.board_terms.specs.declared.op.Op.TheVariants as ops
use Rattle.board_core.specs.History.{Event}
use Rattle.script_lines.specs.Agreeing.{said_of}
use Rattle.script_lines.specs.declared.said.Said.{Said as Saying}
use Rattle.script_lines.specs.declared.said.Said.TheVariants as says
use Rattle.script_lines.specs.Names.{name_of, name_of_said}
use Rattle.condition_script.specs.declared.items.Item.{Item}
use Rattle.condition_script.specs.declared.items.Item.TheVariants.{Word, Number, Absent}
use Rattle.condition_script.specs.declared.names.Name.TheVariants as names
use Rattle.condition_script.specs.Grammar.{signed_item}

abbrev pub actor_item : Actor → Item
actor_item (actors.Hart h) = Number h
actor_item actors.Clock = Word names.Clock

abbrev pub number_or_dash : Option ℕ → Item
number_or_dash None = Absent
number_or_dash (Some n) = Number n

abbrev pub bit : Bool → ℕ
bit true = 1
bit false = 0

-- an operation's numbers; for a call all of its registers
abbrev pub op_arguments : Op → List Item
op_arguments (ops.Ecall regs) = Number regs.eid ∷ Number regs.fid ∷ map Number regs.a
op_arguments (ops.Load va) = Number va ∷ []
op_arguments (ops.Store va value) = Number va ∷ Number value ∷ []
op_arguments (ops.Fetch va) = Number va ∷ []
op_arguments (ops.Amo at amo) = Number at ∷ map Number (numbers amo)
op_arguments (ops.WriteSatp value) = Number value ∷ []
op_arguments (ops.WriteSie value) = Number value ∷ []
op_arguments (ops.WriteSstatusSie value) = Number (bit value) ∷ []
op_arguments ops.ReadSip = []
op_arguments ops.ClearSsip = []
op_arguments ops.Wfi = []
op_arguments (ops.Sfence va asid) = number_or_dash va ∷ number_or_dash asid ∷ []
op_arguments ops.FenceI = []
op_arguments ops.Poll = []
op_arguments ops.Serve = []
op_arguments ops.Advance = []
op_arguments (ops.Tick n) = Number n ∷ []

-- an operation: its name, and its numbers
abbrev pub op_items : Op → List Item
op_items op = Word (names.Op (name_of op)) ∷ op_arguments op

-- a reply's numbers
abbrev pub said_arguments : Saying → List Item
said_arguments (says.Ret error value) = signed_item error ∷ Number value ∷ []
said_arguments says.Waiting = []
said_arguments says.Gone = []
said_arguments (says.Entry addr hart opaque) = Number addr ∷ Number hart ∷ Number opaque ∷ []
said_arguments (says.Value value) = Number value ∷ []
said_arguments (says.Fault cause) = Number cause ∷ []
said_arguments says.Served = []
said_arguments (says.Moved state) = Number state ∷ []
said_arguments says.Done = []
said_arguments (says.Refused refusal) = Number refusal ∷ []

-- a reply: its name, and its numbers
abbrev pub said_items : Saying → List Item
said_items said = Word (names.Said (name_of_said said)) ∷ said_arguments said

-- the words of a step before its arrow, and those after it
abbrev pub step_items : Event → List Item
step_items e = actor_item e.actor ∷ op_items e.op

abbrev pub reply_items : Event → List Item
reply_items e = said_items (said_of (Ok e.reply))
