-- The steps that a program's actors can take on their own (profile).
use Rattle.std.specs.Prelude.{◌≡◌, ◌⊎◌, ℕ, zero, suc, ◌+◌, Bool, true, false, not, ◌&&◌, nat_le, nat_lt, if◌then◌else◌, List, [], ◌∷◌, ◌++◌, map, slice_get, Option, Some, None, option_map}
use Rattle.std.specs.List.{Contains}
use Rattle.interrupts.specs.Timing.{last_time}
use Rattle.board_core.specs.Opening.{Opening}
use Rattle.board_terms.specs.declared.op.Actor.{Actor}
use Rattle.board_terms.specs.declared.op.Actor.TheVariants as actors
use Rattle.board_terms.specs.declared.op.Op.{Op}
use Rattle.board_terms.specs.declared.op.Op.TheVariants as ops
use Rattle.board_terms.specs.declared.reply.Refusal.{Refusal}
use Rattle.board_terms.specs.declared.reply.Refusal.TheVariants as refusals
use Rattle.board_core.specs.History.{Event}
use Rattle.board_core.specs.Interrupts.{time}
use Rattle.board_core.specs.Refusals.{has_nothing_to_do, is_out_of_phase, situation, Situation}
use Rattle.board_core.specs.Resets.{is_off}
use Rattle.guest_script.specs.Grammar.{Content, guest}
use Rattle.guest_programs.specs.declared.blocks.Program.{Program}
use Rattle.guest_programs.specs.Blocks.{in_blocks}
use Rattle.guest_programs.specs.Guests.{Next, next_op}
use Rattle.guest_programs.specs.Programs.{blocks_of, ticks_of}
use Rattle.guest_programs.specs.declared.steps.Step.{Step}
use Rattle.guest_programs.specs.declared.steps.Step.TheVariants as takes

-- what a program's actors do: the guests, and the clock
pub record Task : Type 0 where
  pub guests : Next
  pub ticks : List ℕ

-- What the actors of a script do.
abbrev pub task_of : Content → Task
task_of content = record { guests = blocks_of content; ticks = ticks_of content }

-- What the actors of a program do.
abbrev pub task_in : Program → Task
task_in program = record { guests = in_blocks (map guest program.blocks.now); ticks = program.ticks.now }

abbrev pub is_clock : Actor → Bool
is_clock (actors.Hart h) = false
is_clock actors.Clock = true

-- the number of ticks that the clock made
abbrev pub ticked : List Event → ℕ
ticked [] = 0
ticked (e ∷ past) = if is_clock e.actor then suc (ticked past) else ticked past

-- The clock's next tick: the one after those that it made.
abbrev pub next_tick : List ℕ → List Event → Option ℕ
next_tick ticks past = slice_get ticks (ticked past)

-- An operation of a hart's own: its firmware's, or its guest's next.
abbrev pub IsOwn : Option Op → Op → Type 0
IsOwn guest op = (op ≡ ops.Serve) ⊎ (op ≡ ops.Poll) ⊎ (op ≡ ops.Advance) ⊎ (guest ≡ Some op)

-- An operation is an actor's own: a hart's firmware's or its guest's next, or the clock's next tick.
abbrev pub IsActorsOwn : Task → List Event → Actor → Op → Type 0
IsActorsOwn p past (actors.Hart h) op = IsOwn (next_op p.guests past h) op
IsActorsOwn p past actors.Clock op = option_map ops.Tick (next_tick p.ticks past) ≡ Some op

-- Each event was its actor's own at its time: each hart follows its guest, and the clock its ticks.
abbrev pub AreOwn : Task → List Event → Type 0
AreOwn p [] = Unit {0}
AreOwn p (e ∷ past) = IsActorsOwn p past e.actor e.op × AreOwn p past

-- ---- the set of steps

-- whether a hart's situation allows an operation
abbrev pub accepts : Situation → Op → Bool
accepts s op = not (is_out_of_phase op s) && not (has_nothing_to_do op s)

abbrev pub accepts_next : Situation → Option Op → Bool
accepts_next s None = false
accepts_next s (Some op) = accepts s op

-- whether an operation with this refusal, if any, would be accepted if the history had room
abbrev pub happens_with_room : Option Refusal → Bool
happens_with_room None = true
happens_with_room (Some refusals.HistoryFull) = true
happens_with_room (Some r) = false

-- a step, if it can be taken
abbrev pub if_so : Bool → Step → List Step
if_so can step = if can then step ∷ [] else []

-- the steps of hart h
abbrev pub hart_steps : Situation → (guest : Option Op) → (h : ℕ) → List Step
hart_steps s guest h =
    if_so (accepts s ops.Serve) (takes.Serve h)
    ++ if_so (accepts s ops.Poll) (takes.Poll h)
    ++ if_so (accepts s ops.Advance) (takes.Advance h)
    ++ if_so (accepts_next s guest) (takes.Guest h)

-- the steps of the harts below n
abbrev pub harts_steps : Opening → Next → List Event → (n : ℕ) → List Step
harts_steps o guests past zero = []
harts_steps o guests past (suc h) =
    harts_steps o guests past h ++ hart_steps (situation o past h) (next_op guests past h) h

-- whether there is a next tick for which the time has room
abbrev pub can_tick : Opening → List Event → Option ℕ → Bool
can_tick o past None = false
can_tick o past (Some n) = nat_le (time o past + n) last_time

-- All steps that can be taken after a history: none with the power off. They need no room in the history.
unfoldable pub steps : Opening → Task → List Event → List Step
steps o p past =
    if is_off o past then []
    else harts_steps o p.guests past o.config.harts ++ if_so (can_tick o past (next_tick p.ticks past)) takes.Tick

-- the actor that takes a step
abbrev pub actor_of : Step → Actor
actor_of (takes.Serve h) = actors.Hart h
actor_of (takes.Poll h) = actors.Hart h
actor_of (takes.Advance h) = actors.Hart h
actor_of (takes.Guest h) = actors.Hart h
actor_of takes.Tick = actors.Clock

-- the operation of a step: for a guest's step its next operation, of an existing hart
abbrev pub op_of : Opening → Task → List Event → Step → Option Op
op_of o p past (takes.Serve h) = Some ops.Serve
op_of o p past (takes.Poll h) = Some ops.Poll
op_of o p past (takes.Advance h) = Some ops.Advance
op_of o p past (takes.Guest h) = if nat_lt h o.config.harts then next_op p.guests past h else None
op_of o p past takes.Tick = option_map ops.Tick (next_tick p.ticks past)

-- A step that can be taken is this actor's, and has this operation.
abbrev pub IsAmong : Opening → Task → List Event → Actor → Op → Type 0
IsAmong o p past actor op =
    (step : Step) × Contains (steps o p past) step × (actor_of step ≡ actor) × (op_of o p past step ≡ Some op)
