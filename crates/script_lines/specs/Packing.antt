-- The packed form of a line: its shape, and its numbers among those of all lines (profile).
use Rattle.std.specs.Prelude.{ℕ, suc, ◌<◌, true, false, ◌&&◌, if◌then◌else◌, ◌==◌, List, [], ◌∷◌, ◌++◌, take, length, slice_index_or, Option, Some, None}
use Rattle.std.specs.Int.{w64, cast_signed, cast_unsigned}
use Rattle.amo.specs.Amos.{numbers}
use Rattle.amo.specs.Names.{amo_name, made_of}
use Rattle.board_terms.specs.declared.op.Actor.{Actor}
use Rattle.board_terms.specs.declared.op.Actor.TheVariants.{Hart, Clock}
use Rattle.board_terms.specs.declared.op.Op.{Op}
use Rattle.board_terms.specs.declared.op.Op.TheVariants as ops
use Rattle.script_lines.specs.declared.line_shape.DoingShape.{DoingShape}
use Rattle.script_lines.specs.declared.line_shape.DoingShape.TheVariants as doings
use Rattle.script_lines.specs.declared.line_shape.ActorShape.{ActorShape}
use Rattle.script_lines.specs.declared.line_shape.ActorShape.TheVariants as actors
use Rattle.script_lines.specs.declared.op_name.OpName.{OpName}
use Rattle.script_lines.specs.declared.op_name.OpName.TheVariants as names
use Rattle.script_lines.specs.declared.op_shape.OpShape.{OpShape}
use Rattle.script_lines.specs.declared.op_shape.OpShape.TheVariants.{Ecall, Load, Store, Fetch, WriteSatp, WriteSie, SstatusOff, SstatusOn, ReadSip, ClearSsip, SfenceAll, SfenceAddress, SfenceAsid, SfenceBoth, FenceI, Wfi, Amo, Poll, Serve, Advance, Tick}
use Rattle.script_lines.specs.declared.said.Said.{Said}
use Rattle.script_lines.specs.declared.said.Said.TheVariants as says
use Rattle.script_lines.specs.declared.said_name.SaidName.{SaidName}
use Rattle.script_lines.specs.declared.said_name.SaidName.TheVariants as saids
use Rattle.script_lines.specs.declared.said_shape.SaidShape.{SaidShape}
use Rattle.script_lines.specs.declared.said_shape.SaidShape.TheVariants as shapes
use Rattle.script_lines.specs.declared.script.Doing.{Doing}
use Rattle.script_lines.specs.declared.script.Doing.TheVariants.{Step, Cut}

-- the number at a place, which is 0 past the end
abbrev pub number_from : List ℕ → ℕ → ℕ
number_from ns i = slice_index_or ns i 0

-- ---- operations

-- the number of numbers before the trailing zeros
abbrev pub used : List ℕ → ℕ
used [] = 0
used (n ∷ ns) = if (used ns == 0) && (n == 0) then 0 else suc (used ns)

-- The shape of an operation: the operation without its numbers.
abbrev pub shape_of : Op → OpShape
shape_of (ops.Ecall regs) = Ecall
shape_of (ops.Load va) = Load
shape_of (ops.Store va value) = Store
shape_of (ops.Fetch va) = Fetch
shape_of (ops.WriteSatp value) = WriteSatp
shape_of (ops.WriteSie value) = WriteSie
shape_of (ops.WriteSstatusSie false) = SstatusOff
shape_of (ops.WriteSstatusSie true) = SstatusOn
shape_of ops.ReadSip = ReadSip
shape_of ops.ClearSsip = ClearSsip
shape_of (ops.Sfence None None) = SfenceAll
shape_of (ops.Sfence (Some va) None) = SfenceAddress
shape_of (ops.Sfence None (Some asid)) = SfenceAsid
shape_of (ops.Sfence (Some va) (Some asid)) = SfenceBoth
shape_of ops.FenceI = FenceI
shape_of ops.Wfi = Wfi
shape_of (ops.Amo at amo) = Amo (amo_name amo)
shape_of ops.Poll = Poll
shape_of ops.Serve = Serve
shape_of ops.Advance = Advance
shape_of (ops.Tick n) = Tick

-- the shape of an operation of this name, if no number is a dash
abbrev pub named_shape : OpName → OpShape
named_shape names.Ecall = Ecall
named_shape names.Load = Load
named_shape names.Store = Store
named_shape names.Fetch = Fetch
named_shape names.Satp = WriteSatp
named_shape names.Sie = WriteSie
named_shape names.Sstatus = SstatusOff
named_shape names.Sip = ReadSip
named_shape names.Clearssip = ClearSsip
named_shape names.Sfence = SfenceBoth
named_shape names.Fencei = FenceI
named_shape names.Wfi = Wfi
named_shape (names.Amo name) = Amo name
named_shape names.Poll = Poll
named_shape names.Serve = Serve
named_shape names.Advance = Advance
named_shape names.Tick = Tick

-- the list of a number, which is empty if it is absent
abbrev pub given : Option ℕ → List ℕ
given None = []
given (Some n) = n ∷ []

-- an operation's numbers, of a call without trailing arguments that are 0
abbrev pub op_numbers : Op → List ℕ
op_numbers (ops.Ecall regs) = regs.eid ∷ regs.fid ∷ take (used regs.a) regs.a
op_numbers (ops.Load va) = va ∷ []
op_numbers (ops.Store va value) = va ∷ value ∷ []
op_numbers (ops.Fetch va) = va ∷ []
op_numbers (ops.WriteSatp value) = value ∷ []
op_numbers (ops.WriteSie value) = value ∷ []
op_numbers (ops.WriteSstatusSie value) = []
op_numbers ops.ReadSip = []
op_numbers ops.ClearSsip = []
op_numbers (ops.Sfence va asid) = given va ++ given asid
op_numbers ops.FenceI = []
op_numbers ops.Wfi = []
op_numbers (ops.Amo at amo) = at ∷ numbers amo
op_numbers ops.Poll = []
op_numbers ops.Serve = []
op_numbers ops.Advance = []
op_numbers (ops.Tick n) = n ∷ []

-- the operation of a shape and its numbers
abbrev pub op_made : OpShape → List ℕ → Op
op_made Ecall ns = ops.Ecall (record {
  eid = number_from ns 0;
  fid = number_from ns 1;
  a = number_from ns 2 ∷ number_from ns 3 ∷ number_from ns 4 ∷ number_from ns 5 ∷ number_from ns 6 ∷ number_from ns 7
      ∷ [];
})
op_made Load ns = ops.Load (number_from ns 0)
op_made Store ns = ops.Store (number_from ns 0) (number_from ns 1)
op_made Fetch ns = ops.Fetch (number_from ns 0)
op_made WriteSatp ns = ops.WriteSatp (number_from ns 0)
op_made WriteSie ns = ops.WriteSie (number_from ns 0)
op_made SstatusOff ns = ops.WriteSstatusSie false
op_made SstatusOn ns = ops.WriteSstatusSie true
op_made ReadSip ns = ops.ReadSip
op_made ClearSsip ns = ops.ClearSsip
op_made SfenceAll ns = ops.Sfence None None
op_made SfenceAddress ns = ops.Sfence (Some (number_from ns 0)) None
op_made SfenceAsid ns = ops.Sfence None (Some (number_from ns 0))
op_made SfenceBoth ns = ops.Sfence (Some (number_from ns 0)) (Some (number_from ns 1))
op_made FenceI ns = ops.FenceI
op_made Wfi ns = ops.Wfi
op_made (Amo name) ns = ops.Amo (number_from ns 0) (made_of name (number_from ns 1) (number_from ns 2))
op_made Poll ns = ops.Poll
op_made Serve ns = ops.Serve
op_made Advance ns = ops.Advance
op_made Tick ns = ops.Tick (number_from ns 0)

-- the number of an operation's numbers that are stored: of a call those before the trailing zeros
abbrev pub kept_count : OpShape → List ℕ → ℕ
kept_count Ecall ns = used ns
kept_count shape ns = length ns

-- ---- what is said

-- The shape of a reply or refusal: without its numbers.
abbrev pub said_shape_of : Option Said → SaidShape
said_shape_of None = shapes.Nothing
said_shape_of (Some (says.Ret error value)) = shapes.Ret
said_shape_of (Some says.Waiting) = shapes.Waiting
said_shape_of (Some says.Gone) = shapes.Gone
said_shape_of (Some (says.Entry addr hart opaque)) = shapes.Entry
said_shape_of (Some (says.Value value)) = shapes.Value
said_shape_of (Some (says.Fault cause)) = shapes.Fault
said_shape_of (Some says.Served) = shapes.Served
said_shape_of (Some (says.Moved state)) = shapes.Moved
said_shape_of (Some says.Done) = shapes.Done
said_shape_of (Some (says.Refused n)) = shapes.Refused

-- the shape of a reply or refusal of this name
abbrev pub named_said_shape : SaidName → SaidShape
named_said_shape saids.Ret = shapes.Ret
named_said_shape saids.Waiting = shapes.Waiting
named_said_shape saids.Gone = shapes.Gone
named_said_shape saids.Entry = shapes.Entry
named_said_shape saids.Value = shapes.Value
named_said_shape saids.Fault = shapes.Fault
named_said_shape saids.Served = shapes.Served
named_said_shape saids.Moved = shapes.Moved
named_said_shape saids.Done = shapes.Done
named_said_shape saids.Refused = shapes.Refused

-- the numbers of a reply or refusal; an error by its bits
abbrev pub said_numbers : Option Said → List ℕ
said_numbers None = []
said_numbers (Some (says.Ret error value)) = cast_unsigned w64 error ∷ value ∷ []
said_numbers (Some says.Waiting) = []
said_numbers (Some says.Gone) = []
said_numbers (Some (says.Entry addr hart opaque)) = addr ∷ hart ∷ opaque ∷ []
said_numbers (Some (says.Value value)) = value ∷ []
said_numbers (Some (says.Fault cause)) = cause ∷ []
said_numbers (Some says.Served) = []
said_numbers (Some (says.Moved state)) = state ∷ []
said_numbers (Some says.Done) = []
said_numbers (Some (says.Refused n)) = n ∷ []

-- The reply or refusal of a shape and its numbers.
abbrev pub said_made : SaidShape → List ℕ → Option Said
said_made shapes.Nothing ns = None
said_made shapes.Ret ns = Some (says.Ret (cast_signed w64 (number_from ns 0)) (number_from ns 1))
said_made shapes.Waiting ns = Some says.Waiting
said_made shapes.Gone ns = Some says.Gone
said_made shapes.Entry ns = Some (says.Entry (number_from ns 0) (number_from ns 1) (number_from ns 2))
said_made shapes.Value ns = Some (says.Value (number_from ns 0))
said_made shapes.Fault ns = Some (says.Fault (number_from ns 0))
said_made shapes.Served ns = Some says.Served
said_made shapes.Moved ns = Some (says.Moved (number_from ns 0))
said_made shapes.Done ns = Some says.Done
said_made shapes.Refused ns = Some (says.Refused (number_from ns 0))

-- the number of a reply's or refusal's numbers
abbrev pub said_count : SaidShape → ℕ
said_count shapes.Nothing = 0
said_count shapes.Ret = 2
said_count shapes.Waiting = 0
said_count shapes.Gone = 0
said_count shapes.Entry = 3
said_count shapes.Value = 1
said_count shapes.Fault = 1
said_count shapes.Served = 0
said_count shapes.Moved = 1
said_count shapes.Done = 0
said_count shapes.Refused = 1

-- ---- a line

-- the actor of a shape
abbrev pub actor_made : ActorShape → Actor
actor_made (actors.Hart h) = Hart h
actor_made actors.Clock = Clock

-- an actor fits: a hart's id is at most 127
abbrev pub FitsKept : Actor → Type 0
FitsKept (Hart h) = h < 128
FitsKept Clock = Unit {0}

-- the numbers of an action: its operation's; a cut has none
abbrev pub doing_numbers : Doing → List ℕ
doing_numbers (Step actor op) = op_numbers op
doing_numbers Cut = []

-- the action of a shape and its numbers
abbrev pub doing_made : DoingShape → List ℕ → Doing
doing_made (doings.Step actor op) ns = Step (actor_made actor) (op_made op ns)
doing_made doings.Cut ns = Cut

-- an action fits into the packed form
abbrev pub DoingFits : Doing → Type 0
DoingFits (Step actor op) = FitsKept actor
DoingFits Cut = Unit {0}
