-- What a board answers has room in an event.
use Rattle.std.proofs.Common.{◌<◌, ◌^◌, ℕ, Bool, true, false, List, refl, arith, FitsSigned, w8}
use Rattle.std.specs.Prelude.{pos, Option, Some, None, Result, Ok, Err, if◌then◌else◌}
use Rattle.amo.specs.declared.amo.Amo.{Amo}
use Rattle.amo.specs.Amos.{reads, amo_size}
use Rattle.amo.specs.Parts.{word_at}
use Rattle.sbi_abi.specs.declared.answer.SbiError.{SbiError}
use Rattle.sbi_abi.specs.declared.answer.SbiError.TheVariants as errors
use Rattle.sbi_abi.specs.declared.answer.SbiError.TheVariants.{Failed, InvalidAddress}
use Rattle.sbi_abi.specs.declared.call.Call.{Call}
use Rattle.sbi_abi.specs.declared.call.Call.TheVariants as calls
use Rattle.sbi_abi.specs.declared.call.Regs.{Regs}
use Rattle.sbi_abi.specs.declared.call.base.BaseCall.{BaseCall}
use Rattle.sbi_abi.specs.declared.call.base.BaseCall.TheVariants as bases
use Rattle.sbi_abi.specs.declared.call.hsm.HsmCall.{HsmCall}
use Rattle.sbi_abi.specs.declared.call.hsm.HsmCall.TheVariants.{HartStart, HartStop, HartGetStatus, HartSuspend}
use Rattle.sbi_abi.specs.declared.call.ipi.IpiCall.TheVariants.{SendIpi}
use Rattle.sbi_abi.specs.declared.call.srst.SrstCall.TheVariants.{SystemReset}
use Rattle.sbi_abi.specs.declared.call.time.TimeCall.TheVariants.{SetTimer}
use Rattle.sbi_abi.specs.declared.reset.Reset.{Reset}
use Rattle.sbi_abi.specs.declared.suspend.SuspendKind.{SuspendKind}
use Rattle.sbi_abi.specs.declared.suspend.SuspendKind.TheVariants.{Retentive, NonRetentive}
use Rattle.sbi_abi.specs.Calls.{call_of, is_extension_id}
use Rattle.sbi_abi.specs.Errors.{error_number}
use Rattle.hart_access.specs.declared.accesses.Access.{Access}
use Rattle.hart_access.specs.declared.accesses.Access.TheVariants as accesses
use Rattle.hsm.specs.declared.hart.HartState.{HartState}
use Rattle.hsm.specs.declared.hart.HartState.TheVariants as states
use Rattle.hsm.specs.declared.hart.EntryPoint.{EntryPoint}
use Rattle.hsm.specs.States.{state_number}
use Rattle.hart_mask.specs.HartList.{targets_of}
use Rattle.tlb_model.specs.declared.fence.Flush.{Flush}
use Rattle.sv39.specs.declared.cause.Cause.{Cause}
use Rattle.board_rules.specs.Opening.{Opening}
use Rattle.board_terms.specs.declared.config.Config.{Config}
use Rattle.board_terms.specs.Limits.{is_start_address}
use Rattle.board_terms.specs.declared.op.Actor.TheVariants.{Hart}
use Rattle.board_terms.specs.declared.op.Op.{Op}
use Rattle.board_terms.specs.declared.op.Op.TheVariants as ops
use Rattle.board_terms.specs.declared.reply.Reply.{Reply}
use Rattle.board_terms.specs.declared.reply.Reply.TheVariants.{Value, Done}
use Rattle.board_rules.specs.Accesses.{access_reply_of}
use Rattle.board_rules.specs.Csrs.{sstatus_sie}
use Rattle.board_rules.specs.Calls.{reply_to}
use Rattle.board_rules.specs.Calls.Base.{base_reply}
use Rattle.board_rules.specs.Calls.Hsm.{hsm_reply, suspend_reply}
use Rattle.board_rules.specs.Calls.Rfence.{fence_reply_to, remote_by_rfence}
use Rattle.board_rules.specs.Calls.Srst.{reset_reply}
use Rattle.board_rules.specs.History.{Event, access_op}
use Rattle.board_rules.specs.Room.{FitsBeside, IsByteError, IsOwnEntry, IsShort, first_of}
use Rattle.board_rules.specs.Replies.{advance_reply, reply, resume_reply}
use Rattle.board_rules.specs.Returns.{CallReply, Leaves, Returns, Waits, as_reply, unless}
use Rattle.board_rules.specs.Starts.{Start, last_start}
use Rattle.board_rules.specs.States.{state}
use Rattle.board_rules.specs.Suspends.{resume_point}

error_short : (error : SbiError) → FitsSigned w8 (error_number error)
error_short errors.Failed = record { sfits = omega arith }
error_short errors.NotSupported = record { sfits = omega arith }
error_short errors.InvalidParam = record { sfits = omega arith }
error_short errors.Denied = record { sfits = omega arith }
error_short errors.InvalidAddress = record { sfits = omega arith }
error_short errors.AlreadyAvailable = record { sfits = omega arith }
error_short errors.AlreadyStarted = record { sfits = omega arith }
error_short errors.AlreadyStopped = record { sfits = omega arith }

zero_short : FitsSigned w8 (pos 0)
zero_short = record { sfits = omega arith }

unless_short : (error : Option SbiError) (value : ℕ) → FitsSigned w8 (unless error value).error
unless_short None value = zero_short
unless_short (Some error) value = error_short error

-- ---- the value of a call

-- a value of 32 bits, where a call returns
abbrev IsFew : CallReply → Type 0
IsFew (Returns error value) = value < 2 ^ 32
IsFew Waits = Unit {0}
IsFew Leaves = Unit {0}

either_few : (is : Bool) (first other : CallReply) → IsFew first → IsFew other → IsFew (if is then first else other)
either_few true first other few others = few
either_few false first other few others = others

base_few : (call : BaseCall) → IsFew (base_reply call)
base_few bases.GetSpecVersion = omega arith
base_few bases.GetImplId = omega arith
base_few bases.GetImplVersion = omega arith
base_few (bases.ProbeExtension eid) = probed (is_extension_id eid)
  where
    probed : (is : Bool) → (if is then 1 else 0) < 2 ^ 32
    probed true = omega arith
    probed false = omega arith
base_few bases.GetMvendorid = omega arith
base_few bases.GetMarchid = omega arith
base_few bases.GetMimpid = omega arith

state_few : (s : HartState) → state_number s < 2 ^ 32
state_few states.Started = omega arith
state_few states.Stopped = omega arith
state_few states.StartPending = omega arith
state_few states.StopPending = omega arith
state_few states.Suspended = omega arith
state_few states.SuspendPending = omega arith
state_few states.ResumePending = omega arith

suspend_few : (c : Config) (kind : Result SuspendKind SbiError) (addr : ℕ) → IsFew (suspend_reply c kind addr)
suspend_few c (Err error) addr = omega arith
suspend_few c (Ok Retentive) addr = tt
suspend_few c (Ok NonRetentive) addr = either_few (is_start_address c.pages addr) Leaves (Returns (Some InvalidAddress) 0) tt (omega arith)

hsm_few : (c : Config) (sstatus_sie : Bool) (state : ℕ → HartState) (call : HsmCall) → IsFew (hsm_reply c sstatus_sie state call)
hsm_few c sstatus_sie state (HartStart t addr opaque) = omega arith
hsm_few c sstatus_sie state HartStop = either_few sstatus_sie (Returns (Some Failed) 0) Leaves (omega arith) tt
hsm_few c sstatus_sie state (HartGetStatus t) = state_few (state t)
hsm_few c sstatus_sie state (HartSuspend kind addr opaque) = suspend_few c kind addr

fence_few : (harts : Option (List ℕ)) (flush : Result Flush SbiError) → IsFew (fence_reply_to harts flush)
fence_few None flush = omega arith
fence_few (Some harts) (Err error) = omega arith
fence_few (Some harts) (Ok flush) = tt

reset_few : (reset : Result Reset SbiError) → IsFew (reset_reply reset)
reset_few (Err error) = omega arith
reset_few (Ok reset) = tt

call_few : (c : Config) (sstatus_sie : Bool) (state : ℕ → HartState) (call : Call) → IsFew (reply_to c sstatus_sie state call)
call_few c sstatus_sie state (calls.Base call) = base_few call
call_few c sstatus_sie state (calls.Time (SetTimer deadline)) = omega arith
call_few c sstatus_sie state (calls.Ipi (SendIpi mask base)) = omega arith
call_few c sstatus_sie state (calls.Rfence call) = let remote = remote_by_rfence c call in fence_few (targets_of remote.mask remote.base c.harts) remote.flush
call_few c sstatus_sie state (calls.Hsm call) = hsm_few c sstatus_sie state call
call_few c sstatus_sie state (calls.Srst (SystemReset reset)) = reset_few reset
call_few c sstatus_sie state calls.Unsupported = omega arith

unless_few : (error : Option SbiError) (value : ℕ) → value < 2 ^ 32 → (unless error value).value < 2 ^ 32
unless_few None value few = few
unless_few (Some error) value few = omega arith

-- ---- a reply

module _ (x : ℕ) (op : Op) where
  -- a reply that isn't an entry, whose error is short, and whose first number has room beside its operation
  abbrev HasRoom : Reply → Type 0
  HasRoom r = IsByteError r × IsOwnEntry (Hart x) op r × FitsBeside op (first_of r)

module _ (x : ℕ) where
  call_room : (regs : Regs) (reply : CallReply) → IsFew reply → HasRoom x (ops.Ecall regs) (as_reply reply)
  call_room regs (Returns error value) few = (unless_short error value, tt, unless_few error value few)
  call_room regs Waits few = (tt, tt, omega arith)
  call_room regs Leaves few = (tt, tt, omega arith)

  access_room : (va : ℕ) (access : Access) (result : Result ℕ Cause) → HasRoom x (access_op va access) (access_reply_of access result)
  access_room va accesses.Load (Ok word) = (tt, tt, tt)
  access_room va (accesses.Store value) (Ok word) = (tt, tt, refl)
  access_room va accesses.Fetch (Ok word) = (tt, tt, tt)
  access_room va accesses.Load (Err cause) = (tt, tt, tt)
  access_room va (accesses.Store value) (Err cause) = (tt, tt, refl)
  access_room va accesses.Fetch (Err cause) = (tt, tt, tt)
  access_room va (accesses.Amo at amo) (Ok old) = by_reads (reads amo)
    where
      by_reads : (is : Bool) → HasRoom x (ops.Amo at amo) (if is then Value old else Done)
      by_reads true = (tt, tt, tt)
      by_reads false = (tt, tt, tt)
  access_room va (accesses.Amo at amo) (Err cause) = (tt, tt, tt)

  resume_room : (resume : Option EntryPoint) → HasRoom x ops.Advance (resume_reply x resume)
  resume_room None = (zero_short, tt, tt)
  resume_room (Some resume) = (tt, (refl, refl), tt)

  advance_room : (s : HartState) (start : Start) (resume : Option EntryPoint) → HasRoom x ops.Advance (advance_reply x s start resume)
  advance_room states.StartPending start resume = (tt, (refl, refl), tt)
  advance_room states.StopPending start resume = (tt, tt, tt)
  advance_room states.SuspendPending start resume = (tt, tt, tt)
  advance_room states.Suspended start resume = (tt, tt, tt)
  advance_room states.ResumePending start resume = resume_room resume
  advance_room s start resume = (tt, tt, tt)

  reply_room : (o : Opening) (past : List Event) (op : Op) → HasRoom x op (reply o past x op)
  reply_room o past (ops.Ecall regs) =
      let reply = reply_to o.config (sstatus_sie o past x) (state o past) (call_of regs) in
      call_room regs reply (call_few o.config (sstatus_sie o past x) (state o past) (call_of regs))
  reply_room o past (ops.Load va) = access_room va accesses.Load _
  reply_room o past (ops.Store va value) = access_room va (accesses.Store value) _
  reply_room o past (ops.Fetch va) = access_room va accesses.Fetch _
  reply_room o past (ops.Amo at amo) = access_room (word_at (amo_size amo) at) (accesses.Amo at amo) _
  reply_room o past ops.ReadSip = (tt, tt, tt)
  reply_room o past ops.Poll = (zero_short, tt, refl)
  reply_room o past ops.Advance = advance_room (state o past x) (last_start o past x) (resume_point o past x)
  reply_room o past op = (tt, tt, refl)

-- what a hart is answered has room
pub replies_are_short : (o : Opening) (past : List Event) (x : ℕ) (op : Op) → x < 255 → IsShort (Hart x) op (reply o past x op)
replies_are_short o past x op inside =
    let room = reply_room x o past op in
    record { hart = inside; error = room.0; entry = room.1; first = room.2 }
