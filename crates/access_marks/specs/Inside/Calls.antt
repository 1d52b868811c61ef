-- What events are for remote fence calls (SBI 8).
use Rattle.std.specs.Prelude.{ℕ, Option, Some, None, Result, Ok}
use Rattle.sbi_abi.specs.declared.answer.SbiError.{SbiError}
use Rattle.sbi_abi.specs.declared.call.Call.{Call}
use Rattle.sbi_abi.specs.declared.call.Call.TheVariants.{Rfence, Srst}
use Rattle.sbi_abi.specs.declared.call.rfence.RfenceCall.{RfenceCall}
use Rattle.sbi_abi.specs.declared.reset.Reset.{Reset}
use Rattle.sbi_abi.specs.Calls.{call_of}
use Rattle.tlb_model.specs.declared.fence.Flush.{Flush}
use Rattle.tlb_model.specs.declared.fence.Flush.TheVariants.{Entries}
use Rattle.board_terms.specs.declared.config.Config.{Config}
use Rattle.board_terms.specs.declared.op.Actor.{Actor}
use Rattle.board_terms.specs.declared.op.Actor.TheVariants.{Hart, Clock}
use Rattle.board_terms.specs.declared.op.Op.{Op}
use Rattle.board_terms.specs.declared.op.Op.TheVariants.{Ecall, Poll}
use Rattle.board_terms.specs.declared.reply.Reply.{Reply}
use Rattle.board_terms.specs.declared.reply.Reply.TheVariants.{Waiting}
use Rattle.board_rules.specs.Calls.Rfence.{remote_by_rfence}
use Rattle.board_rules.specs.Calls.Srst.{reset_by_srst}
use Rattle.access_marks.specs.declared.call_step.CallStep.{CallStep}
use Rattle.access_marks.specs.declared.call_step.CallStep.TheVariants.{Asked, Polled, Dropped, Other}

-- a remote fence that waits inside its call, by what it drops
abbrev pub asked_by_flush : (x : ℕ) → Result Flush SbiError → CallStep
asked_by_flush x (Ok (Entries fence)) = Asked x fence
asked_by_flush x flush = Other

-- a remote fence call with this reply
abbrev pub asked_by : Config → Actor → RfenceCall → Reply → CallStep
asked_by c (Hart x) call Waiting = asked_by_flush x (remote_by_rfence c call).flush
asked_by c actor call reply = Other

-- a system reset, if there was one
abbrev pub reset_step : Option Reset → CallStep
reset_step None = Other
reset_step (Some reset) = Dropped

-- a call with this reply
abbrev pub step_by_call : Config → Actor → Call → Reply → CallStep
step_by_call c actor (Rfence call) reply = asked_by c actor call reply
step_by_call c actor (Srst call) reply = reset_step (reset_by_srst call reply)
step_by_call c actor call reply = Other

-- a poll
abbrev pub polled_by : Actor → CallStep
polled_by (Hart x) = Polled x
polled_by Clock = Other

-- an operation with this reply
abbrev pub step_of : Config → Actor → Op → Reply → CallStep
step_of c actor (Ecall regs) reply = step_by_call c actor (call_of regs) reply
step_of c actor Poll reply = polled_by actor
step_of c actor op reply = Other
