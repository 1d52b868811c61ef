-- The System Reset extension (SBI 10): the replies of its calls, and their resets.
use Rattle.std.specs.Prelude.{Option, Some, None, Result, Ok, Err}
use Rattle.sbi_abi.specs.declared.answer.SbiError.{SbiError}
use Rattle.sbi_abi.specs.declared.call.srst.SrstCall.{SrstCall}
use Rattle.sbi_abi.specs.declared.call.srst.SrstCall.TheVariants.{SystemReset}
use Rattle.sbi_abi.specs.declared.reset.Reset.{Reset}
use Rattle.rfence.specs.Turns as turns
use Rattle.rfence.specs.Turns.{Turn}
use Rattle.tlb_model.specs.declared.fence.Flush.{Flush}
use Rattle.board_terms.specs.declared.reply.Reply.{Reply}
use Rattle.board_terms.specs.declared.reply.Reply.TheVariants.{Gone}
use Rattle.board_rules.specs.Returns.{CallReply, Leaves, Returns}

-- The reply to a system reset: it doesn't return, or it returns the error for its type or reason (SBI 10.1).
abbrev pub reset_reply : Result Reset SbiError → CallReply
reset_reply (Err error) = Returns (Some error) 0
reset_reply (Ok reset) = Leaves

abbrev pub srst_reply : SrstCall → CallReply
srst_reply (SystemReset reset) = reset_reply reset

-- The reset of a call: a system_reset that doesn't return (SBI 10.1).
abbrev pub reset_by_srst : SrstCall → Reply → Option Reset
reset_by_srst (SystemReset (Ok reset)) Gone = Some reset
reset_by_srst call reply = None

-- what a call means for fences: a reset applies every waiting fence and drops every call
abbrev pub turn_by_srst : SrstCall → Reply → Turn Flush
turn_by_srst (SystemReset (Ok reset)) Gone = turns.Reset
turn_by_srst call reply = turns.Quiet
