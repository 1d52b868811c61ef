-- The Timer extension (SBI 6): the replies and effects of its calls.
use Rattle.std.specs.Prelude.{ℕ, Option, Some, None}
use Rattle.sbi_abi.specs.declared.call.time.TimeCall.{TimeCall}
use Rattle.sbi_abi.specs.declared.call.time.TimeCall.TheVariants.{SetTimer}
use Rattle.board_terms.specs.declared.reply.Reply.{Reply}
use Rattle.board_terms.specs.declared.reply.Reply.TheVariants.{Ret}
use Rattle.board_rules.specs.Returns.{CallReply, Returns}
use Rattle.board_rules.specs.Writes.{Write, Here}

abbrev pub time_reply : TimeCall → CallReply
time_reply (SetTimer deadline) = Returns None 0

-- A call sets its hart's deadline, in ticks (SBI 6.1).
abbrev pub deadline_by_time : TimeCall → Reply → Option (Write (Option ℕ))
deadline_by_time (SetTimer deadline) (Ret answer) = Some (Here (Some deadline))
deadline_by_time call reply = None
