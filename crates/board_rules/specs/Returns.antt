-- The results of calls: an error or a value, if the call returns (SBI 3).
use Rattle.std.specs.Prelude.{ℕ, pos, Option, Some, None}
use Rattle.sbi_abi.specs.declared.answer.Sbiret.{Sbiret}
use Rattle.sbi_abi.specs.declared.answer.SbiError.{SbiError}
use Rattle.sbi_abi.specs.Errors.{error_number}
use Rattle.board_terms.specs.declared.reply.Reply.{Reply}
use Rattle.board_terms.specs.declared.reply.Reply.TheVariants.{Ret, Waiting, Gone}

abbrev pub success : ℕ → Sbiret
success value = record { error = pos 0; value = value }

-- an error's value is 0 (profile)
abbrev pub failure : SbiError → Sbiret
failure error = record { error = error_number error; value = 0 }

-- the error, if there is one, else the value
abbrev pub unless : Option SbiError → ℕ → Sbiret
unless None value = success value
unless (Some error) value = failure error

-- A call returns an error or a value, or the hart waits inside it, or it doesn't return.
pub data CallReply : Type 0 where
  Returns : (error : Option SbiError) → (value : ℕ) → CallReply
  Waits : CallReply
  Leaves : CallReply

-- the reply that the history records
abbrev pub as_reply : CallReply → Reply
as_reply (Returns error value) = Ret (unless error value)
as_reply Waits = Waiting
as_reply Leaves = Gone
