-- The s-mode IPI extension (SBI 7): the replies and effects of its calls.
use Rattle.std.specs.Prelude.{ℕ, List, [], ◌∷◌, Bool, false, ◌&&◌, is_none}
use Rattle.sbi_abi.specs.declared.answer.SbiError.{SbiError}
use Rattle.sbi_abi.specs.declared.answer.SbiError.TheVariants.{InvalidParam}
use Rattle.sbi_abi.specs.declared.call.ipi.IpiCall.{IpiCall}
use Rattle.sbi_abi.specs.declared.call.ipi.IpiCall.TheVariants.{SendIpi}
use Rattle.sbi_abi.specs.Errors.{is_success}
use Rattle.hart_mask.specs.HartList.{targets_of}
use Rattle.hsm.specs.declared.hart.HartState.{HartState}
use Rattle.board_terms.specs.declared.config.Config.{Config}
use Rattle.board_terms.specs.declared.reply.Reply.{Reply}
use Rattle.board_terms.specs.declared.reply.Reply.TheVariants.{Ret}
use Rattle.board_terms.specs.Refusals.{first_that_holds}
use Rattle.board_rules.specs.Returns.{CallReply, Returns}
use Rattle.board_rules.specs.Targets.{is_reached}

-- The errors of an IPI: its hart list names a hart that doesn't exist (SBI 3, 7.1).
abbrev pub ipi_errors : Config → (mask base : ℕ) → List (Bool × SbiError)
ipi_errors c mask base = (is_none (targets_of mask base c.harts), InvalidParam) ∷ []

abbrev pub ipi_reply : Config → IpiCall → CallReply
ipi_reply c (SendIpi mask base) = Returns (first_that_holds (ipi_errors c mask base)) 0

-- Whether an IPI that succeeded reaches hart h (SBI 7.1).
abbrev pub reaches_by_ipi : Config → (state : ℕ → HartState) → IpiCall → Reply → ℕ → Bool
reaches_by_ipi c state (SendIpi mask base) (Ret answer) h = is_success answer && is_reached c state mask base h
reaches_by_ipi c state call reply h = false
