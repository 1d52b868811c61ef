-- The replies of calls, by extension. Each extension has its own file, with the replies and effects of its calls.
use Rattle.std.specs.Prelude.{ℕ, Bool, Some}
use Rattle.sbi_abi.specs.declared.answer.SbiError.TheVariants.{NotSupported}
use Rattle.sbi_abi.specs.declared.call.Call.{Call}
use Rattle.sbi_abi.specs.declared.call.Call.TheVariants as calls
use Rattle.hsm.specs.declared.hart.HartState.{HartState}
use Rattle.board_terms.specs.declared.config.Config.{Config}
use Rattle.board_rules.specs.Calls.Base.{base_reply}
use Rattle.board_rules.specs.Calls.Hsm.{hsm_reply}
use Rattle.board_rules.specs.Calls.Ipi.{ipi_reply}
use Rattle.board_rules.specs.Calls.Rfence.{rfence_reply}
use Rattle.board_rules.specs.Calls.Srst.{srst_reply}
use Rattle.board_rules.specs.Calls.Time.{time_reply}
use Rattle.board_rules.specs.Returns.{CallReply, Returns}
pub mod Base
pub mod Hsm
pub mod Ipi
pub mod Rfence
pub mod Srst
pub mod Time

-- The reply to a call, by its caller's sstatus.SIE and the states of the harts. An EID or FID that isn't implemented is
-- not supported (SBI 3).
abbrev pub reply_to : Config → (sstatus_sie : Bool) → (state : ℕ → HartState) → Call → CallReply
reply_to c sstatus_sie state (calls.Base call) = base_reply call
reply_to c sstatus_sie state (calls.Time call) = time_reply call
reply_to c sstatus_sie state (calls.Ipi call) = ipi_reply c call
reply_to c sstatus_sie state (calls.Rfence call) = rfence_reply c call
reply_to c sstatus_sie state (calls.Hsm call) = hsm_reply c sstatus_sie state call
reply_to c sstatus_sie state (calls.Srst call) = srst_reply call
reply_to c sstatus_sie state calls.Unsupported = Returns (Some NotSupported) 0
