-- The RFENCE extension (SBI 8): the replies of its calls, and the fences that they ask for.
use Rattle.std.specs.Prelude.{ℕ, List, if◌then◌else◌, Option, Some, None, Result, Ok, Err}
use Rattle.sbi_abi.specs.declared.answer.SbiError.{SbiError}
use Rattle.sbi_abi.specs.declared.answer.SbiError.TheVariants.{InvalidAddress, InvalidParam}
use Rattle.sbi_abi.specs.declared.call.rfence.RfenceCall.{RfenceCall}
use Rattle.sbi_abi.specs.declared.call.rfence.RfenceCall.TheVariants.{RemoteFenceI, RemoteSfenceVma, RemoteSfenceVmaAsid}
use Rattle.hart_mask.specs.HartList.{targets_of}
use Rattle.sv39.specs.declared.paging.Spaces.{Spaces}
use Rattle.tlb_model.specs.declared.fence.Flush.{Flush}
use Rattle.tlb_model.specs.declared.fence.Flush.TheVariants.{Words, Entries}
use Rattle.tlb_model.specs.Fences.{fence_of_range, is_wrong_range}
use Rattle.board_terms.specs.declared.config.Config.{Config}
use Rattle.board_terms.specs.Limits.{spaces_of}
use Rattle.board_rules.specs.Returns.{CallReply, Returns, Waits}

-- What a remote SFENCE.VMA of a range drops, or the error for its range (SBI 8; which ranges are invalid: profile).
abbrev pub flush_of_range : Spaces → (start size : ℕ) (asid : Option ℕ) → Result Flush SbiError
flush_of_range spaces start size asid =
    if is_wrong_range start size then Err InvalidAddress else Ok (Entries (fence_of_range spaces start size asid))

-- a remote fence that a call asks for: its hart list, and what it drops
pub record Remote : Type 0 where
  pub mask : ℕ
  pub base : ℕ
  pub flush : Result Flush SbiError

-- The remote fence of a call (SBI 8.1 to 8.3).
abbrev pub remote_by_rfence : Config → RfenceCall → Remote
remote_by_rfence c (RemoteFenceI mask base) = record { mask = mask; base = base; flush = Ok Words }
remote_by_rfence c (RemoteSfenceVma mask base start size) = record {
  mask = mask;
  base = base;
  flush = flush_of_range (spaces_of c) start size None;
}
remote_by_rfence c (RemoteSfenceVmaAsid mask base start size asid) =
    record { mask = mask; base = base; flush = flush_of_range (spaces_of c) start size (Some asid) }

-- The reply to a remote fence: the hart waits inside the call, until it polls. The hart list is checked first, then the
-- range (SBI 8; that it waits, and the order: profile).
abbrev pub fence_reply_to : Option (List ℕ) → Result Flush SbiError → CallReply
fence_reply_to None flush = Returns (Some InvalidParam) 0
fence_reply_to (Some harts) (Err error) = Returns (Some error) 0
fence_reply_to (Some harts) (Ok flush) = Waits

abbrev pub fence_reply : Config → Remote → CallReply
fence_reply c remote = fence_reply_to (targets_of remote.mask remote.base c.harts) remote.flush

abbrev pub rfence_reply : Config → RfenceCall → CallReply
rfence_reply c call = fence_reply c (remote_by_rfence c call)
