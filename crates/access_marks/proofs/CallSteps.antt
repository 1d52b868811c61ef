-- What events are for remote fence calls, and what the definitions of calls say of them.
use Rattle.std.proofs.Common.{◌≡◌, ℕ, refl, ap, ◌∙◌, Option, Some, None, Result, Ok, Err}
use Rattle.std.proofs.lemmas.Option.{same_Some}
use Rattle.sbi_abi.specs.declared.answer.SbiError.{SbiError}
use Rattle.sbi_abi.specs.declared.call.Call.{Call}
use Rattle.sbi_abi.specs.declared.call.Call.TheVariants.{Rfence, Srst}
use Rattle.sbi_abi.specs.declared.call.Regs.{Regs}
use Rattle.sbi_abi.specs.declared.call.rfence.RfenceCall.{RfenceCall}
use Rattle.sbi_abi.specs.declared.reset.Reset.{Reset}
use Rattle.sbi_abi.specs.Calls.{call_of}
use Rattle.tlb_model.specs.declared.fence.Fence.{Fence}
use Rattle.tlb_model.specs.declared.fence.Flush.{Flush}
use Rattle.tlb_model.specs.declared.fence.Flush.TheVariants.{Entries, Words}
use Rattle.board_terms.specs.declared.config.Config.{Config}
use Rattle.board_terms.specs.declared.op.Actor.{Actor}
use Rattle.board_terms.specs.declared.op.Actor.TheVariants.{Hart, Clock}
use Rattle.board_terms.specs.declared.op.Op.{Op}
use Rattle.board_terms.specs.declared.op.Op.TheVariants.{Ecall, Poll}
use Rattle.board_terms.specs.declared.reply.Reply.{Reply}
use Rattle.board_terms.specs.declared.reply.Reply.TheVariants.{Waiting}
use Rattle.board_core.specs.Fences.{Remote, remote_of}
use Rattle.board_core.specs.Resets.{reset_by, reset_by_call}
use Rattle.board_rules.specs.Calls.Rfence.{remote_by_rfence}
use Rattle.board_rules.specs.Calls.Srst.{reset_by_srst}
use Rattle.access_marks.specs.declared.call_step.CallStep.TheVariants.{Asked, Polled, Dropped}
use Rattle.access_marks.specs.Inside.Calls.{asked_by, asked_by_flush, polled_by, reset_step, step_by_call, step_of}

-- ---- asked

-- A hart asked for a remote fence of translations, by a call that waits.
pub record AskedBy (c : Config) (actor : Actor) (op : Op) (reply : Reply) (x : ℕ) (fence : Fence) : Type 0 where
  pub by_hart : actor ≡ Hart x
  pub regs : Regs
  pub call : op ≡ Ecall regs
  pub accepted : reply ≡ Waiting
  pub remote : Remote
  pub fences : remote_of c (call_of regs) ≡ Some remote
  pub drops : remote.flush ≡ Ok (Entries fence)

asks-call : (c : Config) (call : Call) (x : ℕ) (remote : Remote) (fence : Fence) → remote_of c call ≡ Some remote → remote.flush ≡ Ok (Entries fence) → step_by_call c (Hart x) call Waiting ≡ Asked x fence
asks-call c (Rfence call) x remote fence is drops =
    ap (λ (r : Remote). asked_by_flush x r.flush) (same_Some (remote_by_rfence c call) remote is) ∙ ap (asked_by_flush x) drops
asks-call c call x remote fence is drops = cc

pub asked-step : (c : Config) (actor : Actor) (op : Op) (reply : Reply) (x : ℕ) (fence : Fence) → AskedBy c actor op reply x fence → step_of c actor op reply ≡ Asked x fence
asked-step c actor op reply x fence a =
    (λ i. step_of c (a.by_hart i) (a.call i) (a.accepted i)) ∙ asks-call c (call_of a.regs) x a.remote fence a.fences a.drops

-- the flush of a step that asks
flush-asked : (x y : ℕ) (flush : Result Flush SbiError) (fence : Fence) → asked_by_flush y flush ≡ Asked x fence → (y ≡ x) × (flush ≡ Ok (Entries fence))
flush-asked x y (Ok (Entries other)) fence is = (cc, cc)
flush-asked x y (Ok Words) fence is = cc
flush-asked x y (Err error) fence is = cc

reset-asked : (r : Option Reset) (x : ℕ) (fence : Fence) → reset_step r ≡ Asked x fence → ⊥
reset-asked None x fence is = cc
reset-asked (Some reset) x fence is = cc

poll-asked : (actor : Actor) (x : ℕ) (fence : Fence) → polled_by actor ≡ Asked x fence → ⊥
poll-asked (Hart y) x fence is = cc
poll-asked Clock x fence is = cc

fence-asked : (c : Config) (actor : Actor) (call : RfenceCall) (reply : Reply) (x : ℕ) (fence : Fence) → asked_by c actor call reply ≡ Asked x fence
    → (actor ≡ Hart x) × (reply ≡ Waiting) × ((remote_by_rfence c call).flush ≡ Ok (Entries fence))
fence-asked c (Hart y) call Waiting x fence is =
    let found = flush-asked x y (remote_by_rfence c call).flush fence is in
    (ap (λ (n : ℕ). let a : Actor = Hart n in a) found.0, refl, found.1)
fence-asked c actor call reply x fence is = cc

call-asked : (c : Config) (actor : Actor) (call : Call) (reply : Reply) (x : ℕ) (fence : Fence) → step_by_call c actor call reply ≡ Asked x fence
    → (actor ≡ Hart x) × (reply ≡ Waiting) × ((remote : Remote) × (remote_of c call ≡ Some remote) × (remote.flush ≡ Ok (Entries fence)))
call-asked c actor (Rfence call) reply x fence is =
    let found = fence-asked c actor call reply x fence is in
    (found.0, found.1, (remote_by_rfence c call, refl, found.2))
call-asked c actor (Srst call) reply x fence is = absurd (reset-asked (reset_by_srst call reply) x fence is)
call-asked c actor call reply x fence is = cc

pub step-asked : (c : Config) (actor : Actor) (op : Op) (reply : Reply) (x : ℕ) (fence : Fence) → step_of c actor op reply ≡ Asked x fence → AskedBy c actor op reply x fence
step-asked c actor (Ecall regs) reply x fence is =
    let found = call-asked c actor (call_of regs) reply x fence is in
    record { by_hart = found.0; regs = regs; call = refl; accepted = found.1; remote = found.2.0; fences = found.2.1; drops = found.2.2 }
step-asked c actor Poll reply x fence is = absurd (poll-asked actor x fence is)
step-asked c actor op reply x fence is = cc

-- ---- polled

reset-polled : (r : Option Reset) (x : ℕ) → reset_step r ≡ Polled x → ⊥
reset-polled None x is = cc
reset-polled (Some reset) x is = cc

flush-polled : (x y : ℕ) (flush : Result Flush SbiError) → asked_by_flush y flush ≡ Polled x → ⊥
flush-polled x y (Ok (Entries other)) is = cc
flush-polled x y (Ok Words) is = cc
flush-polled x y (Err error) is = cc

fence-polled : (c : Config) (actor : Actor) (call : RfenceCall) (reply : Reply) (x : ℕ) → asked_by c actor call reply ≡ Polled x → ⊥
fence-polled c (Hart y) call Waiting x is = flush-polled x y (remote_by_rfence c call).flush is
fence-polled c actor call reply x is = cc

call-polled : (c : Config) (actor : Actor) (call : Call) (reply : Reply) (x : ℕ) → step_by_call c actor call reply ≡ Polled x → ⊥
call-polled c actor (Rfence call) reply x is = fence-polled c actor call reply x is
call-polled c actor (Srst call) reply x is = reset-polled (reset_by_srst call reply) x is
call-polled c actor call reply x is = cc

poll-polled : (actor : Actor) (x : ℕ) → polled_by actor ≡ Polled x → actor ≡ Hart x
poll-polled (Hart y) x is = cc
poll-polled Clock x is = cc

pub step-polled : (c : Config) (actor : Actor) (op : Op) (reply : Reply) (x : ℕ) → step_of c actor op reply ≡ Polled x → (actor ≡ Hart x) × (op ≡ Poll)
step-polled c actor (Ecall regs) reply x is = absurd (call-polled c actor (call_of regs) reply x is)
step-polled c actor Poll reply x is = (poll-polled actor x is, refl)
step-polled c actor op reply x is = cc

pub polled-step : (c : Config) (actor : Actor) (op : Op) (reply : Reply) (x : ℕ) → actor ≡ Hart x → op ≡ Poll → step_of c actor op reply ≡ Polled x
polled-step c actor op reply x own poll = (λ i. step_of c (own i) (poll i) reply)

-- ---- dropped

reset-kept : (r : Option Reset) → (reset_step r ≡ Dropped → ⊥) → r ≡ None
reset-kept None kept = refl
reset-kept (Some reset) kept = absurd (kept refl)

call-kept : (c : Config) (actor : Actor) (regs : Regs) (reply : Reply) (call : Call) → call_of regs ≡ call → (step_by_call c actor call reply ≡ Dropped → ⊥) → reset_by (Ecall regs) reply ≡ None
call-kept c actor regs reply (Rfence call) is kept = (λ i. reset_by_call (is i) reply)
call-kept c actor regs reply (Srst call) is kept = (λ i. reset_by_call (is i) reply) ∙ reset-kept (reset_by_srst call reply) kept
call-kept c actor regs reply call is kept = (λ i. reset_by_call (is i) reply)

-- an event that isn't a reset, for calls and by the definition of resets
pub step-kept : (c : Config) (actor : Actor) (op : Op) (reply : Reply) → (step_of c actor op reply ≡ Dropped → ⊥) → reset_by op reply ≡ None
step-kept c actor (Ecall regs) reply kept = call-kept c actor regs reply (call_of regs) refl kept
step-kept c actor op reply kept = refl

flush-dropped : (y : ℕ) (flush : Result Flush SbiError) → asked_by_flush y flush ≡ Dropped → ⊥
flush-dropped y (Ok (Entries other)) is = cc
flush-dropped y (Ok Words) is = cc
flush-dropped y (Err error) is = cc

fence-dropped : (c : Config) (actor : Actor) (call : RfenceCall) (reply : Reply) → asked_by c actor call reply ≡ Dropped → ⊥
fence-dropped c (Hart y) call Waiting is = flush-dropped y (remote_by_rfence c call).flush is
fence-dropped c actor call reply is = cc

reset-dropped : (r : Option Reset) → r ≡ None → reset_step r ≡ Dropped → ⊥
reset-dropped None none is = cc
reset-dropped (Some reset) none is = cc

call-dropped : (c : Config) (actor : Actor) (call : Call) (reply : Reply) → reset_by_call call reply ≡ None → step_by_call c actor call reply ≡ Dropped → ⊥
call-dropped c actor (Rfence call) reply none is = fence-dropped c actor call reply is
call-dropped c actor (Srst call) reply none is = reset-dropped (reset_by_srst call reply) none is
call-dropped c actor call reply none is = cc

poll-dropped : (actor : Actor) → polled_by actor ≡ Dropped → ⊥
poll-dropped (Hart y) is = cc
poll-dropped Clock is = cc

pub kept-step : (c : Config) (actor : Actor) (op : Op) (reply : Reply) → reset_by op reply ≡ None → step_of c actor op reply ≡ Dropped → ⊥
kept-step c actor (Ecall regs) reply none is = call-dropped c actor (call_of regs) reply none is
kept-step c actor Poll reply none is = poll-dropped actor is
kept-step c actor op reply none is = cc
