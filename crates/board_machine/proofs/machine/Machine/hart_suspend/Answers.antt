use Rattle.std.proofs.Common.{◌∙◌, refl}
use Rattle.sbi_abi.specs.declared.answer.SbiError.TheVariants.{InvalidAddress}
use Rattle.sbi_abi.specs.declared.call.Call.TheVariants.{Hsm}
use Rattle.sbi_abi.specs.declared.call.hsm.HsmCall.TheVariants.{HartSuspend}
use Rattle.board_rules.specs.Replies.{failure}
use Rattle.hsm.specs.declared.hart.HartState.TheVariants.{SuspendPending}
use Rattle.board_terms.specs.declared.op.Op.TheVariants.{Ecall}
use Rattle.board_terms.specs.declared.reply.Reply.TheVariants.{Gone, Ret, Waiting}
use Rattle.board_rules.specs.History.{by_hart}
use Rattle.board_rules.specs.Opening.{on}
use Rattle.board_rules.proofs.Events.{deed_of_call, does_call}
use Rattle.board_machine.proofs.HartsStanding.{harts-own}
use Rattle.board_machine.proofs.Standing.{call-quiet, stands-harts}
use Rattle.board_machine.proofs.machine.Machine.hart_suspend.Goals as goal

pub returns-in-Ok-Retentive-clause-after : goal.returns-in-Ok-Retentive-clause-after
returns-in-Ok-Retentive-clause-after c = λ o past regs is stands.
    let opening = on c.args.config.now o in
    let m = c.args.self.now in
    let h = c.args.h in
    let call = Hsm (HartSuspend c.args.kind c.args.addr c.args.opaque) in
    let event = by_hart h (Ecall regs) Waiting in
    let d = deed_of_call opening past h call Waiting in
    let does = does_call opening past h regs call Waiting is in
    stands-harts opening past event d does m _ refl stands
    (record { each = c.suspend.ensures ∙ (harts-own opening past event d does m.hsm h SuspendPending refl refl refl (λ j. refl) stands.harts).each })

pub returns-else-not-is_start_address-clause-after : goal.returns-else-not-is_start_address-clause-after
returns-else-not-is_start_address-clause-after c = λ o past regs is stands.
    let opening = on c.args.config.now o in
    let m = c.args.self.now in
    let h = c.args.h in
    let call = Hsm (HartSuspend c.args.kind c.args.addr c.args.opaque) in
    let event = by_hart h (Ecall regs) Gone in
    let d = deed_of_call opening past h call Gone in
    let does = does_call opening past h regs call Gone is in
    stands-harts opening past event d does m _ refl stands
    (record { each = c.suspend-in-Ok-NonRetentive.ensures ∙ (harts-own opening past event d does m.hsm h SuspendPending refl refl refl (λ j. refl) stands.harts).each })

pub returns-then-not-is_start_address-clause-after : goal.returns-then-not-is_start_address-clause-after
returns-then-not-is_start_address-clause-after c = λ o past regs is stands.
    rw c.failure-then-not-is_start_address.ensures
    (call-quiet (on c.args.config.now o) past c.args.h regs (Hsm (HartSuspend c.args.kind c.args.addr c.args.opaque)) (Ret (failure InvalidAddress)) c.args.self.now is refl stands)

pub returns-in-Err-clause-after : goal.returns-in-Err-clause-after
returns-in-Err-clause-after c = λ o past regs is stands.
    rw c.failure.ensures
    (call-quiet (on c.args.config.now o) past c.args.h regs (Hsm (HartSuspend c.args.kind c.args.addr c.args.opaque)) (Ret (failure c.in-Err.error)) c.args.self.now is refl stands)
