use Rattle.std.proofs.Common.{◌≡◌, ℕ, ap, refl, sym, ◌∙◌}
use Rattle.sbi_abi.specs.declared.answer.SbiError.TheVariants.{InvalidParam}
use Rattle.sbi_abi.specs.declared.call.Call.TheVariants.{Ipi}
use Rattle.sbi_abi.specs.declared.call.ipi.IpiCall.{IpiCall}
use Rattle.sbi_abi.specs.declared.call.ipi.IpiCall.TheVariants.{SendIpi}
use Rattle.board_terms.specs.declared.op.Op.TheVariants.{Ecall}
use Rattle.board_terms.specs.declared.reply.Reply.TheVariants.{Ret}
use Rattle.board_rules.specs.Replies.{failure, success}
use Rattle.board_rules.specs.History.{by_hart}
use Rattle.board_rules.specs.Opening.{on}
use Rattle.board_rules.proofs.Events.{deed_of_call, does_call}
use Rattle.board_machine.proofs.InterruptsStanding.{interrupts-ipis, ipis-sent}
use Rattle.board_machine.proofs.Standing.{call-quiet, stands-interrupts}
use Rattle.board_machine.proofs.Targets.{is_reached}
use Rattle.board_machine.proofs.machine.Machine.ipi_call.Goals as goal

-- a call of this extension sends an IPI to the harts of a list
mask_in : IpiCall → ℕ
mask_in (SendIpi mask base) = mask

base_in : IpiCall → ℕ
base_in (SendIpi mask base) = base

sends : (call : IpiCall) → call ≡ SendIpi (mask_in call) (base_in call)
unfolding mask_in base_in
sends (SendIpi mask base) = refl

pub returns-in-Ok-clause-after : goal.returns-in-Ok-clause-after
returns-in-Ok-clause-after c = λ x o past regs is stands.
    let opening = on c.args.config.now o in
    let m = c.args.self.now in
    let call = Ipi (SendIpi (mask_in c.args.call) (base_in c.args.call)) in
    let event = by_hart x (Ecall regs) (Ret (success 0)) in
    let d = deed_of_call opening past x call (Ret (success 0)) in
    let does = does_call opening past x regs call (Ret (success 0)) (ap Ipi (sym (sends c.args.call)) ∙ is) in
    let reached = is_reached opening past m.hsm c.requires.most stands.harts (mask_in c.args.call) (base_in c.args.call) c.in-Ok.harts c.interruptible.result c.intersection-reached.result
    (rw (sends c.args.call) at c.in-Ok.ensures.answer) c.in-Ok.ensures.below c.interruptible.ensures c.intersection-reached.ensures in
    rw (c.success.ensures, c.send.ensures)
    (stands-interrupts opening past event d does m _ refl stands (interrupts-ipis opening past event d does m.interrupts _ refl stands.interrupts
    (ipis-sent opening past event d does m.interrupts.ipis c.intersection-reached.result refl (λ i below. reached i) stands.interrupts.ipis)))

pub returns-in-Err-clause-after : goal.returns-in-Err-clause-after
returns-in-Err-clause-after c = λ x o past regs is stands.
    rw (c.failure.ensures, c.into.ensures)
    (call-quiet (on c.args.config.now o) past x regs (Ipi (SendIpi (mask_in c.args.call) (base_in c.args.call))) (Ret (failure InvalidParam)) c.args.self.now
    (ap Ipi (sym (sends c.args.call)) ∙ is) refl stands)
