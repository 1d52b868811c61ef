use Rattle.std.proofs.Common.{◌≡◌, ℕ, ap, refl, sym, ◌∙◌}
use Rattle.std.specs.Prelude.{Some}
use Rattle.sbi_abi.specs.declared.call.Call.TheVariants.{Time}
use Rattle.sbi_abi.specs.declared.call.time.TimeCall.{TimeCall}
use Rattle.sbi_abi.specs.declared.call.time.TimeCall.TheVariants.{SetTimer}
use Rattle.board_terms.specs.declared.op.Op.TheVariants.{Ecall}
use Rattle.board_terms.specs.declared.reply.Reply.TheVariants.{Ret}
use Rattle.board_rules.specs.Replies.{success}
use Rattle.board_rules.specs.History.{by_hart}
use Rattle.board_rules.proofs.Events.{deed_of_call, does_call}
use Rattle.board_machine.proofs.InterruptsStanding.{interrupts-timers, timers-set}
use Rattle.board_machine.proofs.Standing.{stands-interrupts}
use Rattle.board_machine.proofs.machine.Machine.time_call.Goals as goal

-- a call of this extension sets a deadline
deadline_in : TimeCall → ℕ
deadline_in (SetTimer deadline) = deadline

sets : (call : TimeCall) → call ≡ SetTimer (deadline_in call)
unfolding deadline_in
sets (SetTimer deadline) = refl

pub returns-clause-after : goal.returns-clause-after
returns-clause-after c = λ o past regs is stands.
    let m = c.args.self.now in
    let h = c.args.h in
    let event = by_hart h (Ecall regs) (Ret (success 0)) in
    let call = Time (SetTimer (deadline_in c.args.call)) in
    let d = deed_of_call o past h call (Ret (success 0)) in
    let does = does_call o past h regs call (Ret (success 0)) (ap Time (sym (sets c.args.call)) ∙ is) in
    rw (c.success.ensures, (rw (sets c.args.call) at c.set.ensures.after))
    (stands-interrupts o past event d does m _ refl stands (interrupts-timers o past event d does m.interrupts _ refl stands.interrupts
    (timers-set o past event d does h refl m.interrupts.timers (Some (deadline_in c.args.call)) refl refl stands.interrupts.timers)))
