use Rattle.std.proofs.Common.{ap, refl, sym, ◌∙◌}
use Rattle.sbi_abi.specs.declared.call.Call.TheVariants.{Hsm}
use Rattle.sbi_abi.specs.declared.call.hsm.HsmCall.TheVariants as calls
use Rattle.board_rules.specs.Replies.{call_reply}
use Rattle.board_rules.specs.Opening.{on}
use Rattle.board_machine.proofs.Situations.{counts-room}
use Rattle.board_machine.proofs.Standing.{call-quiet}
use Rattle.board_machine.proofs.machine.Machine.hsm_call.Goals as goal

pub hart_start-requires-clause-room : goal.hart_start-requires-clause-room
hart_start-requires-clause-room c = counts-room c.args.config.now c.args.self.now c.requires.good c.requires.standing

pub returns-in-HartStart-clause-answered : goal.returns-in-HartStart-clause-answered
returns-in-HartStart-clause-answered c = λ o past stands.
    c.hart_start.ensures.answered c.args.h o past stands ∙ ap (λ call. call_reply (on c.args.config.now o) past c.args.h (Hsm call)) (sym c.in-HartStart.is)

pub returns-in-HartStart-clause-after : goal.returns-in-HartStart-clause-after
returns-in-HartStart-clause-after c = λ o past regs is stands.
    c.hart_start.ensures.after c.args.h o past regs (ap Hsm (sym c.in-HartStart.is) ∙ is) stands

pub returns-in-HartStop-clause-answered : goal.returns-in-HartStop-clause-answered
returns-in-HartStop-clause-answered c = λ o past stands.
    c.hart_stop.ensures.answered o past stands ∙ ap (λ call. call_reply (on c.args.config.now o) past c.args.h (Hsm call)) (sym c.in-HartStop.is)

pub returns-in-HartStop-clause-after : goal.returns-in-HartStop-clause-after
returns-in-HartStop-clause-after c = λ o past regs is stands.
    c.hart_stop.ensures.after o past regs (ap Hsm (sym c.in-HartStop.is) ∙ is) stands

pub returns-in-HartGetStatus-clause-answered : goal.returns-in-HartGetStatus-clause-answered
returns-in-HartGetStatus-clause-answered c = λ o past stands.
    c.hart_get_status.ensures c.args.h o past stands ∙ ap (λ call. call_reply (on c.args.config.now o) past c.args.h (Hsm call)) (sym c.in-HartGetStatus.is)

pub returns-in-HartGetStatus-clause-after : goal.returns-in-HartGetStatus-clause-after
returns-in-HartGetStatus-clause-after c = λ o past regs is stands.
    call-quiet (on c.args.config.now o) past c.args.h regs (Hsm (calls.HartGetStatus c.in-HartGetStatus.hart)) _ c.args.self.now (ap Hsm (sym c.in-HartGetStatus.is) ∙ is) refl stands

pub returns-in-HartSuspend-clause-answered : goal.returns-in-HartSuspend-clause-answered
returns-in-HartSuspend-clause-answered c = λ o past stands.
    c.hart_suspend.ensures.answered o past ∙ ap (λ call. call_reply (on c.args.config.now o) past c.args.h (Hsm call)) (sym c.in-HartSuspend.is)

pub returns-in-HartSuspend-clause-after : goal.returns-in-HartSuspend-clause-after
returns-in-HartSuspend-clause-after c = λ o past regs is stands.
    c.hart_suspend.ensures.after o past regs (ap Hsm (sym c.in-HartSuspend.is) ∙ is) stands
