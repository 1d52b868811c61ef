use Rattle.std.proofs.Common.{ap, refl, sym, ◌∙◌}
use Rattle.sbi_abi.specs.declared.call.Call.TheVariants as calls
use Rattle.board_rules.specs.Replies.{call_reply}
use Rattle.board_rules.specs.Opening.{on}
use Rattle.board_machine.proofs.Standing.{call-quiet}
use Rattle.board_machine.proofs.machine.Machine.call.Goals as goal

pub returns-in-Base-clause-after : goal.returns-in-Base-clause-after
returns-in-Base-clause-after c = λ o past regs at is stands.
    call-quiet (on c.args.config.now o) past c.args.h regs (calls.Base c.in-Base.call) _ c.args.self.now (sym c.in-Base.is ∙ is) refl stands

pub returns-in-Unsupported-clause-after : goal.returns-in-Unsupported-clause-after
returns-in-Unsupported-clause-after c = λ o past regs at is stands.
    call-quiet (on c.args.config.now o) past c.args.h regs calls.Unsupported _ c.args.self.now (sym c.in-Unsupported.is ∙ is) refl stands

pub returns-in-Time-clause-answered : goal.returns-in-Time-clause-answered
returns-in-Time-clause-answered c = λ o past stands.
    c.time_call.ensures.answered ∙ ap (call_reply (on c.args.config.now o) past c.args.h) (sym c.in-Time.is)

pub returns-in-Time-clause-after : goal.returns-in-Time-clause-after
returns-in-Time-clause-after c = λ o past regs at is stands.
    c.time_call.ensures.after (on c.args.config.now o) past regs (sym c.in-Time.is ∙ is) stands

pub returns-in-Ipi-clause-answered : goal.returns-in-Ipi-clause-answered
returns-in-Ipi-clause-answered c = λ o past stands.
    c.ipi_call.ensures.answered ∙ ap (call_reply (on c.args.config.now o) past c.args.h) (sym c.in-Ipi.is)

pub returns-in-Ipi-clause-after : goal.returns-in-Ipi-clause-after
returns-in-Ipi-clause-after c = λ o past regs at is stands.
    c.ipi_call.ensures.after c.args.h o past regs (sym c.in-Ipi.is ∙ is) stands

pub returns-in-Rfence-clause-answered : goal.returns-in-Rfence-clause-answered
returns-in-Rfence-clause-answered c = λ o past stands.
    c.rfence_call.ensures.answered ∙ ap (call_reply (on c.args.config.now o) past c.args.h) (sym c.in-Rfence.is)

pub returns-in-Rfence-clause-after : goal.returns-in-Rfence-clause-after
returns-in-Rfence-clause-after c = λ o past regs at is stands.
    c.rfence_call.ensures.after o past regs at (sym c.in-Rfence.is ∙ is) stands

pub returns-in-Hsm-clause-answered : goal.returns-in-Hsm-clause-answered
returns-in-Hsm-clause-answered c = λ o past stands.
    c.hsm_call.ensures.answered o past stands ∙ ap (call_reply (on c.args.config.now o) past c.args.h) (sym c.in-Hsm.is)

pub returns-in-Hsm-clause-after : goal.returns-in-Hsm-clause-after
returns-in-Hsm-clause-after c = λ o past regs at is stands.
    c.hsm_call.ensures.after o past regs (sym c.in-Hsm.is ∙ is) stands

pub returns-in-Srst-clause-answered : goal.returns-in-Srst-clause-answered
returns-in-Srst-clause-answered c = λ o past stands.
    c.srst_call.ensures.answered ∙ ap (call_reply (on c.args.config.now o) past c.args.h) (sym c.in-Srst.is)

pub returns-in-Srst-clause-after : goal.returns-in-Srst-clause-after
returns-in-Srst-clause-after c = λ o past regs at is stands.
    c.srst_call.ensures.after c.args.h o past regs (sym c.in-Srst.is ∙ is) stands
