use Rattle.std.proofs.Common.{ap, refl, sym, ◌∙◌}
use Rattle.sbi_abi.specs.declared.call.Call.TheVariants.{Rfence}
use Rattle.sbi_abi.specs.declared.call.rfence.RfenceCall.TheVariants as calls
use Rattle.std.specs.Prelude.{None, Result, Some}
use Rattle.sv39.specs.declared.paging.Spaces.{Spaces}
use Rattle.sbi_abi.specs.declared.answer.SbiError.{SbiError}
use Rattle.tlb_model.specs.declared.fence.Flush.{Flush}
use Rattle.board_rules.specs.Calls.Rfence.{Remote, fence_reply, flush_of_range, rfence_reply}
use Rattle.board_rules.specs.Returns.{as_reply}
use Rattle.board_machine.proofs.machine.Machine.rfence_call.Goals as goal

pub returns-in-RemoteFenceI-clause-answered : goal.returns-in-RemoteFenceI-clause-answered
returns-in-RemoteFenceI-clause-answered c = c.remote_fence.ensures.answered ∙ ap (λ call. as_reply (rfence_reply c.args.config.now call)) (sym c.in-RemoteFenceI.is)

pub returns-in-RemoteFenceI-clause-after : goal.returns-in-RemoteFenceI-clause-after
returns-in-RemoteFenceI-clause-after c = λ o past regs at is stands.
    c.remote_fence.ensures.after o past regs (calls.RemoteFenceI c.in-RemoteFenceI.mask c.in-RemoteFenceI.base) at refl (ap Rfence (sym c.in-RemoteFenceI.is) ∙ is) stands

pub returns-in-RemoteSfenceVma-clause-answered : goal.returns-in-RemoteSfenceVma-clause-answered
returns-in-RemoteSfenceVma-clause-answered c =
    c.remote_fence-in-RemoteSfenceVma.ensures.answered
    ∙ ap (λ f. as_reply (fence_reply c.args.config.now (record { mask = c.in-RemoteSfenceVma.mask; base = c.in-RemoteSfenceVma.base; flush = f })))
    (c.flush_of_range.ensures ∙ ap (λ (s : Spaces). flush_of_range s c.in-RemoteSfenceVma.start c.in-RemoteSfenceVma.size None) c.spaces.ensures.spaces)
    ∙ ap (λ call. as_reply (rfence_reply c.args.config.now call)) (sym c.in-RemoteSfenceVma.is)

pub returns-in-RemoteSfenceVma-clause-after : goal.returns-in-RemoteSfenceVma-clause-after
returns-in-RemoteSfenceVma-clause-after c = λ o past regs at is stands.
    let remote : Result Flush SbiError → Remote = λ f. record { mask = c.in-RemoteSfenceVma.mask; base = c.in-RemoteSfenceVma.base; flush = f } in
    c.remote_fence-in-RemoteSfenceVma.ensures.after o past regs (calls.RemoteSfenceVma c.in-RemoteSfenceVma.mask c.in-RemoteSfenceVma.base c.in-RemoteSfenceVma.start c.in-RemoteSfenceVma.size) at
    (ap remote (sym (c.flush_of_range.ensures ∙ ap (λ (s : Spaces). flush_of_range s c.in-RemoteSfenceVma.start c.in-RemoteSfenceVma.size None) c.spaces.ensures.spaces)))
    (ap Rfence (sym c.in-RemoteSfenceVma.is) ∙ is) stands

pub returns-in-RemoteSfenceVmaAsid-clause-answered : goal.returns-in-RemoteSfenceVmaAsid-clause-answered
returns-in-RemoteSfenceVmaAsid-clause-answered c =
    c.remote_fence-in-RemoteSfenceVmaAsid.ensures.answered
    ∙ ap (λ f. as_reply (fence_reply c.args.config.now (record { mask = c.in-RemoteSfenceVmaAsid.mask; base = c.in-RemoteSfenceVmaAsid.base; flush = f })))
    (c.flush_of_range-flush.ensures
    ∙ ap (λ (s : Spaces). flush_of_range s c.in-RemoteSfenceVmaAsid.start c.in-RemoteSfenceVmaAsid.size (Some c.in-RemoteSfenceVmaAsid.asid)) c.spaces-in-RemoteSfenceVmaAsid.ensures.spaces)
    ∙ ap (λ call. as_reply (rfence_reply c.args.config.now call)) (sym c.in-RemoteSfenceVmaAsid.is)

pub returns-in-RemoteSfenceVmaAsid-clause-after : goal.returns-in-RemoteSfenceVmaAsid-clause-after
returns-in-RemoteSfenceVmaAsid-clause-after c = λ o past regs at is stands.
    let remote : Result Flush SbiError → Remote = λ f. record { mask = c.in-RemoteSfenceVmaAsid.mask; base = c.in-RemoteSfenceVmaAsid.base; flush = f } in
    c.remote_fence-in-RemoteSfenceVmaAsid.ensures.after o past regs
    (calls.RemoteSfenceVmaAsid c.in-RemoteSfenceVmaAsid.mask c.in-RemoteSfenceVmaAsid.base c.in-RemoteSfenceVmaAsid.start c.in-RemoteSfenceVmaAsid.size c.in-RemoteSfenceVmaAsid.asid) at
    (ap remote (sym (c.flush_of_range-flush.ensures
    ∙ ap (λ (s : Spaces). flush_of_range s c.in-RemoteSfenceVmaAsid.start c.in-RemoteSfenceVmaAsid.size (Some c.in-RemoteSfenceVmaAsid.asid)) c.spaces-in-RemoteSfenceVmaAsid.ensures.spaces)))
    (ap Rfence (sym c.in-RemoteSfenceVmaAsid.is) ∙ is) stands
