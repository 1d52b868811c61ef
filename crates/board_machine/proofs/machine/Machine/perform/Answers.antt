use Rattle.std.proofs.Common.{ap, refl, ◌∙◌, arith}
use Rattle.std.specs.Prelude.{slice_set}
use Rattle.tlb_model.specs.declared.fence.Flush.TheVariants.{Words, Entries}
use Rattle.tlb_model.specs.Contents.{fenced}
use Rattle.tlb_model.specs.Entries.{covers_entry}
use Rattle.tlb_model.specs.Fences.{fence_of_address}
use Rattle.tlb_model.specs.Words.{covers_word}
use Rattle.board_terms.specs.Limits.{spaces_of}
use Rattle.board_machine.specs.Stands.{caches_at, satp_at, situation_in}
use Rattle.std.specs.Vec.{with_items}
use Rattle.rfence.specs.Turns as fence_turns
use Rattle.board_rules.specs.Fences.{turns}
use Rattle.board_rules.specs.Opening.{on}
use Rattle.board_rules.proofs.Rows.{accepted_goes_on, running_parts}
use Rattle.fence_queue.specs.Queues.{queue_at}
use Rattle.rfence.specs.State.{call_at}
use Rattle.board_machine.proofs.Situations.{call-over, counts-room, fences-room, poll-right, serve-right, some-wait}
use Rattle.board_rules.proofs.Tables.{tabulated-items}
use Rattle.sv39.specs.declared.paging.Spaces.{Spaces}
use Rattle.sv39.specs.Satp.{satp_written}
use Rattle.board_terms.specs.declared.op.Op.TheVariants.{ClearSsip, FenceI, Poll, ReadSip, Serve, Sfence, Wfi, WriteSatp, WriteSie, WriteSstatusSie}
use Rattle.board_terms.specs.declared.reply.Reply.TheVariants.{Done, Ret, Served, Value}
use Rattle.board_rules.specs.Csrs.{sie_of}
use Rattle.board_rules.specs.History.{by_hart}
use Rattle.board_rules.specs.Replies.{success}
use Rattle.board_rules.proofs.Events.{deed}
use Rattle.board_machine.proofs.InterruptsStanding.{interrupts-csrs, interrupts-ipis, ipis-cleared, ssie-quiet, ssie-written, sstatus_sie-quiet, sstatus_sie-written, stie-quiet, stie-written}
use Rattle.board_machine.proofs.MemoryStanding.{caches-fenced, caches-turned, memory-caches, memory-satps, memory-still, own-drops, own-spares, satps-put}
use Rattle.board_machine.proofs.Reading.{caches-read, length-caches, satp-read, sip-read}
use Rattle.board_machine.proofs.Standing.{fences-own, fences-turned, stands-fences, stands-interrupts, stands-memory, stands-quiet}
use Rattle.board_machine.proofs.machine.Machine.perform.Goals as goal

pub returns-in-Ecall-clause-after : goal.returns-in-Ecall-clause-after
returns-in-Ecall-clause-after c = λ o past at stands. rw c.in-Ecall.is (c.call.ensures.after o past c.in-Ecall.regs at c.decode.ensures stands)

pub returns-in-WriteSatp-clause-after : goal.returns-in-WriteSatp-clause-after
returns-in-WriteSatp-clause-after c = λ o past at stands.
    let opening = on c.args.config.now o in
    let m = c.args.self.now in
    let h = c.args.h in
    let event = by_hart h (WriteSatp c.in-WriteSatp.value) Done in
    let does = deed opening past event in
    rw c.in-WriteSatp.is
    (stands-memory opening past event does refl m _ refl stands (memory-satps opening past event does refl m.memory _ refl stands.memory c.write_satp.ensures.ram c.write_satp.ensures.caches
    (c.write_satp.ensures.satps
    ∙ ap (λ (s : Spaces). slice_set m.memory.satps.items h (satp_written s (satp_at m.memory h) c.in-WriteSatp.value)) c.spaces.ensures.spaces
    ∙ ap (λ satp. slice_set m.memory.satps.items h (satp_written (spaces_of opening.config) satp c.in-WriteSatp.value)) (satp-read opening past m.memory h 0 c.requires.in_range stands.memory)
    ∙ satps-put opening past event does refl m.memory.satps.items h c.in-WriteSatp.value refl refl stands.memory.satps)))

pub returns-in-Sfence-clause-after : goal.returns-in-Sfence-clause-after
returns-in-Sfence-clause-after c = λ o past at stands.
    let opening = on c.args.config.now o in
    let m = c.args.self.now in
    let h = c.args.h in
    let flush = Entries (fence_of_address (spaces_of opening.config) c.in-Sfence.va c.in-Sfence.asid) in
    let event = by_hart h (Sfence c.in-Sfence.va c.in-Sfence.asid) Done in
    let d = deed opening past event in
    rw (c.in-Sfence.is)
    (stands-fences opening past event d refl m _ m.fences refl stands (memory-caches opening past event d refl m.memory _ refl refl stands.memory c.fence.ensures.ram c.fence.ensures.satps
    (c.fence.ensures.caches
    ∙ ap (λ f. slice_set m.memory.caches.items h (record { tlb = fenced covers_entry (caches_at m.memory h).tlb (Entries f); words = fenced covers_word (caches_at m.memory h).words (Entries f) }))
    (c.of_address.ensures ∙ ap (λ (s : Spaces). fence_of_address s c.in-Sfence.va c.in-Sfence.asid) c.spaces-in-Sfence.ensures.spaces)
    ∙ caches-fenced opening past event d refl m.memory h flush
    (λ j other. (own-spares opening.fences (turns opening past) h flush j other, own-spares opening.fences (turns opening past) h flush j other))
    (caches-read opening past m.memory h c.requires.in_range stands.memory) (own-drops opening.fences (turns opening past) h flush)
    (own-drops opening.fences (turns opening past) h flush) stands.memory.caches))
    (fences-own opening past event d refl m.fences h flush c.requires.in_range refl stands.fences))

pub returns-in-FenceI-clause-after : goal.returns-in-FenceI-clause-after
returns-in-FenceI-clause-after c = λ o past at stands.
    let opening = on c.args.config.now o in
    let m = c.args.self.now in
    let h = c.args.h in
    let event = by_hart h FenceI Done in
    let d = deed opening past event in
    rw (c.in-FenceI.is)
    (stands-fences opening past event d refl m _ m.fences refl stands
    (memory-caches opening past event d refl m.memory _ refl refl stands.memory c.fence-in-FenceI.ensures.ram c.fence-in-FenceI.ensures.satps
    (c.fence-in-FenceI.ensures.caches
    ∙ caches-fenced opening past event d refl m.memory h Words
    (λ j other. (own-spares opening.fences (turns opening past) h Words j other, own-spares opening.fences (turns opening past) h Words j other))
    (caches-read opening past m.memory h c.requires.in_range stands.memory) (own-drops opening.fences (turns opening past) h Words)
    (own-drops opening.fences (turns opening past) h Words) stands.memory.caches))
    (fences-own opening past event d refl m.fences h Words c.requires.in_range refl stands.fences))

pub poll-requires-clause-over : goal.poll-requires-clause-over
poll-requires-clause-over c =
    let ready = rw c.in-Poll.is at c.requires.accepted in
    call-over (call_at c.args.self.now.fences c.args.h) ready.in_phase ready.to_do

pub returns-in-Poll-clause-after : goal.returns-in-Poll-clause-after
returns-in-Poll-clause-after c = λ o past at stands.
    let opening = on c.args.config.now o in
    let m = c.args.self.now in
    let h = c.args.h in
    let event = by_hart h Poll (Ret (success 0)) in
    let d = deed opening past event in
    let ready = rw c.in-Poll.is at c.requires.accepted in
    rw c.in-Poll.is
    (stands-fences opening past event d refl m m.memory c.poll.new.self refl stands (memory-still opening past event d refl m.memory refl stands.memory)
    (fences-turned opening past event d refl m.fences _ (fence_turns.Poll h) refl c.poll.ensures
    (poll-right opening past m.fences stands.fences h c.requires.in_range ready.in_phase ready.to_do) stands.fences))

pub serve-requires-clause-waits : goal.serve-requires-clause-waits
serve-requires-clause-waits c =
    let ready = rw c.in-Serve.is at c.requires.accepted in
    some-wait (queue_at c.args.self.now.fences.queues c.args.h) ready.to_do

pub serve-requires-clause-room : goal.serve-requires-clause-room
serve-requires-clause-room c = fences-room c.args.config.now c.args.self.now c.requires.good c.requires.standing.standing

pub returns-in-Serve-clause-after : goal.returns-in-Serve-clause-after
returns-in-Serve-clause-after c = λ o past at stands.
    let opening = on c.args.config.now o in
    let m = c.args.self.now in
    let h = c.args.h in
    let event = by_hart h Serve Served in
    let d = deed opening past event in
    let ready = rw c.in-Serve.is at c.requires.accepted in
    let turn = fence_turns.Serve h in
    let right = serve-right opening past m.fences stands.fences h c.requires.in_range ready.to_do in
    let memory = record m.memory { caches = with_items m.memory.caches c.serve.new.caches } in
    rw c.in-Serve.is
    (stands-fences opening past event d refl m memory c.serve.new.self refl stands
    (memory-caches opening past event d refl m.memory memory refl refl stands.memory refl refl
    (tabulated-items m.memory.caches _ _ opening.config.harts (length-caches opening past m.memory stands.memory)
    (caches-turned opening past event d refl m.fences turn c.deref_mut.result.now c.serve.new.caches (λ j. refl) (λ j. refl) right stands.fences c.serve.ensures.affected
    (c.deref_mut.ensures.value ∙ stands.memory.caches))))
    (fences-turned opening past event d refl m.fences c.serve.new.self turn refl c.serve.ensures.taken right stands.fences))

pub call-requires-clause-started : goal.call-requires-clause-started
call-requires-clause-started c = (running_parts (situation_in c.args.self.now c.args.h) (rw c.in-Ecall.is at c.requires.accepted).in_phase).0

pub call-requires-clause-outside : goal.call-requires-clause-outside
call-requires-clause-outside c = (running_parts (situation_in c.args.self.now c.args.h) (rw c.in-Ecall.is at c.requires.accepted).in_phase).1

pub advance-requires-clause-accepted : goal.advance-requires-clause-accepted
advance-requires-clause-accepted c = accepted_goes_on (situation_in c.args.self.now c.args.h) (rw c.in-Advance.is at c.requires.accepted)

pub advance-requires-clause-room : goal.advance-requires-clause-room
advance-requires-clause-room c = counts-room c.args.config.now c.args.self.now c.requires.good c.requires.standing.standing

pub returns-in-WriteSie-clause-after : goal.returns-in-WriteSie-clause-after
returns-in-WriteSie-clause-after c = λ o past at stands.
    let opening = on c.args.config.now o in
    let m = c.args.self.now in
    let csrs = m.interrupts.csrs in
    let h = c.args.h in
    let sie = sie_of c.in-WriteSie.value in
    let event = by_hart h (WriteSie c.in-WriteSie.value) Done in
    let does = deed opening past event in
    rw (c.in-WriteSie.is, c.write_sie.ensures, c.of.ensures)
    (stands-interrupts opening past event does refl m _ refl stands (interrupts-csrs opening past event does refl m.interrupts _ refl stands.interrupts record {
      sstatus_sie = sstatus_sie-quiet opening past event does refl csrs.sstatus_sie refl stands.interrupts.csrs.sstatus_sie;
      ssie = ssie-written opening past event does refl h refl csrs.ssie sie refl stands.interrupts.csrs.ssie;
      stie = stie-written opening past event does refl h refl csrs.stie sie refl stands.interrupts.csrs.stie;
    }))

pub returns-in-WriteSstatusSie-clause-after : goal.returns-in-WriteSstatusSie-clause-after
returns-in-WriteSstatusSie-clause-after c = λ o past at stands.
    let opening = on c.args.config.now o in
    let m = c.args.self.now in
    let csrs = m.interrupts.csrs in
    let h = c.args.h in
    let event = by_hart h (WriteSstatusSie c.in-WriteSstatusSie.value) Done in
    let does = deed opening past event in
    rw c.in-WriteSstatusSie.is
    (stands-interrupts opening past event does refl m _ refl stands (interrupts-csrs opening past event does refl m.interrupts _ refl stands.interrupts record {
      sstatus_sie = c.set.ensures ∙ sstatus_sie-written opening past event does refl h refl csrs.sstatus_sie c.in-WriteSstatusSie.value refl stands.interrupts.csrs.sstatus_sie;
      ssie = ssie-quiet opening past event does refl csrs.ssie refl stands.interrupts.csrs.ssie;
      stie = stie-quiet opening past event does refl csrs.stie refl stands.interrupts.csrs.stie;
    }))

pub returns-in-ReadSip-clause-answered : goal.returns-in-ReadSip-clause-answered
returns-in-ReadSip-clause-answered c = λ o past stands.
    let below = c.requires.good.at_most_128_harts in
    rw c.in-ReadSip.is (ap Value
    (c.sip.ensures ∙ sip-read (on c.args.config.now o) past c.args.self.now.interrupts c.args.h (omega (arith, c.requires.in_range)) c.requires.in_range stands.interrupts))

pub returns-in-ReadSip-clause-after : goal.returns-in-ReadSip-clause-after
returns-in-ReadSip-clause-after c = λ o past at stands.
    let opening = on c.args.config.now o in
    let event = by_hart c.args.h ReadSip (Value c.sip.result) in
    rw c.in-ReadSip.is (stands-quiet opening past event (deed opening past event) refl c.args.self.now refl stands)

pub returns-in-ClearSsip-clause-after : goal.returns-in-ClearSsip-clause-after
returns-in-ClearSsip-clause-after c = λ o past at stands.
    let opening = on c.args.config.now o in
    let m = c.args.self.now in
    let h = c.args.h in
    let event = by_hart h ClearSsip Done in
    let does = deed opening past event in
    rw (c.in-ClearSsip.is, c.clear.ensures)
    (stands-interrupts opening past event does refl m _ refl stands (interrupts-ipis opening past event does refl m.interrupts _ refl stands.interrupts
    (ipis-cleared opening past event does refl h refl m.interrupts.ipis refl (λ i. refl) stands.interrupts.ipis)))

pub returns-in-Wfi-clause-after : goal.returns-in-Wfi-clause-after
returns-in-Wfi-clause-after c = λ o past at stands.
    let opening = on c.args.config.now o in
    let event = by_hart c.args.h Wfi Done in
    rw c.in-Wfi.is (stands-quiet opening past event (deed opening past event) refl c.args.self.now refl stands)

pub returns-in-Advance-clause-after : goal.returns-in-Advance-clause-after
returns-in-Advance-clause-after c = λ o past at stands. rw c.in-Advance.is (c.advance.ensures.after (on c.args.config.now o) past stands)
