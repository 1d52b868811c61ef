use Rattle.std.proofs.Common.{sym, ◌∙◌, refl, arith, true, false, ◌≡◌}
use Rattle.std.specs.Prelude.{None}
use Rattle.sbi_abi.specs.declared.answer.SbiError.TheVariants.{Failed}
use Rattle.sbi_abi.specs.declared.call.Call.TheVariants.{Hsm}
use Rattle.sbi_abi.specs.declared.call.hsm.HsmCall.TheVariants.{HartStop}
use Rattle.hsm.specs.declared.hart.HartState.TheVariants.{StopPending}
use Rattle.board_terms.specs.declared.op.Op.TheVariants.{Ecall}
use Rattle.board_terms.specs.declared.reply.Reply.TheVariants.{Ret, Gone}
use Rattle.board_rules.specs.Csrs.{sstatus_sie}
use Rattle.board_rules.specs.Replies.{failure}
use Rattle.board_rules.specs.History.{by_hart}
use Rattle.rfence.specs.Turns.{Stop}
use Rattle.board_rules.specs.Opening.{on}
use Rattle.board_machine.proofs.Situations.{fences-room}
use Rattle.board_rules.proofs.Events.{deed_of_call, does_call}
use Rattle.board_machine.proofs.HartsStanding.{harts-own}
use Rattle.board_machine.proofs.InterruptsStanding.{interrupts-timers, timers-set}
use Rattle.board_machine.proofs.MemoryStanding.{caches-turned, memory-caches}
use Rattle.board_machine.proofs.Reading.{bit-read, length-caches}
use Rattle.board_machine.proofs.Standing.{fences-turned, stands-but-counts, stands-quiet}
use Rattle.std.specs.Vec.{with_items}
use Rattle.board_rules.proofs.Tables.{tabulated-items}
use Rattle.board_machine.proofs.machine.Machine.hart_stop.Goals as goal

pub discharge_all-requires-clause-room : goal.discharge_all-requires-clause-room
discharge_all-requires-clause-room c = fences-room c.args.config.now c.args.self.now c.requires.good c.requires.standing

pub returns-then-contains-clause-answered : goal.returns-then-contains-clause-answered
returns-then-contains-clause-answered c = λ o past stands.
    let opening = on c.args.config.now o in
    let on : sstatus_sie opening past c.args.h ≡ true =
    sym (bit-read opening past (sstatus_sie opening past) c.args.self.now.interrupts.csrs.sstatus_sie c.args.h
    (omega (arith, c.requires.in_range, c.requires.good.at_most_128_harts)) stands.interrupts.csrs.sstatus_sie)
    ∙ sym c.contains.ensures.answer ∙ c.if-contains.true in
    rw on c.failure.ensures

pub returns-then-contains-clause-after : goal.returns-then-contains-clause-after
returns-then-contains-clause-after c = λ o past regs is stands.
    let opening = on c.args.config.now o in
    let reply = Ret (failure Failed) in
    rw c.failure.ensures
    (stands-quiet opening past (by_hart c.args.h (Ecall regs) reply) (deed_of_call opening past c.args.h (Hsm HartStop) reply)
    (does_call opening past c.args.h regs (Hsm HartStop) reply is) c.args.self.now refl stands)

pub returns-clause-answered : goal.returns-clause-answered
returns-clause-answered c = λ o past stands.
    let opening = on c.args.config.now o in
    let off : sstatus_sie opening past c.args.h ≡ false =
    sym (bit-read opening past (sstatus_sie opening past) c.args.self.now.interrupts.csrs.sstatus_sie c.args.h
    (omega (arith, c.requires.in_range, c.requires.good.at_most_128_harts)) stands.interrupts.csrs.sstatus_sie)
    ∙ sym c.contains.ensures.answer ∙ c.if-contains.false in
    rw off refl

pub returns-clause-after : goal.returns-clause-after
returns-clause-after c = λ o past regs is stands.
    let opening = on c.args.config.now o in
    let m = c.args.self.now in
    let h = c.args.h in
    let event = by_hart h (Ecall regs) Gone in
    let d = deed_of_call opening past h (Hsm HartStop) Gone in
    let does = does_call opening past h regs (Hsm HartStop) Gone is in
    let turn = Stop h in
    let memory = record m.memory { caches = with_items m.memory.caches c.discharge_all.new.caches } in
    let right = c.requires.in_range in
    rw c.forget.ensures
    (stands-but-counts opening past event d does m _ _ memory _ refl refl stands
    (record { each = c.stop.ensures ∙ (harts-own opening past event d does m.hsm h StopPending refl refl refl (λ j. refl) stands.harts).each })
    (interrupts-timers opening past event d does m.interrupts _ refl stands.interrupts
    (timers-set opening past event d does h refl m.interrupts.timers None refl refl stands.interrupts.timers))
    (memory-caches opening past event d does m.memory memory refl refl stands.memory refl refl
    (tabulated-items m.memory.caches _ _ opening.config.harts (length-caches opening past m.memory stands.memory)
    (caches-turned opening past event d does m.fences turn c.deref_mut.result.now c.discharge_all.new.caches (λ j. refl) (λ j. refl) right stands.fences c.discharge_all.ensures.affected
    (c.deref_mut.ensures.value ∙ stands.memory.caches))))
    (fences-turned opening past event d does m.fences c.discharge_all.new.self turn refl c.discharge_all.ensures.taken right stands.fences))
