use Rattle.std.proofs.Common.{◌≡◌, length, refl, sym, ap, ◌∙◌}
use Rattle.std.specs.Prelude.{Some, None, Result, Ok, Err, if◌then◌else◌}
use Rattle.std.specs.Vec.{with_items}
use Rattle.std.specs.Global.{Vec}
use Rattle.sv39.specs.Memory.{pages_of, word_in, zero_memory}
use Rattle.tlb_model.specs.declared.caches.Caches.{Caches}
use Rattle.hsm.specs.Transitions.{reset_to}
use Rattle.sbi_abi.specs.declared.call.Call.TheVariants.{Srst}
use Rattle.sbi_abi.specs.declared.answer.SbiError.{SbiError}
use Rattle.sbi_abi.specs.declared.call.srst.SrstCall.{SrstCall}
use Rattle.sbi_abi.specs.declared.call.srst.SrstCall.TheVariants.{SystemReset}
use Rattle.sbi_abi.specs.declared.reset.Reset.{Reset}
use Rattle.rfence.specs.Turns as turns
use Rattle.board_terms.specs.declared.op.Op.TheVariants.{Ecall}
use Rattle.board_terms.specs.declared.reply.Reply.TheVariants.{Ret, Gone}
use Rattle.board_rules.specs.History.{by_hart}
use Rattle.board_rules.specs.Replies.{failure}
use Rattle.board_rules.specs.Opening.{on}
use Rattle.board_rules.proofs.Events.{deed_of_call, does_call}
use Rattle.board_machine.proofs.Resetting.{harts-anew}
use Rattle.board_machine.proofs.Situations.{fences-room}
use Rattle.board_machine.proofs.HartsStanding.{harts-reset, length-harts}
use Rattle.board_machine.proofs.InterruptsStanding.{interrupts-reset}
use Rattle.board_machine.proofs.MemoryStanding.{caches-turned, memory-reset}
use Rattle.board_machine.proofs.Reading.{length-caches}
use Rattle.board_machine.proofs.Standing.{call-quiet, counts-reset, fences-turned, last-reset}
use Rattle.board_rules.proofs.Tables.{tabulated-items}
use Rattle.board_machine.proofs.machine.Machine.srst_call.Goals as goal

-- a call of this extension asks for a reset, or says why it is refused
asked_in : SrstCall → Result Reset SbiError
asked_in (SystemReset reset) = reset

resets : (call : SrstCall) → call ≡ SystemReset (asked_in call)
unfolding asked_in
resets (SystemReset reset) = refl

pub reset-requires-4 : goal.reset-requires-4
reset-requires-4 c = fences-room c.args.config.now c.args.self.now c.requires.good c.requires.standing

pub returns-in-Err-clause-after : goal.returns-in-Err-clause-after
returns-in-Err-clause-after c = λ h o past regs is stands.
    rw c.failure.ensures
    (call-quiet (on c.args.config.now o) past h regs (Srst (SystemReset (Err c.in-Err.error))) (Ret (failure c.in-Err.error)) c.args.self.now
    (ap Srst (sym (resets c.args.call ∙ ap SystemReset (rw (resets c.args.call) at c.in-Err.is))) ∙ is) refl stands)

pub returns-clause-after : goal.returns-clause-after
returns-clause-after c = λ h o past regs is stands.
    let opening = on c.args.config.now o in
    let m = c.args.self.now in
    let reset = c.in-Ok.reset in
    let event = by_hart h (Ecall regs) Gone in
    let call = Srst (SystemReset (Ok reset)) in
    let d = deed_of_call opening past h call Gone in
    let does = does_call opening past h regs call Gone (ap Srst (sym (resets c.args.call ∙ ap SystemReset (rw (resets c.args.call) at c.in-Ok.is))) ∙ is) in
    let memory = record c.reset-3.new.self { caches = with_items c.reset-3.new.self.caches c.reset-4.new.caches } in
    let turned =
    caches-turned opening past event d does m.fences turns.Reset c.deref_mut.result.now c.reset-4.new.caches (λ j. refl) (λ j. refl) tt stands.fences c.reset-4.ensures.affected
    (c.deref_mut.ensures.value ∙ ap (λ (caches : Vec Caches). caches.items) c.reset-3.ensures.caches ∙ stands.memory.caches) in
    record {
      harts = harts-reset opening past event d does c.reset.new.self reset refl refl
          (c.reset.ensures ∙ ap (λ n. reset_to n opening.config.boot_hart c.boot.result) (length-harts opening past m.hsm stands.harts)
          ∙ harts-anew opening.config reset c.boot.result
          (c.boot.ensures ∙ ap (λ b. if b then Some (record { addr = opening.config.boot_addr; opaque = opening.config.boot_opaque }) else None) c.begins_anew-anew.ensures));
      interrupts = rw c.reset-2.ensures (interrupts-reset opening past event d does m.interrupts refl stands.interrupts);
      memory = memory-reset opening past event d does m.memory memory reset refl refl stands.memory c.reset-3.ensures.satps
          (c.reset-3.ensures.ram ∙ ap (λ b. if b then zero_memory (pages_of m.memory.ram) else word_in m.memory.ram) c.is_cold.ensures) c.reset-3.ensures.pages
          (tabulated-items c.reset-3.new.self.caches _ _ opening.config.harts
          (ap length (ap (λ (caches : Vec Caches). caches.items) c.reset-3.ensures.caches) ∙ length-caches opening past m.memory stands.memory) turned);
      fences = fences-turned opening past event d does m.fences c.reset-4.new.self turns.Reset refl c.reset-4.ensures.taken tt stands.fences;
      counts = rw (c.new-self.ensures, c.begins_anew-anew.ensures) (counts-reset opening past event d does reset refl refl);
      last_reset = last-reset opening past event d does reset refl;
    }
