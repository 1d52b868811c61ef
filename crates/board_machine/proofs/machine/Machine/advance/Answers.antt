use Rattle.std.proofs.Common.{◌≡◌, ap, sym, refl, ◌∙◌, false, true}
use Rattle.std.specs.Prelude.{None, Some, is_some}
use Rattle.hsm.specs.declared.hart.HartState.TheVariants.{Started}
use Rattle.hsm.specs.declared.hart.Moved.TheVariants as moves
use Rattle.board_terms.specs.declared.op.Op.TheVariants.{Advance}
use Rattle.board_terms.specs.declared.reply.Reply.TheVariants.{Entry, Moved, Ret}
use Rattle.board_rules.specs.Csrs.{none_enabled}
use Rattle.board_rules.specs.Replies.{success}
use Rattle.board_rules.specs.History.{by_hart}
use Rattle.board_rules.proofs.Events.{deed, deed_of_entry, deed_of_resume, does_entry, does_resume}
use Rattle.board_machine.proofs.Advances.{told}
use Rattle.board_machine.proofs.HartsStanding.{harts-own}
use Rattle.board_machine.proofs.InterruptsStanding.{interrupts-csrs, ipis-cleared, ssie-quiet, ssie-written, sstatus_sie-written, stie-quiet, stie-written, timers-set}
use Rattle.board_machine.proofs.MemoryStanding.{memory-satps, satps-written}
use Rattle.board_machine.proofs.Standing.{counts-entered, counts-still, fences-still, last-still, stands-harts}
use Rattle.board_machine.proofs.machine.Machine.advance.Goals as goal

pub unreachable-requires : goal.unreachable-requires
unreachable-requires c =
    let none : is_some c.advance.result ≡ false = ap is_some c.in-None.is in
    absurd (let apart : true ≡ false = sym c.requires.accepted ∙ sym c.advance.ensures.some ∙ none in cc)

pub returns-in-Some-Entered-clause-answered : goal.returns-in-Some-Entered-clause-answered
returns-in-Some-Entered-clause-answered c = λ o past stands.
    (told o past c.args.self.now.hsm c.args.h true (moves.Entered c.in-Some-Entered.start) stands.harts c.requires.in_range
    (sym c.advance.ensures.answer ∙ c.in-Some-Entered.is ∙ ap Some c.in-Some-Entered.field-0-is)).reply

pub returns-in-Some-Resumed-clause-answered : goal.returns-in-Some-Resumed-clause-answered
returns-in-Some-Resumed-clause-answered c = λ o past stands.
    (told o past c.args.self.now.hsm c.args.h true (moves.Resumed c.in-Some-Resumed.resume) stands.harts c.requires.in_range
    (sym c.advance.ensures.answer ∙ c.in-Some-Resumed.is ∙ ap Some c.in-Some-Resumed.field-0-is)).reply

pub returns-in-Some-Returned-clause-answered : goal.returns-in-Some-Returned-clause-answered
returns-in-Some-Returned-clause-answered c = λ o past stands.
    (told o past c.args.self.now.hsm c.args.h true moves.Returned stands.harts c.requires.in_range
    (sym c.advance.ensures.answer ∙ c.in-Some-Returned.is ∙ ap Some c.in-Some-Returned.field-0-is)).reply

pub returns-in-Some-To-clause-answered : goal.returns-in-Some-To-clause-answered
returns-in-Some-To-clause-answered c = λ o past stands.
    (told o past c.args.self.now.hsm c.args.h true (moves.To c.in-Some-To.state) stands.harts c.requires.in_range
    (sym c.advance.ensures.answer ∙ c.in-Some-To.is ∙ ap Some c.in-Some-To.field-0-is)).reply

pub returns-in-Some-Entered-clause-after : goal.returns-in-Some-Entered-clause-after
returns-in-Some-Entered-clause-after c = λ o past stands.
    let m = c.args.self.now in
    let h = c.args.h in
    let start = c.in-Some-Entered.start in
    let t = told o past m.hsm h true (moves.Entered start) stands.harts c.requires.in_range
    (sym c.advance.ensures.answer ∙ c.in-Some-Entered.is ∙ ap Some c.in-Some-Entered.field-0-is) in
    let event = by_hart h Advance (Entry start.addr h start.opaque) in
    let d = deed_of_entry o past h start.addr start.opaque in
    let does = does_entry o past h start.addr start.opaque t.enters in
    let csrs = stands.interrupts.csrs in
    record {
      harts = record { each = c.advance.ensures.after ∙ t.after ∙ (harts-own o past event d does m.hsm h Started refl refl refl (λ j. refl) stands.harts).each };
      interrupts = rw c.enter.ensures record {
        csrs = record {
          sstatus_sie = sstatus_sie-written o past event d does h refl m.interrupts.csrs.sstatus_sie false refl csrs.sstatus_sie;
          ssie = ssie-written o past event d does h refl m.interrupts.csrs.ssie none_enabled refl csrs.ssie;
          stie = stie-written o past event d does h refl m.interrupts.csrs.stie none_enabled refl csrs.stie;
        };
        ipis = ipis-cleared o past event d does h refl m.interrupts.ipis refl (λ i. refl) stands.interrupts.ipis;
        timers = timers-set o past event d does h refl m.interrupts.timers None refl refl stands.interrupts.timers;
      };
      memory = memory-satps o past event d does m.memory _ refl stands.memory c.make_bare.ensures.ram c.make_bare.ensures.caches
          (c.make_bare.ensures.satps ∙ satps-written o past event d does m.memory.satps.items h 0 refl refl stands.memory.satps);
      fences = fences-still o past event d does m.fences refl stands.fences;
      counts = counts-entered o past event d does m.counts _ refl refl stands.counts;
      last_reset = last-still o past event d does m.last_reset refl stands.last_reset;
    }

pub returns-in-Some-Resumed-clause-after : goal.returns-in-Some-Resumed-clause-after
returns-in-Some-Resumed-clause-after c = λ o past stands.
    let m = c.args.self.now in
    let h = c.args.h in
    let resume = c.in-Some-Resumed.resume in
    let t = told o past m.hsm h true (moves.Resumed resume) stands.harts c.requires.in_range
    (sym c.advance.ensures.answer ∙ c.in-Some-Resumed.is ∙ ap Some c.in-Some-Resumed.field-0-is) in
    let event = by_hart h Advance (Entry resume.addr h resume.opaque) in
    let d = deed_of_resume o past h in
    let does = does_resume o past h resume.addr resume.opaque t.enters in
    let csrs = stands.interrupts.csrs in
    record {
      harts = record { each = c.advance.ensures.after ∙ t.after ∙ (harts-own o past event d does m.hsm h Started refl refl refl (λ j. refl) stands.harts).each };
      interrupts = interrupts-csrs o past event d does m.interrupts _ refl stands.interrupts record {
        sstatus_sie = c.set.ensures ∙ sstatus_sie-written o past event d does h refl m.interrupts.csrs.sstatus_sie false refl csrs.sstatus_sie;
        ssie = ssie-quiet o past event d does m.interrupts.csrs.ssie refl csrs.ssie;
        stie = stie-quiet o past event d does m.interrupts.csrs.stie refl csrs.stie;
      };
      memory = memory-satps o past event d does m.memory _ refl stands.memory c.make_bare-in-Some-Resumed.ensures.ram c.make_bare-in-Some-Resumed.ensures.caches
          (c.make_bare-in-Some-Resumed.ensures.satps ∙ satps-written o past event d does m.memory.satps.items h 0 refl refl stands.memory.satps);
      fences = fences-still o past event d does m.fences refl stands.fences;
      counts = counts-still o past event d does m.counts refl refl stands.counts;
      last_reset = last-still o past event d does m.last_reset refl stands.last_reset;
    }

pub returns-in-Some-Returned-clause-after : goal.returns-in-Some-Returned-clause-after
returns-in-Some-Returned-clause-after c = λ o past stands.
    let m = c.args.self.now in
    let t = told o past m.hsm c.args.h true moves.Returned stands.harts c.requires.in_range
    (sym c.advance.ensures.answer ∙ c.in-Some-Returned.is ∙ ap Some c.in-Some-Returned.field-0-is) in
    let event = by_hart c.args.h Advance (Ret (success 0)) in
    let d = deed o past event in
    stands-harts o past event d refl m _ refl stands
    (record { each = c.advance.ensures.after ∙ t.after ∙ (harts-own o past event d refl m.hsm c.args.h Started refl refl refl (λ j. refl) stands.harts).each })

pub returns-in-Some-To-clause-after : goal.returns-in-Some-To-clause-after
returns-in-Some-To-clause-after c = λ o past stands.
    let m = c.args.self.now in
    let s = c.in-Some-To.state in
    let t = told o past m.hsm c.args.h true (moves.To s) stands.harts c.requires.in_range
    (sym c.advance.ensures.answer ∙ c.in-Some-To.is ∙ ap Some c.in-Some-To.field-0-is) in
    let event = by_hart c.args.h Advance (Moved s) in
    let d = deed o past event in
    stands-harts o past event d refl m _ refl stands
    (record { each = c.advance.ensures.after ∙ t.after ∙ (harts-own o past event d refl m.hsm c.args.h s refl refl refl (λ j. refl) stands.harts).each })
