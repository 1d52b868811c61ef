use Rattle.std.proofs.Common.{◌≡◌, ◌∙◌, arith, ap, refl, subst}
use Rattle.std.specs.Prelude.{Ok}
use Rattle.sbi_abi.specs.declared.answer.SbiError.TheVariants.{InvalidParam}
use Rattle.sbi_abi.specs.declared.call.Call.TheVariants.{Rfence}
use Rattle.rfence.specs.Inside.HartCaches.{dropped_of, emptied_of}
use Rattle.rfence.specs.Right.{IsRightTurn}
use Rattle.rfence.specs.State.{AreAffected, IsTakenAt}
use Rattle.rfence.specs.Turns.{Ask}
use Rattle.board_terms.specs.declared.op.Op.TheVariants.{Ecall}
use Rattle.board_terms.specs.declared.reply.Reply.TheVariants.{Ret, Waiting}
use Rattle.board_rules.specs.Calls.Rfence.{Remote}
use Rattle.board_rules.specs.Fences.{is_asked_by, turns}
use Rattle.board_rules.specs.History.{by_hart}
use Rattle.board_rules.specs.Replies.{failure}
use Rattle.board_rules.specs.Opening.{on}
use Rattle.board_rules.proofs.Events.{deed, deed_of_turn, does_call, does_no_remote, does_remote, still}
use Rattle.board_machine.proofs.Situations.{fences-later, fences-room, outside-read}
use Rattle.board_machine.proofs.MemoryStanding.{caches-turned, memory-caches}
use Rattle.board_machine.proofs.Reading.{length-caches}
use Rattle.board_machine.proofs.Standing.{fences-asked, stands-fences, stands-quiet}
use Rattle.board_machine.proofs.Targets.{asked-as, is_reached, reached-below}
use Rattle.std.specs.Vec.{with_items}
use Rattle.board_rules.proofs.Tables.{tabulated-items}
use Rattle.board_machine.proofs.machine.Machine.remote_fence.Goals as goal

pub returns-in-Err-clause-after : goal.returns-in-Err-clause-after
returns-in-Err-clause-after c = λ o past regs call at remote is stands.
    let opening = on c.args.config.now o in
    let h = c.args.h in
    let reply = Ret (failure InvalidParam) in
    rw (c.failure.ensures, c.into.ensures)
    (stands-quiet opening past (by_hart h (Ecall regs) reply) still (does_call opening past h regs (Rfence call) reply is ∙ does_no_remote opening past h call (failure InvalidParam))
    c.args.self.now refl stands)

pub returns-in-Err-flush-clause-after : goal.returns-in-Err-flush-clause-after
returns-in-Err-flush-clause-after c = λ o past regs call at remote is stands.
    let opening = on c.args.config.now o in
    let h = c.args.h in
    let error = c.in-Err-flush.error in
    let reply = Ret (failure error) in
    rw c.failure-in-Err-flush.ensures
    (stands-quiet opening past (by_hart h (Ecall regs) reply) still (does_call opening past h regs (Rfence call) reply is ∙ does_no_remote opening past h call (failure error))
    c.args.self.now refl stands)

pub ask-requires-clause-targets : goal.ask-requires-clause-targets
ask-requires-clause-targets c = λ t asked.
    let m = c.args.self.now in
    let standing = c.requires.standing.standing in
    let opening = on c.args.config.now standing.o in
    let most = c.requires.good.at_most_128_harts in
    let below = reached-below opening standing.past m.hsm most standing.stands.harts c.args.mask c.args.base c.in-Ok.harts c.interruptible.result c.intersection-asked.result
    c.in-Ok.ensures.answer c.in-Ok.ensures.below c.interruptible.ensures c.intersection-asked.ensures t asked in
    omega (arith, below, c.requires.sized.calls)

pub ask-requires-clause-room : goal.ask-requires-clause-room
ask-requires-clause-room c = fences-room c.args.config.now c.args.self.now c.requires.good c.requires.standing.standing

pub ask-requires-clause-place : goal.ask-requires-clause-place
ask-requires-clause-place c =
    fences-later c.args.config.now c.args.self.now c.requires.good c.requires.standing.standing c.args.place c.requires.standing.at

pub returns-in-Ok-flush-clause-after : goal.returns-in-Ok-flush-clause-after
returns-in-Ok-flush-clause-after c = λ o past regs call at remote is stands.
    let opening = on c.args.config.now o in
    let m = c.args.self.now in
    let h = c.args.h in
    let flush = c.in-Ok-flush.flush in
    let event = by_hart h (Ecall regs) Waiting in
    let turn = Ask h (is_asked_by opening past c.args.mask c.args.base) flush in
    let asks : Remote = record { mask = c.args.mask; base = c.args.base; flush = c.args.flush } in
    let d = deed_of_turn opening past turn in
    let does : deed opening past event ≡ d =
    does_call opening past h regs (Rfence call) Waiting is
    ∙ does_remote opening past h call (record asks { flush = Ok flush }) (remote ∙ ap (λ f. record asks { flush = f }) c.in-Ok-flush.is) in
    let same = asked-as opening past m.hsm c.requires.good.at_most_128_harts stands.harts c.args.mask c.args.base c.in-Ok.harts c.interruptible.result c.intersection-asked.result
    c.in-Ok.ensures.answer c.in-Ok.ensures.below c.interruptible.ensures c.intersection-asked.ensures h flush in
    let taken = subst (λ t. IsTakenAt c.args.place m.fences t c.ask.new.self) same c.ask.ensures.taken in
    let affected = subst (λ t. AreAffected dropped_of emptied_of m.fences t c.deref_mut.result.now c.ask.new.caches) same c.ask.ensures.affected in
    let right : IsRightTurn opening.fences opening.config.harts (turns opening past) turn = (
      c.requires.in_range,
      λ t asked. reached-below opening past m.hsm c.requires.good.at_most_128_harts stands.harts c.args.mask c.args.base c.in-Ok.harts c.interruptible.result c.intersection-asked.result
          c.in-Ok.ensures.answer c.in-Ok.ensures.below c.interruptible.ensures c.intersection-asked.ensures t
          (is_reached opening past m.hsm c.requires.good.at_most_128_harts stands.harts c.args.mask c.args.base c.in-Ok.harts c.interruptible.result c.intersection-asked.result
          c.in-Ok.ensures.answer c.in-Ok.ensures.below c.interruptible.ensures c.intersection-asked.ensures t ∙ asked),
      outside-read opening past m.fences stands.fences h c.requires.in_range c.requires.outside,
    ) in
    let memory = record m.memory { caches = with_items m.memory.caches c.ask.new.caches } in
    stands-fences opening past event d does m memory _ refl stands
    (memory-caches opening past event d does m.memory memory refl refl stands.memory refl refl
    (tabulated-items m.memory.caches _ _ opening.config.harts (length-caches opening past m.memory stands.memory)
    (caches-turned opening past event d does m.fences turn c.deref_mut.result.now c.ask.new.caches (λ j. refl) (λ j. refl) right stands.fences affected
    (c.deref_mut.ensures.value ∙ stands.memory.caches))))
    (fences-asked opening past event d does m.fences c.ask.new.self turn c.args.place refl taken at right stands.fences)
