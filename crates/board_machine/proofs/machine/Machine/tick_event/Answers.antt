use Rattle.std.proofs.Common.{◌≡◌, refl, sym, ap, ◌∙◌, true}
use Rattle.std.specs.Prelude.{is_ok, is_some}
use Rattle.interrupts.specs.Timing.{ticked}
use Rattle.board_rules.specs.History.{by_clock}
use Rattle.board_terms.specs.declared.op.Op.TheVariants.{Tick}
use Rattle.board_terms.specs.declared.reply.Reply.TheVariants.{Done}
use Rattle.board_rules.proofs.Events.{deed}
use Rattle.board_machine.proofs.InterruptsStanding.{interrupts-timers, timers-ticked}
use Rattle.board_machine.proofs.Standing.{stands-interrupts}
use Rattle.board_rules.proofs.Steps.{ticked_on}
use Rattle.board_machine.proofs.machine.Machine.tick_event.Goals as goal

pub returns-clause-after : goal.returns-clause-after
returns-clause-after c = λ o past stands.
    let n = c.args.n in
    let m = c.args.self.now in
    let timers = m.interrupts.timers in
    let tick = by_clock (Tick n) Done in
    let d = deed o past tick in
    let taken : is_some (ticked timers n) ≡ true = sym c.tick.ensures.answer ∙ ap is_ok c.in-Ok.is in
    rw (c.new.ensures, c.tick.ensures.after)
    (stands-interrupts o past tick d refl m _ refl stands (interrupts-timers o past tick d refl m.interrupts _ refl stands.interrupts
    (rw (ticked_on timers n taken).0 (timers-ticked o past tick d refl timers n refl refl stands.interrupts.timers))))
