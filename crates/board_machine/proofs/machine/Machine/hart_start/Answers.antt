use Rattle.std.proofs.Common.{sym, ◌∙◌, refl, ap}
use Rattle.std.proofs.lemmas.Bool.{lt-leb}
use Rattle.hsm.specs.declared.hart.EntryPoint.{EntryPoint}
use Rattle.hsm.specs.Harts.{Hart}
use Rattle.hsm.specs.States.{is_stopped}
use Rattle.hsm.specs.Transitions.{changed, hart_at, started_from}
use Rattle.sbi_abi.specs.declared.answer.SbiError.TheVariants.{AlreadyAvailable, InvalidAddress, InvalidParam}
use Rattle.sbi_abi.specs.declared.call.Call.TheVariants.{Hsm}
use Rattle.sbi_abi.specs.declared.call.hsm.HsmCall.TheVariants.{HartStart}
use Rattle.board_terms.specs.declared.op.Op.TheVariants.{Ecall}
use Rattle.board_terms.specs.declared.reply.Reply.TheVariants.{Ret}
use Rattle.board_rules.specs.Replies.{failure, success}
use Rattle.board_rules.specs.History.{by_hart}
use Rattle.board_rules.specs.Opening.{on}
use Rattle.board_rules.proofs.Events.{deed_of_call, does_call}
use Rattle.board_rules.proofs.Rows.{started_stopped, unstarted_not_stopped, unstarted_same}
use Rattle.board_machine.proofs.HartsStanding.{hart_at-stand, harts-started}
use Rattle.board_machine.proofs.Standing.{call-quiet, counts-started, stands-harts-counts, stands-quiet}
use Rattle.board_machine.proofs.machine.Machine.hart_start.Goals as goal

pub returns-then-t-config-clause-after : goal.returns-then-t-config-clause-after
returns-then-t-config-clause-after c = λ x o past regs is stands.
    rw c.failure.ensures (call-quiet (on c.args.config.now o) past x regs (Hsm (HartStart c.args.t c.args.addr c.args.opaque)) (Ret (failure InvalidParam)) c.args.self.now is refl stands)

pub returns-then-not-is_start_address-clause-after : goal.returns-then-not-is_start_address-clause-after
returns-then-not-is_start_address-clause-after c = λ x o past regs is stands.
    rw c.failure-then-not-is_start_address.ensures
    (call-quiet (on c.args.config.now o) past x regs (Hsm (HartStart c.args.t c.args.addr c.args.opaque)) (Ret (failure InvalidAddress)) c.args.self.now is refl stands)

pub returns-in-Ok-clause-answered : goal.returns-in-Ok-clause-answered
returns-in-Ok-clause-answered c = λ x o past stands.
    let m = c.args.self.now in
    let start : EntryPoint = record { addr = c.args.addr; opaque = c.args.opaque } in
    let is = ap (λ (hart : Hart). hart.state) (hart_at-stand (on c.args.config.now o) past m.hsm stands.harts c.args.t c.if-t-config.false) in
    let stopped = sym is ∙ started_stopped start (hart_at m.hsm c.args.t).state c.in-Ok.ensures.answer in
    rw (lt-leb c.args.config.now.harts c.args.t c.if-t-config.false, ← c.if-not-is_start_address.ensures, stopped) c.success.ensures

pub returns-in-Ok-clause-after : goal.returns-in-Ok-clause-after
returns-in-Ok-clause-after c = λ x o past regs is stands.
    let opening = on c.args.config.now o in
    let m = c.args.self.now in
    let start : EntryPoint = record { addr = c.args.addr; opaque = c.args.opaque } in
    let call = Hsm (HartStart c.args.t c.args.addr c.args.opaque) in
    let event = by_hart x (Ecall regs) (Ret (success 0)) in
    let d = deed_of_call opening past x call (Ret (success 0)) in
    let does = does_call opening past x regs call (Ret (success 0)) is in
    let stopped = started_stopped start (hart_at m.hsm c.args.t).state c.in-Ok.ensures.answer in
    rw c.success.ensures
    (stands-harts-counts opening past event d does m _ _ refl stands (record {
      each =
          c.start.ensures.after ∙ ap (λ s. changed m.hsm c.args.t (started_from start s)) stopped
          ∙ (harts-started opening past event d does m.hsm c.args.t c.args.addr c.args.opaque refl refl refl stands.harts).each;
    }) (counts-started opening past event d does m.counts _ refl refl stands.counts))

pub returns-in-Err-clause-answered : goal.returns-in-Err-clause-answered
returns-in-Err-clause-answered c = λ x o past stands.
    let m = c.args.self.now in
    let start : EntryPoint = record { addr = c.args.addr; opaque = c.args.opaque } in
    let is = ap (λ (hart : Hart). hart.state) (hart_at-stand (on c.args.config.now o) past m.hsm stands.harts c.args.t c.if-t-config.false) in
    let other = unstarted_not_stopped start (hart_at m.hsm c.args.t).state c.in-Err.ensures.answer in
    let not_stopped = sym (ap is_stopped is) ∙ other in
    rw (lt-leb c.args.config.now.harts c.args.t c.if-t-config.false, ← c.if-not-is_start_address.ensures, not_stopped) (rw c.into.ensures at c.failure-in-Err.ensures)

pub returns-in-Err-clause-after : goal.returns-in-Err-clause-after
returns-in-Err-clause-after c = λ x o past regs is stands.
    let opening = on c.args.config.now o in
    let m = c.args.self.now in
    let start : EntryPoint = record { addr = c.args.addr; opaque = c.args.opaque } in
    let call = Hsm (HartStart c.args.t c.args.addr c.args.opaque) in
    let reply = Ret (failure AlreadyAvailable) in
    let same = c.start.ensures.after ∙ ap (changed m.hsm c.args.t) (unstarted_same start (hart_at m.hsm c.args.t).state c.in-Err.ensures.answer) in
    rw (c.failure-in-Err.ensures, c.into.ensures, same)
    (stands-quiet opening past (by_hart x (Ecall regs) reply) (deed_of_call opening past x call reply) (does_call opening past x regs call reply is) m refl stands)
