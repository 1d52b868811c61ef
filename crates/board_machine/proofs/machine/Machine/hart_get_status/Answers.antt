use Rattle.std.proofs.Common.{ap, ◌∙◌}
use Rattle.std.proofs.lemmas.Bool.{lt-leb}
use Rattle.hsm.specs.Harts.{Hart}
use Rattle.hsm.specs.States.{state_number}
use Rattle.board_rules.specs.Replies.{success}
use Rattle.board_terms.specs.declared.reply.Reply.TheVariants.{Ret}
use Rattle.board_rules.specs.Opening.{on}
use Rattle.board_machine.proofs.HartsStanding.{hart_at-stand}
use Rattle.board_machine.proofs.machine.Machine.hart_get_status.Goals as goal

pub returns : goal.returns
returns c = λ x o past stands.
    let is = ap (λ (hart : Hart). hart.state) (hart_at-stand (on c.args.config.now o) past c.args.self.now.hsm stands.harts c.args.t c.if-t-config.false) in
    rw (lt-leb c.args.config.now.harts c.args.t c.if-t-config.false, ← is)
    (c.success.ensures ∙ ap (λ n. Ret (success n)) (c.number.ensures ∙ ap state_number c.status.ensures))
