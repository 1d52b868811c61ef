use Rattle.std.proofs.Common.{ap, ◌∙◌}
use Rattle.board_core.specs.Course.{Course}
use Rattle.board_core.specs.Refusals.{first_refusal}
use Rattle.board_core.proofs.Leaving.{refusal-opened}
use Rattle.board_core.proofs.opening.Opening.refusal.Goals as goal

pub returns : goal.returns
returns c =
    c.refusal.ensures
    ∙ ap (λ (b : Course). first_refusal b.opening b.past c.args.actor c.args.op) c.view.ensures
    ∙ refusal-opened c.args.self.now c.config-good.ensures.good c.args.actor c.args.op
