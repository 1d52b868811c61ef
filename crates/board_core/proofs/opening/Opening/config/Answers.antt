use Rattle.std.proofs.Common.{◌≡◌, [], subst}
use Rattle.board_core.specs.Cuts.{opening_of}
use Rattle.board_core.specs.Opening.{IsOpening, Opening}
use Rattle.board_core.proofs.Whole.{whole-in}
use Rattle.board_core.proofs.opening.Opening.config.Goals as goal

pub returns-clause-opens : goal.returns-clause-opens
returns-clause-opens c = subst (λ (o : Opening). IsOpening o) c.self.view_is c.self.invariant.0.legal

pub returns-clause-whole : goal.returns-clause-whole
returns-clause-whole c =
    subst (λ (o : Opening). opening_of o [] ≡ o) c.self.view_is
    (whole-in c.self.inside.config c.self.inside.places c.self.inside.machine c.self.invariant.0 c.self.invariant.1)
