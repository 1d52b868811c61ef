use Rattle.std.proofs.Common.{◌≡◌, ap, sym, subst, ◌∙◌}
use Rattle.board_terms.specs.declared.config.Config.{Config}
use Rattle.board_core.specs.Opening.{Opening}
use Rattle.board_lock.specs.Inside.Rests.{IsRests}
use Rattle.board_lock.proofs.Resting.{desk-rests, one-rests}
use Rattle.board_lock.proofs.desk.Desk.stay.Goals as goal

pub is_all-requires-clause-rests : goal.is_all-requires-clause-rests
is_all-requires-clause-rests g c =
    let opening : Config = g.K.Room.opening.config in
    let same : c.config.result.now ≡ opening = c.config.ensures.config ∙ ap (λ (o : Opening). o.config) c.self.invariant.opened in
    let rests = one-rests opening c.self.inside.rests c.args.actor c.args.until c.requires.acting c.self.invariant.at_rest in
    subst (λ (now : Config). IsRests now.harts c.insert.new.self) (sym same) (subst (IsRests opening.harts) (sym c.insert.ensures) rests)

pub invariant_of-self : goal.invariant_of-self
invariant_of-self g c =
    let opening : Config = g.K.Room.opening.config in
    let rests = one-rests opening c.self.inside.rests c.args.actor c.args.until c.requires.acting c.self.invariant.at_rest in
    desk-rests c.self.invariant (subst (IsRests opening.harts) (sym c.insert.ensures) rests)

pub invariant_of-self-2 : goal.invariant_of-self-2
invariant_of-self-2 g c =
    let opening : Config = g.K.Room.opening.config in
    let rests = one-rests opening c.self.inside.rests c.args.actor c.args.until c.requires.acting c.self.invariant.at_rest in
    desk-rests c.self.invariant (subst (IsRests opening.harts) (sym c.insert.ensures) rests)
