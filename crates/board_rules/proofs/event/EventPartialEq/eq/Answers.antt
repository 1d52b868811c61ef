use Rattle.std.proofs.Common.{◌∙◌, refl, sym, ap}
use Rattle.board_rules.specs.Inside.Keeping.{what_of_event}
use Rattle.board_rules.specs.History.{Event}
use Rattle.board_rules.proofs.event.EventPartialEq.eq.Goals as goal

pub returns : goal.returns
returns c =
    rw (
      ap (λ (e : Event). what_of_event e.actor e.op e.reply e.translation) (sym c.t1-1.view_is) ∙ c.t1-1.invariant,
      ap (λ (e : Event). what_of_event e.actor e.op e.reply e.translation) (sym c.t2-1.view_is) ∙ c.t2-1.invariant,
      sym c.eq.ensures,
    ) refl
