use Rattle.std.proofs.Common.{ap, ◌∙◌}
use Rattle.std.specs.Prelude.{nat_eq}
use Rattle.std.specs.Cmp.Lexicographic.{pointwise}
use Rattle.board_lock.proofs.Resting.{all-harts}
use Rattle.board_lock.proofs.rests.Rests.is_all.Goals as goal

pub returns-then-self : goal.returns-then-self
returns-then-self c =
    let r = c.args.self.now in
    let all = all-harts c.args.harts r c.eq.result c.requires.small c.requires.rests (c.eq.ensures ∙ ap (pointwise nat_eq r.harts) c.below.ensures) in
    (λ yes. record { clock = c.if-self.true; each = all.0 yes }, λ every. all.1 every.each)
