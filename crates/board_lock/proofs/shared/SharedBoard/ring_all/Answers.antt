use Rattle.std.proofs.Common.{◌≡◌, ℕ, ◌++◌, ◌∷◌, [], true, List, map, ap, subst, ◌∙◌}
use Rattle.std.specs.List.{range_with_len}
use Rattle.hart_mask.specs.Ids.{has, ids_below}
use Rattle.board_terms.specs.declared.config.Config.{Config}
use Rattle.board_terms.specs.declared.op.Actor.TheVariants.{Hart, Clock}
use Rattle.board_lock.proofs.Actors.{ids-in-order}
use Rattle.board_lock.proofs.Sifting.{below-ids}
use Rattle.board_lock.proofs.shared.SharedBoard.ring_all.Goals as goal

pub ring-requires : goal.ring-requires
ring-requires g c h there =
    let all : c.below.result ≡ ids_below g.K.Room.opening.config.harts = c.below.ensures ∙ ap (λ (now : Config). ids_below now.harts) c.args.self.now.opening in
    below-ids g.K.Room.opening.config.harts h (subst (λ (ids : List ℕ). has ids h ≡ true) all there)

pub returns : goal.returns
returns g c =
    let all : c.below.result ≡ ids_below c.args.self.now.config.harts = c.below.ensures in
    let harts = ap (λ (now : Config). now.harts) c.args.self.now.opening in
    c.ring.ensures
    ∙ ap (λ (ids : List ℕ). map Hart ids ++ Clock ∷ [])
    (all ∙ ids-in-order c.args.self.now.config.harts c.args.self.now.good.at_most_128_harts ∙ ap (range_with_len 0) harts)
