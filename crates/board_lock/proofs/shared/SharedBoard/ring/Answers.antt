use Rattle.std.proofs.Common.{◌≡◌, ◌++◌, ◌∷◌, [], List, ℕ, map, ap, sym, ◌∙◌, append_assoc}
use Rattle.board_terms.specs.declared.op.Actor.{Actor}
use Rattle.board_terms.specs.declared.op.Actor.TheVariants.{Hart}
use Rattle.board_lock.proofs.Sifting.{below-rest, has-first}
use Rattle.board_lock.proofs.shared.SharedBoard.ring.Goals as goal

pub bell-requires : goal.bell-requires
bell-requires g c = c.loop-h.invariant.0 c.in-Some.h (has-first c.loop-h.left c.pop_first.new.self c.in-Some.h c.in-Some.ensures.lowest)

pub loop-h-preserved : goal.loop-h-preserved
loop-h-preserved g c =
    let rest : List ℕ = c.pop_first.new.self in
    let one : c.bell.result.now.actor ≡ Hart c.in-Some.h = c.bell.ensures in (
      below-rest c.loop-h.left rest c.in-Some.h g.K.Room.opening.config.harts c.in-Some.ensures.lowest c.loop-h.invariant.0,
      ap (λ (all : List Actor). all ++ map Hart rest) (c.ring.ensures ∙ ap (λ (a : Actor). c.loop-h.rung ++ a ∷ []) one)
          ∙ append_assoc c.loop-h.rung (Hart c.in-Some.h ∷ []) (map Hart rest)
          ∙ ap (λ (ids : List ℕ). c.loop-h.rung ++ map Hart ids) (sym c.in-Some.ensures.lowest)
          ∙ c.loop-h.invariant.1,
    )
