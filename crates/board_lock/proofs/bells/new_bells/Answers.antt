use Rattle.std.proofs.Common.{◌≡◌, ◌++◌, ◌∷◌, [], List, map, ap, sym, ◌∙◌, arith}
use Rattle.std.proofs.lemmas.List.FromFn.{map-range_with_len_more}
use Rattle.std.proofs.lemmas.List.{map_push}
use Rattle.board_terms.specs.declared.op.Actor.{Actor}
use Rattle.board_terms.specs.declared.op.Actor.TheVariants.{Hart}
use Rattle.board_lock.specs.declared.bells.Bell.{Bell}
use Rattle.board_lock.proofs.bells.new_bells.Goals as goal

-- the actors of some bells
abbrev owners : List Bell → List Actor
owners bells = map (λ (b : Bell). b.actor) bells

pub loop-h-preserved : goal.loop-h-preserved
loop-h-preserved c =
    let new : c.new.result.actor ≡ Hart c.loop-h.h = c.new.ensures in
    let pushed : c.push.new.self.items ≡ c.loop-h.bells.items ++ c.new.result ∷ [] = c.in_ok-push.ensures.items in
    ap owners pushed
    ∙ map_push (λ (b : Bell). b.actor) c.loop-h.bells.items c.new.result
    ∙ ap (λ (a : Actor). owners c.loop-h.bells.items ++ a ∷ []) new
    ∙ ap (λ (all : List Actor). all ++ Hart c.loop-h.h ∷ []) c.loop-h.invariant
    ∙ sym (map-range_with_len_more Hart 0 c.loop-h.h c.loop-h.h (omega arith))
