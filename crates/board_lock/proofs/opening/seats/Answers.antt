use Rattle.std.proofs.Common.{◌≡◌, ℕ, ◌++◌, ◌∷◌, [], ap, sym, ◌∙◌, arith}
use Rattle.std.proofs.lemmas.List.FromFn.{map-range_with_len_more}
use Rattle.board_terms.specs.declared.op.Actor.TheVariants.{Hart}
use Rattle.board_lock.specs.Seats.{Sitting, sitting}
use Rattle.board_lock.proofs.opening.seats.Goals as goal

pub loop-h-preserved : goal.loop-h-preserved
loop-h-preserved g c =
    let at = c.loop-h.invariant in
    let new : c.seat.result ≡ sitting (Hart c.loop-h.h) 0 [] [] = c.seat.ensures.seat in
    let pushed : c.push.new.self.items ≡ c.loop-h.seats.items ++ c.seat.result ∷ [] = c.in_ok-push.ensures.items in
    let more = map-range_with_len_more (λ (k : ℕ). sitting (Hart k) 0 [] []) 0 c.loop-h.h c.loop-h.h (omega arith) in
    let left = c.seat.ensures.left in
    let parts = at.1 in (
      pushed ∙ ap (λ (s : Sitting). c.loop-h.seats.items ++ s ∷ []) new ∙ ap (λ ss. ss ++ sitting (Hart c.loop-h.h) 0 [] [] ∷ []) at.0 ∙ sym more,
      omega arith,
      left.1,
      c.seat.ensures.log ∙ at.3,
    )
