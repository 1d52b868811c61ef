use Rattle.std.proofs.Common.{◌≡◌, ℕ, ◌+◌, Bool, take, refl, sym, ap, ◌∙◌, rules, arith}
use Rattle.std.specs.Prelude.{if◌then◌else◌}
use Rattle.std.proofs.lemmas.List.{length-take}
use Rattle.board_terms.specs.declared.op.Actor.{Actor}
use Rattle.board_terms.specs.declared.op.Actor.TheVariants.{Hart, Clock}
use Rattle.board_terms.specs.contracts.op.ActorPartialEq.TheImpl as derived
use Rattle.board_lock.specs.Events.{is_same}
use Rattle.board_lock.specs.Seats.{Sitting, seats_of}
use Rattle.board_lock.proofs.Sums.{seats-taken, seats_of-within}
use Rattle.board_lock.proofs.closing.seats_of.Goals as goal
use Rattle.board_lock.proofs.closing.seats_of.Goals.{then-eq, else-eq}

eq-is : (a b : Actor) → derived.ghosts.eq a b ≡ is_same a b
eq-is (Hart h) (Hart n) = search rules
eq-is (Hart h) Clock = refl
eq-is Clock (Hart n) = refl
eq-is Clock Clock = refl

pub overflow_add-many : goal.overflow_add-many
overflow_add-many g c =
    let at : c.loop-seat.many ≡ seats_of c.args.actor (take c.loop-seat.seat-index c.args.seats.now) = c.loop-seat.invariant in
    let within = seats_of-within c.args.actor (take c.loop-seat.seat-index c.args.seats.now) in
    let taken = length-take c.loop-seat.seat-index c.args.seats.now in
    omega arith

pub loop-seat-preserved : goal.loop-seat-preserved
loop-seat-preserved g c =
    let s : Sitting = c.seat-item.result in
    let at : c.loop-seat.many ≡ seats_of c.args.actor (take c.loop-seat.seat-index c.args.seats.now) = c.loop-seat.invariant in
    let told : c.eq.result ≡ is_same c.seat.inside.actor c.args.actor = c.eq.ensures ∙ eq-is c.seat.inside.actor c.args.actor in
    let who : is_same s.actor c.args.actor ≡ c.eq.result = ap (λ (x : Sitting). is_same x.actor c.args.actor) (sym c.seat.view_is) ∙ sym told in
    let more = seats-taken c.args.actor c.args.seats.now c.loop-seat.seat-index s c.seat-item.is c.loop-seat-test.true in
    elim c.if-eq.branch [
      | then-eq w ↦ w.many-is ∙ ap (λ (n : ℕ). n + 1) at
          ∙ sym (more ∙ ap (λ (b : Bool). seats_of c.args.actor (take c.loop-seat.seat-index c.args.seats.now) + (if b then 1 else 0)) (who ∙ w.if-eq.true))
      | else-eq w ↦ w.many-is ∙ at
          ∙ sym (more ∙ ap (λ (b : Bool). seats_of c.args.actor (take c.loop-seat.seat-index c.args.seats.now) + (if b then 1 else 0)) (who ∙ w.if-eq.false) ∙ (omega arith))
    ]
