use Rattle.std.proofs.Common.{◌≡◌, [], List, refl, sym, ap, ◌∙◌, subst}
use Rattle.board_terms.specs.declared.config.Config.{Config}
use Rattle.board_core.specs.Course.{Course}
use Rattle.board_core.specs.History.{Event}
use Rattle.board_core.specs.Opening.{Opening, opening_at}
use Rattle.guest_programs.specs.declared.ends.End.{End}
use Rattle.guest_programs.specs.declared.met.Met.{Met}
use Rattle.guest_programs.specs.Ends.{IsEnd, IsEndBy}
use Rattle.seeded_orders.specs.Orders.{met_before, ordered, picker_of}
use Rattle.guest_programs.specs.Places.{AreAt}
use Rattle.guest_programs.specs.Steps.{steps, Task}
use Rattle.seeded_orders.proofs.Ordering.{if-both, order-is-tried}
use Rattle.seeded_orders.proofs.orders.follow_anew.Goals as goal

pub returns-clause-tried : goal.returns-clause-tried
returns-clause-tried g c =
    let k : Config = c.args.board.now.opening.config in
    let p : Task = record { guests = g.G.Guests.next c.args.guests.now; ticks = c.args.ticks.now } in
    let rest = g.G.Guests.rest c.args.guests.now in
    let begun : Course = c.begin_anew.new.self in
    let opening : begun.opening ≡ opening_at k = ap (λ (b : Course). b.opening) c.in_ok-begin_anew.ensures.opening in
    let none : begun.past ≡ [] = ap (λ (b : Course). b.past) c.in_ok-begin_anew.ensures.opening in
    let at : AreAt rest p begun.opening.config.harts begun.past c.in_ok-places.places =
    subst (λ (b : Course). AreAt rest p b.opening.config.harts b.past c.in_ok-places.places) (sym c.in_ok-begin_anew.ensures.opening)
    (subst (λ (k : Config). AreAt rest p k.harts [] c.in_ok-places.places) c.config.ensures.config (c.in_ok-places.ensures p refl)) in
    let follows : c.follow.new.board.past ≡ ordered (opening_at k) p k.limit 0 c.in_ok-picker.picker [] =
    c.in_ok-met.ensures.past p refl at ∙ ap (λ (o : Opening). ordered o p o.config.limit 0 c.in_ok-picker.picker begun.past) opening
    ∙ ap (λ (past : List Event). ordered (opening_at k) p k.limit 0 c.in_ok-picker.picker past) none in
    let picks : c.in_ok-picker.picker ≡ picker_of k.harts c.args.seed c.args.order =
    c.in_ok-picker.ensures ∙ ap (λ (x : Config). picker_of x.harts c.args.seed c.args.order) c.config.ensures.config in
    let same : c.follow.new.board.opening ≡ opening_at k = c.follow.ensures.opening ∙ opening in
    let met : c.in_ok-met.met ≡ met_before (steps (opening_at k) p c.follow.new.board.past) =
    c.in_ok-met.ensures.met p refl at ∙ ap (λ (o : Opening). met_before (steps o p c.follow.new.board.past)) same in
    let E : End → Opening → Type 0 = λ end o. IsEnd end o c.follow.new.board.past p.guests in
    let B : End → Met → Opening → Type 0 = λ end m o. IsEndBy m o c.follow.new.board.past p.guests end in
    if-both c.end_of.result _ _ _
    (λ end is by. order-is-tried k p c.args.seed c.args.order c.follow.new.board.past c.in_ok-picker.picker end picks follows (subst (E end) same is)
    (subst (λ m. B end m (opening_at k)) met (subst (B end c.in_ok-met.met) same by)))
    c.end_of.ensures.end c.end_of.ensures.by
