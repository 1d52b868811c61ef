use Rattle.std.proofs.Common.{◌≡◌, ◌+◌, List, [], replicate, ap, ◌∙◌}
use Rattle.board_terms.specs.declared.config.Config.{Config}
use Rattle.board_core.specs.Course.{Course}
use Rattle.board_core.specs.History.{Event}
use Rattle.board_core.specs.Opening.{Opening}
use Rattle.ghost_log.specs.declared.tokens.Log.{Log}
use Rattle.board_lock.specs.Rooms.{RoomNames}
use Rattle.board_lock.proofs.Resting.{new-desk}
use Rattle.board_lock.proofs.opening.open_desk.Goals as goal

pub invariant_of-desk : goal.invariant_of-desk
invariant_of-desk g c =
    let opening : Opening = g.K.Room.opening in
    let b : Course = c.args.board in
    let is : b ≡ record { opening = opening; past = [] } =
    ap (λ (o : Opening). record { opening = o; past = b.past }) c.requires.board.0 ∙ ap (λ (es : List Event). record { opening = opening; past = es }) c.requires.board.1 in
    let same : c.room.inside.config ≡ opening.config = ap (λ (p : RoomNames). p.config) c.room.view_is ∙ c.requires.room.0 in
    let named : c.seats.new.log.name ≡ g.K.Room.log =
    ap (λ (l : Log Event). l.name) c.seats.ensures.log ∙ ap (λ (p : RoomNames). p.log) c.room.view_is ∙ c.requires.room.1 in
    let empty : c.seats.new.log.list ≡ [] = ap (λ (l : Log Event). l.list) c.seats.ensures.log ∙ c.room.invariant.0 in
    let zeros : c.in-Ok.counts.items ≡ replicate (opening.config.harts + 1) 0 = c.in-Ok.ensures ∙ ap (λ (now : Config). replicate (now.harts + 1) 0) same in
    new-desk opening g.K.Room.log b _ _ c.seats.new.log c.requires.good is c.new.ensures zeros c.open-book.ensures.total c.in-Ok-seats.ensures.left.0 c.in-Ok-seats.ensures.left.1 named empty
