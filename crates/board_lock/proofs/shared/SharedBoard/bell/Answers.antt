use Rattle.std.proofs.Common.{◌≡◌, ◌<◌, List, length, refl, ap, sym, ◌∙◌, arith}
use Rattle.std.specs.Prelude.{Some, option_map, slice_get}
use Rattle.std.proofs.lemmas.List.{length-map}
use Rattle.std.proofs.lemmas.Option.{same_Some, slice_get-map, slice_get_read}
use Rattle.board_terms.specs.declared.config.Config.{Config}
use Rattle.board_terms.specs.declared.op.Actor.{Actor}
use Rattle.board_lock.specs.Inside.Bells.{actors}
use Rattle.board_lock.specs.Inside.Kept.{number_of}
use Rattle.board_lock.specs.declared.bells.Bell.{Bell}
use Rattle.board_lock.proofs.Actors.{actor-at, actors-long, number-within}
use Rattle.board_lock.proofs.shared.SharedBoard.bell.Goals as goal

pub index-requires : goal.index-requires
index-requires g c =
    let number : c.actor_number.result ≡ number_of g.K.Room.opening.config c.args.actor = c.actor_number.ensures ∙ ap (λ (config : Config). number_of config c.args.actor) c.args.self.now.opening in
    let within = number-within g.K.Room.opening.config c.args.actor c.requires in
    let harts = ap (λ (config : Config). config.harts) c.args.self.now.opening in
    let sized = sym (length-map c.args.self.now.bells.items (λ (b : Bell). b.actor)) ∙ ap length c.args.self.now.belled ∙ actors-long c.args.self.now.config.harts in
    omega arith

pub returns : goal.returns
returns g c =
    let config : Config = g.K.Room.opening.config in
    let number : c.actor_number.result ≡ number_of config c.args.actor = c.actor_number.ensures ∙ ap (λ (now : Config). number_of now c.args.actor) c.args.self.now.opening in
    let harts = ap (λ (now : Config). now.harts) c.args.self.now.opening in
    let within = number-within config c.args.actor c.requires in
    let sized = sym (length-map c.args.self.now.bells.items (λ (b : Bell). b.actor)) ∙ ap length c.args.self.now.belled ∙ actors-long c.args.self.now.config.harts in
    let below : c.actor_number.result < length c.args.self.now.bells.items = omega arith in
    let read = slice_get_read c.args.self.now.bells.items (length c.args.self.now.bells.items) c.actor_number.result c.index.result.now refl below c.index.ensures in
    let listed : slice_get (actors config.harts) c.actor_number.result ≡ Some c.args.actor = ap (slice_get (actors config.harts)) number ∙ actor-at config c.args.actor c.requires in
    same_Some c.index.result.now.actor c.args.actor
    (ap (option_map (λ (b : Bell). b.actor)) (sym read)
    ∙ sym (slice_get-map (λ (b : Bell). b.actor) c.args.self.now.bells.items c.actor_number.result)
    ∙ ap (λ (all : List Actor). slice_get all c.actor_number.result) (c.args.self.now.belled ∙ ap actors harts)
    ∙ listed)
