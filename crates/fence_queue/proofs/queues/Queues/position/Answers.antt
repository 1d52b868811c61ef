use Rattle.std.proofs.Common.{rules, tests, ◌<◌, length, ap, arith}
use Rattle.std.proofs.lemmas.Iterator.Consumers.{YieldsList-from_rest}
use Rattle.std.proofs.lemmas.Iterator.Search.{position_from_yields_List}
use Rattle.std.proofs.lemmas.List.{length-map}
use Rattle.fence_queue.specs.Queues.{is_from}
use Rattle.fence_queue.specs.Inside.Rings.{queue_in}
use Rattle.fence_queue.proofs.Positions.{counted, position_of-found}
use Rattle.fence_queue.proofs.queues.Queues.position.Goals as goal

pub returns-in-Some : goal.returns-in-Some
returns-in-Some g c =
    let rings = c.self.inside.rings.items in
    let inside : c.args.t < length rings = omega (arith, c.if-t-len.false, ap length c.self.view_is, length-map rings queue_in) in
    let found = position_from_yields_List (is_from c.args.from) _ _ c.position.result c.position.ensures.ran (YieldsList-from_rest c.index-ring.result.now.items c.iter.ensures.rest)
    (λ x b q k. search (rules, tests)) in
    let told = position_of-found rings _ c.args.t c.args.from c.index-ring.result.now c.position.result c.self.view_is inside c.index-ring.ensures found in
    omega (arith, told, ap counted c.in-Some.is)

pub returns-in-None : goal.returns-in-None
returns-in-None g c =
    let rings = c.self.inside.rings.items in
    let inside : c.args.t < length rings = omega (arith, c.if-t-len.false, ap length c.self.view_is, length-map rings queue_in) in
    let found = position_from_yields_List (is_from c.args.from) _ _ c.position.result c.position.ensures.ran (YieldsList-from_rest c.index-ring.result.now.items c.iter.ensures.rest)
    (λ x b q k. search (rules, tests)) in
    let told = position_of-found rings _ c.args.t c.args.from c.index-ring.result.now c.position.result c.self.view_is inside c.index-ring.ensures found in
    omega (arith, told, ap counted c.in-None.is)
