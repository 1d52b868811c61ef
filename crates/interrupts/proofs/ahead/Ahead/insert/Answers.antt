use Rattle.std.proofs.Common.{◌-◌, length, ap, ◌∙◌, arith, drop}
use Rattle.std.proofs.lemmas.List.{length-drop}
use Rattle.std.specs.List.Sorted.{IsNonDecreasingBy}
use Rattle.std.proofs.lemmas.List.Edits.{length-insert}
use Rattle.interrupts.specs.declared.ahead.Member.{Member}
use Rattle.interrupts.specs.Inside.Ahead.{IsPlaceOf, member_of}
use Rattle.interrupts.proofs.Members.{IsNonDecreasingBy-placed, drop-insert}
use Rattle.interrupts.proofs.ahead.Ahead.insert.Goals as goal

pub invariant_of-self : goal.invariant_of-self
invariant_of-self c =
    let room = c.with_room-self-inside in
    let members = room.new.members.items in
    let place = c.place_of-place.result in
    let at : IsPlaceOf c.args.deadline room.result members place = rw (← c.as_slice.ensures.value) c.place_of-place.ensures in
    let up : IsNonDecreasingBy (λ (m : Member). m.deadline) (drop room.result members) = rw room.ensures.same c.self.invariant.1 in
    let kept = IsNonDecreasingBy-placed members c.args.deadline c.args.hart room.result place up room.ensures.within at in
    let same = ap (drop room.result) c.put.ensures ∙ drop-insert members room.result place (member_of c.args.deadline c.args.hart) room.ensures.within at.from in
    (omega (arith, ap length c.put.ensures, length-insert members place (member_of c.args.deadline c.args.hart) at.within, room.ensures.within), rw same kept)

pub returns : goal.returns
returns c =
    let room = c.with_room-self-inside in
    let members = room.new.members.items in
    let place = c.place_of-place.result in
    let at : IsPlaceOf c.args.deadline room.result members place = rw (← c.as_slice.ensures.value) c.place_of-place.ensures in
    let same = ap (drop room.result) c.put.ensures ∙ drop-insert members room.result place (member_of c.args.deadline c.args.hart) room.ensures.within at.from in
    let long = length-drop room.result members in
    let from = at.from in
    let to = at.within in
    rw (← c.self.view_is) (rw (← room.ensures.same) (record { place = place - room.result; within = omega (arith, long, from, to); is = same }))
