use Rattle.std.proofs.Common.{◌≡◌, ◌∷◌, Some, None, sym, ap, ◌∙◌, arith, subst}
use Rattle.std.specs.Prelude.{option_map}
use Rattle.board_terms.specs.declared.op.Actor.TheVariants.{Hart}
use Rattle.board_terms.specs.declared.op.Op.{Op}
use Rattle.board_rules.specs.Accesses.{used_by_access}
use Rattle.board_rules.specs.History.{Event, Reach, access_of, using}
use Rattle.board_rules.specs.Room.{IsShort}
use Rattle.board_rules.specs.Opening.{on}
use Rattle.board_rules.specs.Replies.{reply}
use Rattle.board_machine.specs.Stands.{StandsFor}
use Rattle.board_rules.proofs.Room.{replies_are_short}
use Rattle.board_machine.proofs.Situations.{fills-room}
use Rattle.board_rules.proofs.Steps.{access_again, access_is, access_replied, recorded_as}
use Rattle.board_machine.proofs.machine.Machine.hart_event.Goals as goal

-- an access
pub access-reply-requires-clause-fills : goal.access-reply-requires-clause-fills
access-reply-requires-clause-fills c = fills-room c.args.config.now c.args.self.now c.requires.good c.requires.standing.standing c.args.h c.requires.in_range

pub access-reply-requires-clause-reach : goal.access-reply-requires-clause-reach
access-reply-requires-clause-reach c =
    access_again c.args.op c.in-Some.va c.in-Some.what
    (sym c.access_of.ensures ∙ ap (option_map (λ at. (let reach : Reach = record { va = at.0; access = at.1 } in reach))) c.in-Some.is)

pub new-requires : goal.new-requires
new-requires c =
    let standing = c.requires.standing.standing in
    let o = on c.args.config.now standing.o in
    let va = c.in-Some.va in
    let what = c.in-Some.what in
    let same : access_of c.args.op ≡ Some (record { va = va; access = what }) =
    sym c.access_of.ensures ∙ ap (option_map (λ at. (let reach : Reach = record { va = at.0; access = at.1 } in reach))) c.in-Some.is in
    let replied = c.access-reply.ensures.answered o standing.past c.requires.in_range standing.stands ∙ access_replied o standing.past c.args.h va what (access_again c.args.op va what same)
    ∙ ap (reply o standing.past c.args.h) (sym (access_is c.args.op va what same)) in
    subst (IsShort (Hart c.args.h) c.args.op) (sym replied) (replies_are_short o standing.past c.args.h c.args.op (omega (arith, c.requires.in_range, c.requires.good.at_most_128_harts)))

pub returns-in-Some-clause-after : goal.returns-in-Some-clause-after
returns-in-Some-clause-after c = λ o past here stands.
    let o' = on c.args.config.now o in
    let va = c.in-Some.va in
    let what = c.in-Some.what in
    let same : access_of c.args.op ≡ Some (record { va = va; access = what }) =
    sym c.access_of.ensures ∙ ap (option_map (λ at. (let reach : Reach = record { va = at.0; access = at.1 } in reach))) c.in-Some.is in
    let used = c.access-reply.ensures.used o' past c.requires.in_range stands ∙ ap (used_by_access o' past c.args.h) (sym same) in
    subst (λ (event : Event). StandsFor o' (event ∷ past) c.access-reply.new.self) (sym (c.new.ensures ∙ recorded_as o' past c.args.h c.args.op _ _ used))
    (subst (λ (op : Op). StandsFor o' (using c.args.h op c.access-reply.result.0 c.access-reply.result.1 ∷ past) c.access-reply.new.self) (sym (access_is c.args.op va what same))
    (c.access-reply.ensures.after o' past here c.requires.in_range stands))

-- another operation
pub new-requires-in-None : goal.new-requires-in-None
new-requires-in-None c =
    let standing = c.requires.standing.standing in
    subst (IsShort (Hart c.args.h) c.args.op) (sym (c.perform-reply.ensures.answered standing.o standing.past standing.stands))
    (replies_are_short (on c.args.config.now standing.o) standing.past c.args.h c.args.op (omega (arith, c.requires.in_range, c.requires.good.at_most_128_harts)))

pub returns-in-None-clause-after : goal.returns-in-None-clause-after
returns-in-None-clause-after c = λ o past here stands.
    let o' = on c.args.config.now o in
    let none : access_of c.args.op ≡ None = sym c.access_of.ensures ∙ ap (option_map (λ at. (let reach : Reach = record { va = at.0; access = at.1 } in reach))) c.in-None.is in
    subst (λ (event : Event). StandsFor o' (event ∷ past) c.perform-reply.new.self)
    (sym (c.new-in-None.ensures ∙ recorded_as o' past c.args.h c.args.op _ _ (sym (ap (used_by_access o' past c.args.h) none))))
    (c.perform-reply.ensures.after o past here stands)
