-- What a step from an opening leaves: the machine after it stands for what its event leaves, and is it.
use Rattle.std.proofs.Common.{◌≡◌, ℕ, ◌+◌, ◌<◌, ◌≤◌, false, [], ◌∷◌, subst, refl, sym, ap, ◌∙◌, arith, None, Ok}
use Rattle.std.specs.Prelude.{nat_eq}
use Rattle.std.proofs.lemmas.Bool.Decides.{nat_tests}
use Rattle.sv39.specs.Memory.{IsRam}
use Rattle.board_core.specs.Accesses.{used_by_actor}
use Rattle.board_core.specs.Cuts.{last_cut, opening_of}
use Rattle.board_core.specs.Inside.Stands.{opening_in}
use Rattle.board_terms.specs.declared.op.Actor.{Actor}
use Rattle.board_terms.specs.declared.op.Actor.TheVariants.{Hart, Clock}
use Rattle.board_terms.specs.declared.op.Op.{Op}
use Rattle.board_machine.specs.declared.machine.Machine.{Machine}
use Rattle.board_core.specs.declared.opening.Taken.{Taken}
use Rattle.board_core.specs.Refusals.{first_refusal}
use Rattle.board_core.specs.History.{Event}
use Rattle.board_terms.specs.Limits.{IsGood}
use Rattle.board_core.specs.Opening.{Opening}
use Rattle.board_core.specs.Refusals.{clock_refusals, first_that_holds, is_full, refusals}
use Rattle.board_core.specs.Replies.{answer, answer_when, refused_or, reply}
use Rattle.board_core.specs.Inside.Stands.{IsKept, StandsFor}
use Rattle.board_core.specs.Taking.{event_with, refusal_at, reply_at, step_from, step_with}
use Rattle.board_core.proofs.Cutting.{kept-cut}
use Rattle.board_machine.proofs.CutStanding.{held-by, is-cut, stands-cut}
use Rattle.board_core.proofs.Rams.{ram-after, same-ram}
use Rattle.board_core.proofs.Steps.{kept-more}

-- an opening has room for an event
pub room-opened : (o : Opening) → IsGood o.config → is_full o [] ≡ false
room-opened o good = by_limit o.config.limit good.some_room
  where
    by_limit : (limit : ℕ) → 1 ≤ limit → nat_eq 0 limit ≡ false
    by_limit limit some = grind (arith, nat_tests)

pub refusal-opened : (o : Opening) → IsGood o.config → (actor : Actor) (op : Op) → first_refusal o [] actor op ≡ refusal_at o actor op
refusal-opened o good (Hart h) op = ap (λ full. first_that_holds (refusals full o [] h op)) (room-opened o good)
refusal-opened o good Clock op = ap (λ full. first_that_holds (clock_refusals full o [] op)) (room-opened o good)

-- what isn't refused is answered
answered-at : (o : Opening) (actor : Actor) (op : Op) → refusal_at o actor op ≡ None → answer_when false o [] actor op ≡ Ok (reply_at o actor op)
answered-at o (Hart h) op none = ap (λ refusal. refused_or refusal (reply o [] h op)) none
answered-at o Clock op none = ap (λ refusal. refused_or refusal (reply_at o Clock op)) none

pub stepped-to : (o : Opening) (actor : Actor) (op : Op) (event : Event) (opening : Opening) → refusal_at o actor op ≡ None
    → event ≡ event_with o actor op (reply_at o actor op) → opening ≡ opening_of o (event ∷ [])
    → Ok (let taken : Taken = record { event = event; opening = opening } in taken) ≡ step_from o actor op
stepped-to o actor op event opening none is left =
    let same = left ∙ ap (λ (e : Event). opening_of o (e ∷ [])) is in
    (λ i. Ok (let taken : Taken = record { event = is i; opening = same i } in taken))
    ∙ ap (step_with o actor op) (sym (answered-at o actor op none))

-- the machine after the event is the opening that this leaves, which a board goes on from
pub record IsLeft (o : Opening) (event : Event) (m : Machine) : Type 0 where
  pub kept : IsKept (opening_of o (event ∷ [])) []
  pub stands : StandsFor (opening_of o (event ∷ [])) [] m
  pub same : opening_in o.config (o.places + 1) m ≡ opening_of o (event ∷ [])

left-by-step : (o : Opening) (actor : Actor) (op : Op) (event : Event) (old new : Machine) → IsKept o [] → IsRam old.memory.ram → StandsFor o [] old
    → o.places < last_cut → refusal_at o actor op ≡ None → event ≡ event_with o actor op (reply_at o actor op) → StandsFor o (event ∷ []) new
    → IsLeft o event new
left-by-step o actor op event old new kept ram before early none is after =
    let room = room-opened o kept.good in
    let made = event_with o actor op (reply_at o actor op) in
    let answered_made : answer o [] made.actor made.op ≡ Ok made.reply = ap (λ full. answer_when full o [] actor op) room ∙ answered-at o actor op none in
    let facts = subst (λ (e : Event). (answer o [] e.actor e.op ≡ Ok e.reply) × (e.translation ≡ used_by_actor o [] e.actor e.op)) (sym is) (answered_made, refl) in
    let has = ram-after o [] (record { ram = old.memory.ram; is_ram = ram; size = before.memory.pages; words = before.memory.ram })
    event.actor event.op event.reply event.translation facts.0 facts.1 in
    let is_ram = same-ram new.memory.ram has.ram (after.memory.ram ∙ sym has.words) (after.memory.pages ∙ sym has.size) has.is_ram in
    let longer = kept-more o [] event facts.0 facts.1 room kept in
    let held = held-by o (event ∷ []) new longer is_ram after in
    record {
      kept = kept-cut o (event ∷ []) held longer (omega arith);
      stands = stands-cut o (event ∷ []) held new after;
      same = is-cut o (event ∷ []) held new is_ram after;
    }

-- the same of an opening that is seen as this one
pub left-by : (o now : Opening) → o ≡ now → (actor : Actor) (op : Op) (event : Event) (old new : Machine) → IsKept o [] → IsRam old.memory.ram → StandsFor now [] old
    → now.places < last_cut → refusal_at now actor op ≡ None → event ≡ event_with now actor op (reply_at now actor op) → StandsFor now (event ∷ []) new
    → IsLeft o event new
left-by o now seen actor op event old new kept ram before early none is after =
    subst (λ (o : Opening). IsLeft o event new) (sym seen)
    (left-by-step now actor op event old new (subst (λ (o : Opening). IsKept o []) seen kept) ram before early none is after)
