use Rattle.std.proofs.Common.{◌≡◌, ℕ, ◌+◌, ◌<◌, ◌≤◌, List, [], ◌∷◌, length, get_or, refl, sym, ap, subst, ◌∙◌, append_assoc, append-nil, arith}
use Rattle.std.specs.Vec.Iter.{into_iter_items}
use mathlib.Core.List.{IsPrefix}
use Rattle.board_core.specs.History.{Event}
use Rattle.board_lock.specs.Events.{events_in, events_of, ops_of}
use Rattle.board_lock.specs.Inside.Kept.{count_of}
use Rattle.board_lock.specs.Seats.{Sitting, sitting}
use Rattle.board_lock.specs.Inside.Settling.{IsSettling, Knows, Looked, Within, counts}
use Rattle.board_lock.proofs.Ops.{ops-same}
use Rattle.board_lock.proofs.Sums.{closes, equal-at, known-at, looked-at, saw-within, settling-more}
use Rattle.board_lock.proofs.closing.settle.Goals as goal

nothing_left : (ss : List Sitting) → length ss ≡ 0 → ss ≡ []
nothing_left [] none = refl
nothing_left (s ∷ ss) none = absurd (omega arith)

pub loop-seat-preserved : goal.loop-seat-preserved
loop-seat-preserved g c =
    let at = c.loop-seat in
    let s : Sitting = c.in-Some.seat in
    let steps : into_iter_items at.seat-iterator ≡ s ∷ into_iter_items c.next.new.self = c.in-Some.ensures.steps.0 in
    let seen : sitting c.seat.inside.actor c.seat.inside.count (ops_of c.seat.inside.actor c.seat.inside.seen.list) c.seat.inside.saw.list ≡ s = c.seat.view_is in
    let prefix : IsPrefix c.seat.inside.seen.list c.close-log.result.list = c.begins_with.ensures in
    let within : c.seat.inside.count
    ≤ count_of c.seat.inside.actor c.close-log.result.list = saw-within c.close-log.result.list c.seat.inside.seen.list c.seat.inside.actor c.seat.inside.count prefix c.seat.invariant.saw in
    let knows : c.seat.inside.count ≡ count_of c.seat.inside.actor c.close-log.result.list → ops_of c.seat.inside.actor c.close-log.result.list ≡ ops_of c.seat.inside.actor c.seat.inside.seen.list =
    λ all. ops-same c.seat.inside.actor c.seat.inside.seen.list c.close-log.result.list prefix (c.seat.invariant.saw ∙ all) in
    let looked : IsPrefix c.seat.inside.saw.list c.close-log.result.list × (c.seat.inside.count ≤ count_of c.seat.inside.actor c.seat.inside.saw.list) =
    (c.begins_with-in-loop-seat.ensures, saw-within c.seat.inside.saw.list c.seat.inside.seen.list c.seat.inside.actor c.seat.inside.count c.seat.invariant.later c.seat.invariant.saw) in
    let part : c.merge.new.self.parts ≡ at.all.parts + 1 = c.merge.ensures.parts ∙ ap (λ (n : ℕ). at.all.parts + n) c.seat.invariant.one_part in
    let more : c.merge.new.self.amount ≡ at.all.amount + s.count = c.merge.ensures.amount ∙ ap (λ (n : ℕ). at.all.amount + n) (c.seat.invariant.counted ∙ ap (λ (x : Sitting). x.count) seen) in (
      append_assoc at.yielded (s ∷ []) _ ∙ rw (← steps) at.invariant.0,
      (let was = at.invariant.1 in let gone = c.in-Some.ensures.steps.1 in let short = ap length steps in omega arith),
      settling-more c.close-log.result.list at.yielded at.all.parts c.merge.new.self.parts at.all.amount c.merge.new.self.amount s at.invariant.2 part more
          (subst (λ (x : Sitting). x.count ≤ count_of x.actor c.close-log.result.list) seen within)
          (subst (λ (x : Sitting). x.count ≡ count_of x.actor c.close-log.result.list → ops_of x.actor c.close-log.result.list ≡ x.ops) seen knows)
          (subst (λ (x : Sitting). IsPrefix x.saw c.close-log.result.list × (x.count ≤ count_of x.actor x.saw)) seen looked),
    )

pub returns : goal.returns
returns g c =
    let at = c.loop-seat in
    let none = c.in-None.ensures.steps in
    let empty : into_iter_items at.seat-iterator ≡ [] = nothing_left _ (sym at.invariant.1 ∙ none.0) in
    let all : at.yielded ≡ c.args.seats.items = sym (append-nil at.yielded) ∙ rw empty at at.invariant.0 ∙ c.into_iter-seat-iterator.ensures.into_iter_gives.0 in
    let settled : IsSettling c.close-log.result.list c.args.seats.items at.all.parts at.all.amount =
    subst (λ (ss : List Sitting). IsSettling c.close-log.result.list ss at.all.parts at.all.amount) all at.invariant.2 in
    let list : c.close-log.result.list ≡ c.desk.inside.log.list = c.close-log.ensures.1 in
    let d = c.desk.invariant in
    let many : length c.args.seats.items ≡ g.K.Room.opening.config.harts + 1 = c.requires.all.as_many in
    let whole : at.all.parts ≡ g.K.Ledger.parts = settled.parts_are ∙ many ∙ sym c.requires.parts.1 ∙ c.requires.parts.0 in
    let sums : counts c.args.seats.items ≡ length c.desk.inside.log.list = sym settled.amount_is ∙ c.audit.ensures.whole whole ∙ d.summed in
    let within = subst (λ (es : List Event). Within es c.args.seats.items) list settled.within in
    let knows = subst (λ (es : List Event). Knows es c.args.seats.items) list settled.knows in
    let looked = subst (λ (es : List Event). Looked es c.args.seats.items) list settled.looked in
    let equal = closes g.K.Room.opening.config c.desk.inside.log.list c.args.seats.items c.requires.all d.acted within sums in
    let events : c.desk.inside.log.list ≡ events_in c.desk.inside.board = d.logged in
    record {
      opening = d.opened;
      legal = c.history-legal.ensures.legal;
      counts = subst (λ (es : List Event). (k : ℕ) (x : Sitting) → k < length c.args.seats.items → length (events_of (get_or c.args.seats.items k x).actor es) ≡ (get_or c.args.seats.items k x).count)
          events
          (equal-at c.desk.inside.log.list c.args.seats.items equal);
      ops = subst (λ (es : List Event). (k : ℕ) (x : Sitting) → k < length c.args.seats.items → ops_of (get_or c.args.seats.items k x).actor es ≡ (get_or c.args.seats.items k x).ops) events
          (known-at c.desk.inside.log.list c.args.seats.items equal knows);
      saw = λ k x inside. subst (IsPrefix (get_or c.args.seats.items k x).saw) events (looked-at c.desk.inside.log.list c.args.seats.items equal looked k x inside).0;
      own = λ k x inside. (looked-at c.desk.inside.log.list c.args.seats.items equal looked k x inside).1;
    }
