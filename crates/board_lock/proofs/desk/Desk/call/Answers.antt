use Rattle.std.proofs.Common.{◌≡◌, ◌≢◌, ◌+◌, List, [], ◌∷◌, ◌++◌, length, inr, refl, arith, sym, ap, subst, ◌∙◌}
use Rattle.std.proofs.lemmas.List.{length-append, length-reverse}
use mathlib.Core.List.{IsPrefix}
use Rattle.ghost_log.specs.declared.tokens.Log.{Log}
use Rattle.board_terms.specs.declared.op.Actor.{Actor}
use Rattle.board_terms.specs.declared.op.Op.{Op}
use Rattle.board_core.specs.History.{Event}
use Rattle.board_core.specs.Opening.{Opening}
use Rattle.board_lock.specs.Events.{events_in, events_of, ops_of}
use Rattle.board_lock.specs.Inside.Kept.{IsReceiptOf, count_of, number_of}
use Rattle.board_lock.specs.Receipts.{accepted_call}
use Rattle.board_lock.specs.Inside.Rests.{Held}
use Rattle.board_lock.specs.Seats.{Sitting}
use Rattle.board_lock.proofs.Actors.{number-within, same-itself}
use Rattle.board_lock.proofs.Ops.{ops-more, ops-same}
use Rattle.board_lock.proofs.Growing.{Step, desk-more, differs, done, event, is-receipt, last, logs, longer-by-one, read, seat-more, small, step}
use Rattle.board_lock.proofs.desk.Desk.call.Goals as goal

pub index-requires : goal.index-requires
index-requires g c =
    let within = number-within g.K.Room.opening.config c.seat.inside.actor c.seat.invariant.acting in
    let number : c.number-number.result ≡ number_of g.K.Room.opening.config c.seat.inside.actor = c.number-number.ensures in
    let sized : length c.self.inside.counts.items ≡ g.K.Room.opening.config.harts + 1 = c.self.invariant.sized in
    omega arith

pub index_mut-requires : goal.index_mut-requires
index_mut-requires g c =
    let within = number-within g.K.Room.opening.config c.seat.inside.actor c.seat.invariant.acting in
    let number : c.number-number.result ≡ number_of g.K.Room.opening.config c.seat.inside.actor = c.number-number.ensures in
    let sized : length c.self.inside.counts.items ≡ g.K.Room.opening.config.harts + 1 = c.self.invariant.sized in
    omega arith

pub bounds-history-index : goal.bounds-history-index
bounds-history-index g c =
    let s : Step = step c.self.inside.board c.step.new.self c.seat.inside.actor c.args.op.now c.in_ok-reply.reply c.in_ok-reply.ensures.answer c.step.ensures.after in
    let more = longer-by-one s c.history-index.result.now c.history.result.now c.history-index.ensures.events c.history.ensures.events in
    omega arith

-- the counts can grow
pub overflow_add-index_mut : goal.overflow_add-index_mut
overflow_add-index_mut g c =
    let here = read c.self.invariant c.seat.inside.actor c.number-number.result c.index_mut.result.now c.seat.invariant.acting c.number-number.ensures c.index_mut.ensures.value in
    let room = small c.self.invariant c.seat.inside.actor c.index_mut.result.now c.history-index.result.now here.1 c.history-index.ensures.events c.history-index.ensures.within in
    omega arith

pub overflow_add-seat : goal.overflow_add-seat
overflow_add-seat g c =
    let here = read c.self.invariant c.seat.inside.actor c.number-number.result c.index.result.now c.seat.invariant.acting c.number-number.ensures c.index.ensures in
    let counted : c.seat.inside.count ≡ count_of c.seat.inside.actor c.self.inside.log.list = sym c.if-index-seat.false ∙ here.1 in
    let room = small c.self.invariant c.seat.inside.actor c.seat.inside.count c.history-index.result.now counted c.history-index.ensures.events c.history-index.ensures.within in
    omega arith

pub invariant_of-self-2 : goal.invariant_of-self-2
invariant_of-self-2 g c =
    let s : Step = step c.self.inside.board c.step.new.self c.seat.inside.actor c.args.op.now c.in_ok-reply.reply c.in_ok-reply.ensures.answer c.step.ensures.after in
    let at : c.index-history-index.result ≡ event s =
    last s c.history-index.result.now c.history.result.now c.index-history-index.result c.history-index.ensures.events c.history.ensures.events c.index-history-index.is in
    let here = read c.self.invariant s.actor c.number-number.result c.index_mut.result.now c.seat.invariant.acting c.number-number.ensures c.index_mut.ensures.value in
    let same : c.prefix-3.new.self ≡ c.push.new.self = c.prefix-3.ensures.0 ∙ c.prefix-2.ensures.0 ∙ c.prefix.ensures.0 in
    let named : c.prefix-3.new.self.name ≡ c.self.inside.log.name = ap (λ (l : Log Event). l.name) same ∙ c.push.ensures.0 in
    let list : c.prefix-3.new.self.list ≡ c.self.inside.log.list ++ event s ∷ [] =
    ap (λ (l : Log Event). l.list) same ∙ c.push.ensures.1 ∙ ap (λ (e : Event). c.self.inside.log.list ++ e ∷ []) at in
    desk-more s c.self.invariant c.seat.invariant.acting c.number-number.result c.index_mut.result.now c.add.new.self.total c.prefix-3.new.self c.number-number.ensures here.0 c.add.ensures.total
    named list

pub invariant_of-seat : goal.invariant_of-seat
invariant_of-seat g c =
    let d = c.self.invariant in
    let s : Step = step c.self.inside.board c.step.new.self c.seat.inside.actor c.args.op.now c.in_ok-reply.reply c.in_ok-reply.ensures.answer c.step.ensures.after in
    let at : c.index-history-index.result ≡ event s =
    last s c.history-index.result.now c.history.result.now c.index-history-index.result c.history-index.ensures.events c.history.ensures.events c.index-history-index.is in
    let here = read d s.actor c.number-number.result c.index.result.now c.seat.invariant.acting c.number-number.ensures c.index.ensures in
    let counted : c.seat.inside.count ≡ count_of s.actor c.self.inside.log.list = sym c.if-index-seat.false ∙ here.1 in
    let more : c.push.new.self.list ≡ c.self.inside.log.list ++ event s ∷ [] = c.push.ensures.1 ∙ ap (λ (e : Event). c.self.inside.log.list ++ e ∷ []) at in
    let named : c.prefix-2.result.name ≡ c.self.inside.log.name = c.prefix-2.ensures.1 ∙ ap (λ (l : Log Event). l.name) c.prefix.ensures.0 ∙ c.push.ensures.0 in
    let saw : c.prefix-2.result.list ≡ c.self.inside.log.list ++ event s ∷ [] = c.prefix-2.ensures.2 ∙ ap (λ (l : Log Event). l.list) c.prefix.ensures.0 ∙ more in
    seat-more s c.seat.invariant c.self.inside.log c.add.new.share.parts c.add.new.share.amount c.prefix.result c.prefix-2.result d.named counted c.add.ensures.parts c.add.ensures.amount
    (c.prefix.ensures.1 ∙ c.push.ensures.0) (c.prefix.ensures.2 ∙ more) named saw

pub returns-clause-receipt : goal.returns-clause-receipt
returns-clause-receipt g c =
    let d = c.self.invariant in
    let s : Step = step c.self.inside.board c.step.new.self c.seat.inside.actor c.args.op.now c.in_ok-reply.reply c.in_ok-reply.ensures.answer c.step.ensures.after in
    let at : c.index-history-index.result ≡ event s =
    last s c.history-index.result.now c.history.result.now c.index-history-index.result c.history-index.ensures.events c.history.ensures.events c.index-history-index.is in
    let here = read d s.actor c.number-number.result c.index.result.now c.seat.invariant.acting c.number-number.ensures c.index.ensures in
    let counted : c.seat.inside.count ≡ count_of s.actor c.self.inside.log.list = sym c.if-index-seat.false ∙ here.1 in
    let long : length c.self.inside.log.list ≡ length s.old.past = ap length d.logged ∙ length-reverse s.old.past in
    let opened : s.old.opening.places ≡ g.K.Room.opening.places = ap (λ (o : Opening). o.places) d.opened in
    let is : c.place-place.result ≡ s.old.opening.places + length s.old.past = c.place-place.ensures in
    let placed : g.K.Room.opening.places + length c.self.inside.log.list ≡ c.place-place.result = omega arith in
    let same : c.prefix-2.new.self ≡ c.push.new.self = c.prefix-2.ensures.0 ∙ c.prefix.ensures.0 in
    let named : c.prefix-3.result.name ≡ c.self.inside.log.name = c.prefix-3.ensures.1 ∙ ap (λ (l : Log Event). l.name) same ∙ c.push.ensures.0 in
    let saw : c.prefix-3.result.list ≡ c.self.inside.log.list ++ event s ∷ [] =
    c.prefix-3.ensures.2 ∙ ap (λ (l : Log Event). l.list) same ∙ c.push.ensures.1 ∙ ap (λ (e : Event). c.self.inside.log.list ++ e ∷ []) at in
    subst (λ (x : Sitting). IsReceiptOf g.K.Room.opening.places g.K.Room.log (accepted_call x.actor x.count c.place-place.result s.op s.reply) c.prefix-3.result) (c.seat.view_is ∙ c.see.ensures.seat)
    (is-receipt s g.K.Room.opening.places g.K.Room.log c.self.inside.log c.prefix-3.result c.seat.inside.count c.place-place.result d.named counted placed named saw)

pub returns-clause-place : goal.returns-clause-place
returns-clause-place g c =
    let d = c.self.invariant in
    let s : Step = step c.self.inside.board c.step.new.self c.seat.inside.actor c.args.op.now c.in_ok-reply.reply c.in_ok-reply.ensures.answer c.step.ensures.after in
    let at : c.index-history-index.result ≡ event s =
    last s c.history-index.result.now c.history.result.now c.index-history-index.result c.history-index.ensures.events c.history.ensures.events c.index-history-index.is in
    let long : length c.self.inside.log.list ≡ length s.old.past = ap length d.logged ∙ length-reverse s.old.past in
    let opened : s.old.opening.places ≡ g.K.Room.opening.places = ap (λ (o : Opening). o.places) d.opened in
    let is : c.place-place.result ≡ s.old.opening.places + length s.old.past = c.place-place.ensures in
    let longer : c.prefix-2.result.list ≡ c.self.inside.log.list ++ event s ∷ [] =
    c.prefix-2.ensures.2 ∙ ap (λ (l : Log Event). l.list) c.prefix.ensures.0 ∙ c.push.ensures.1 ∙ ap (λ (e : Event). c.self.inside.log.list ++ e ∷ []) at in
    let more : length c.prefix-2.result.list ≡ length c.self.inside.log.list + 1 = ap length longer ∙ length-append c.self.inside.log.list (event s ∷ []) in
    omega arith

pub returns-clause-ops : goal.returns-clause-ops
returns-clause-ops g c =
    let d = c.self.invariant in
    let s : Step = step c.self.inside.board c.step.new.self c.seat.inside.actor c.args.op.now c.in_ok-reply.reply c.in_ok-reply.ensures.answer c.step.ensures.after in
    let at : c.index-history-index.result ≡ event s =
    last s c.history-index.result.now c.history.result.now c.index-history-index.result c.history-index.ensures.events c.history.ensures.events c.index-history-index.is in
    let here = read d s.actor c.number-number.result c.index.result.now c.seat.invariant.acting c.number-number.ensures c.index.ensures in
    let saw : c.prefix.result.list ≡ c.self.inside.log.list ++ event s ∷ [] =
    c.prefix.ensures.2 ∙ c.push.ensures.1 ∙ ap (λ (e : Event). c.self.inside.log.list ++ e ∷ []) at in
    let none-since : count_of s.actor c.seat.inside.seen.list ≡ count_of s.actor c.self.inside.log.list = c.seat.invariant.saw ∙ sym c.if-index-seat.false ∙ here.1 in
    let sees : c.seat.inside.saw.list ≡ c.self.inside.log.list =
    ap (λ (x : Sitting). x.saw) (c.seat.view_is ∙ c.see.ensures.seat) ∙ ap (λ (h : Held). events_in h.board) (sym (c.self.view_is ∙ c.see.ensures.same)) ∙ sym d.logged in
    ap (ops_of s.actor) saw ∙ ops-more s.actor c.self.inside.log.list (event s) (same-itself s.actor)
    ∙ ap (λ (ops : List Op). ops ++ s.op ∷ [])
    (ops-same s.actor c.seat.inside.seen.list c.self.inside.log.list (subst (IsPrefix c.seat.inside.seen.list) sees c.seat.invariant.later) none-since)
    ∙ ap (λ (x : Sitting). x.ops ++ s.op ∷ []) (c.seat.view_is ∙ c.see.ensures.seat)

pub returns-clause-done : goal.returns-clause-done
returns-clause-done g c =
    let d = c.self.invariant in
    let s : Step = step c.self.inside.board c.step.new.self c.seat.inside.actor c.args.op.now c.in_ok-reply.reply c.in_ok-reply.ensures.answer c.step.ensures.after in
    let at : c.index-history-index.result ≡ event s =
    last s c.history-index.result.now c.history.result.now c.index-history-index.result c.history-index.ensures.events c.history.ensures.events c.index-history-index.is in
    let longer : c.prefix-2.result.list ≡ c.self.inside.log.list ++ event s ∷ [] =
    c.prefix-2.ensures.2 ∙ ap (λ (l : Log Event). l.list) c.prefix.ensures.0 ∙ c.push.ensures.1 ∙ ap (λ (e : Event). c.self.inside.log.list ++ e ∷ []) at in
    let sees : c.see.new.seat.saw ≡ c.self.inside.log.list =
    ap (λ (x : Sitting). x.saw) c.see.ensures.seat ∙ ap (λ (h : Held). events_in h.board) (sym (c.self.view_is ∙ c.see.ensures.same)) ∙ sym d.logged in
    done s g.K.Room.opening c.args.seat.now _ c.self.inside.log.list d.opened d.logged
    (ap (λ (x : Sitting). x.actor) (c.seat.view_is ∙ c.see.ensures.seat)) (subst (IsPrefix c.args.seat.now.saw) sees c.see.ensures.later) longer

pub returns-clause-now : goal.returns-clause-now
returns-clause-now g c =
    let s : Step = step c.self.inside.board c.step.new.self c.seat.inside.actor c.args.op.now c.in_ok-reply.reply c.in_ok-reply.ensures.answer c.step.ensures.after in
    let at : c.index-history-index.result ≡ event s =
    last s c.history-index.result.now c.history.result.now c.index-history-index.result c.history-index.ensures.events c.history.ensures.events c.index-history-index.is in
    let longer : c.prefix-2.result.list ≡ c.self.inside.log.list ++ event s ∷ [] =
    c.prefix-2.ensures.2 ∙ ap (λ (l : Log Event). l.list) c.prefix.ensures.0 ∙ c.push.ensures.1 ∙ ap (λ (e : Event). c.self.inside.log.list ++ e ∷ []) at in
    logs s c.self.inside.log.list c.prefix-2.result.list c.self.invariant.logged longer

pub returns-then-index-seat-clause-refusal : goal.returns-then-index-seat-clause-refusal
returns-then-index-seat-clause-refusal g c =
    let a : Actor = c.seat.inside.actor in
    let here = read c.self.invariant a c.number-number.result c.index.result.now c.seat.invariant.acting c.number-number.ensures c.index.ensures in
    let sees : c.seat.inside.saw.list ≡ c.self.inside.log.list =
    ap (λ (s : Sitting). s.saw) (c.seat.view_is ∙ c.see.ensures.seat) ∙ ap (λ (h : Held). events_in h.board) (sym (c.self.view_is ∙ c.see.ensures.same)) ∙ sym c.self.invariant.logged in
    let other = differs a c.seat.inside.saw.list c.seat.inside.count c.index.result.now (here.1 ∙ ap (count_of a) (sym sees)) c.if-index-seat.true in
    inr (subst (λ (s : Sitting). length (events_of s.actor s.saw) ≢ s.count) c.seat.view_is other, refl)
