-- What is under the lock, at a seat and in a receipt after one event more.
use Rattle.std.proofs.Common.{◌≡◌, ◌≢◌, ℕ, ◌+◌, ◌<◌, ◌≤◌, ◌^◌, true, false, List, [], ◌∷◌, ◌++◌, length, reverse, set, get_or, refl, inl, inr, sym, ap, subst, ◌∙◌, append-nil, arith}
use Rattle.std.specs.Prelude.{slice_index_or, Ok}
use Rattle.std.specs.List.{AllByRecursion}
use Rattle.std.proofs.lemmas.Bool.{cases_Bool}
use Rattle.std.proofs.lemmas.List.{get_or-set_same, get_or-set_other, length-append, length-reverse, length-set, reverse-reverse}
use Rattle.std.proofs.lemmas.Grind.{get_or_default_zero}
use mathlib.Core.List.{IsPrefix, reverse-cons}
use Rattle.ghost_log.specs.declared.tokens.Log.{Log}
use Rattle.ghost_log.specs.declared.tokens.Prefix.{Prefix}
use Rattle.board_terms.specs.declared.config.Config.{Config}
use Rattle.board_terms.specs.declared.op.Actor.{Actor}
use Rattle.board_terms.specs.declared.op.Op.{Op}
use Rattle.board_terms.specs.declared.reply.Reply.{Reply}
use Rattle.board_core.specs.Accesses.{used_by_actor}
use Rattle.board_core.specs.Course.{Course}
use Rattle.board_core.specs.History.{Event}
use Rattle.board_core.specs.Opening.{Opening}
use Rattle.board_core.specs.Replies.{answer, recorded, stepped}
use Rattle.board_lock.specs.Events.{IsActor, events_in, events_of, is_same}
use Rattle.board_lock.specs.Inside.Kept.{IsDesk, IsSeated, IsReceiptOf, Tally, count_of, counter, number_of, tally}
use Rattle.board_lock.specs.Receipts.{accepted_call}
use Rattle.board_lock.specs.Seats.{Sitting}
use Rattle.board_lock.specs.Views.{IsDone, board_after}
use Rattle.board_lock.specs.declared.rests.Rests.{Rests}
use Rattle.board_lock.proofs.Actors.{number-tells, number-within, same-is, same-itself}
use Rattle.board_lock.proofs.Places.{after, slice_get-tells, count_of-append, count_of-within, length-events}

all-more : (P : Event → Type 0) (xs : List Event) (e : Event) → AllByRecursion P xs → P e → AllByRecursion P (xs ++ e ∷ [])
all-more P [] e all more = (more, tt)
all-more P (x ∷ xs) e all more = (all.0, all-more P xs e all.1 more)

count-more : (a : Actor) (es : List Event) (e : Event) → is_same a e.actor ≡ true → count_of a (es ++ e ∷ []) ≡ count_of a es + 1
count-more a es e same = count_of-append a es (e ∷ []) ∙ rw same (omega arith)

count-same : (a : Actor) (es : List Event) (e : Event) → is_same a e.actor ≡ false → count_of a (es ++ e ∷ []) ≡ count_of a es
count-same a es e other = count_of-append a es (e ∷ []) ∙ rw other (omega arith)

-- a count that differs from the one that is kept isn't that of the events
pub differs : (a : Actor) (es : List Event) (count value : ℕ) → value ≡ count_of a es → value ≢ count → length (events_of a es) ≢ count
differs a es count value is other = λ e. other (is ∙ sym (length-events 0 a es) ∙ e)

module _ {opening : Opening} {room : ℕ} {b : Course} {rests : Rests} {t : Tally} {log : Log Event} (d : IsDesk opening room b rests t log) where
  -- a count that is read
  pub read : (a : Actor) (n v : ℕ) → IsActor opening.config a → n ≡ number_of opening.config a → v ≡ get_or t.counts n v
      → (v ≡ slice_index_or t.counts n 0) × (v ≡ count_of a log.list)
  read a n v acting number value =
      let within : n < length t.counts = (let w = number-within opening.config a acting in let s = d.sized in omega arith) in
      let at : v ≡ slice_index_or t.counts n 0 = value ∙ get_or_default_zero t.counts n v within in
      (at, at ∙ ap (λ (k : ℕ). slice_index_or t.counts k 0) number ∙ d.counted a acting)

  -- a count of events of a board is far from the end of numbers, where the log is as long as the history
  pub small : (a : Actor) (count : ℕ) (history : List Event) → count ≡ count_of a log.list → reverse history ≡ b.past → length history ≤ b.opening.config.limit → count + 1 < 2 ^ 64
  small a count history counted is within =
      let most = count_of-within a log.list in
      let long : length log.list ≡ length history = ap length (d.logged ∙ ap reverse (sym is)) ∙ length-reverse (reverse history) ∙ length-reverse history in
      let opened : b.opening.config.limit ≡ opening.config.limit = ap (λ (o : Opening). o.config.limit) d.opened in
      let limit = d.good.at_most_a_million_events in
      omega arith

-- An accepted step of a board.
pub record Step : Type 0 where
  pub old : Course
  pub new : Course
  pub actor : Actor
  pub op : Op
  pub reply : Reply
  pub answered : Ok reply ≡ answer old.opening old.past actor op
  pub went : new ≡ stepped old actor op

abbrev pub step : (old new : Course) (actor : Actor) (op : Op) (reply : Reply) → Ok reply ≡ answer old.opening old.past actor op → new ≡ stepped old actor op → Step
step old new actor op reply answered went = record { old = old; new = new; actor = actor; op = op; reply = reply; answered = answered; went = went }

-- the event that it records
abbrev pub event : Step → Event
event s = record { actor = s.actor; op = s.op; reply = s.reply; translation = used_by_actor s.old.opening s.old.past s.actor s.op }

module _ (s : Step) where
  is : s.new ≡ record { opening = s.old.opening; past = event s ∷ s.old.past }
  is = s.went ∙ sym (ap (recorded s.old s.actor s.op) s.answered)

  -- the history has the event at its end
  pub longer : (history history' : List Event) → reverse history ≡ s.old.past → reverse history' ≡ s.new.past → history' ≡ history ++ event s ∷ []
  longer history history' old new =
      sym (reverse-reverse history') ∙ ap reverse (new ∙ ap (λ (c : Course). c.past) is) ∙ reverse-cons (event s) s.old.past
      ∙ ap (λ (es : List Event). es ++ event s ∷ []) (ap reverse (sym old) ∙ reverse-reverse history)

  pub longer-by-one : (history history' : List Event) → reverse history ≡ s.old.past → reverse history' ≡ s.new.past → length history' ≡ length history + 1
  longer-by-one history history' old new = ap length (longer history history' old new) ∙ length-append history (event s ∷ [])

  -- which is what a look at it finds
  pub last : (history history' : List Event) (at : Event) → reverse history ≡ s.old.past → reverse history' ≡ s.new.past → at ≡ get_or history' (length history) at → at ≡ event s
  last history history' at old new is =
      is ∙ ap (λ (es : List Event). get_or es (length history) at) (longer history history' old new)
      ∙ (let more = length-append history (event s ∷ []) in let one : length (event s ∷ []) ≡ 1 = refl in
      slice_get-tells (history ++ event s ∷ []) (length history) (event s) at (after history (event s) []))

  pub logs : (list list' : List Event) → list ≡ events_in s.old → list' ≡ list ++ event s ∷ [] → list' ≡ events_in s.new
  logs list list' logged longer =
      longer ∙ ap (λ (es : List Event). es ++ event s ∷ []) logged ∙ sym (reverse-cons (event s) s.old.past) ∙ ap events_in (sym is)

  -- a seat that saw the board before has seen it since with the event
  pub done : (opening : Opening) (old new : Sitting) (list : List Event) → s.old.opening ≡ opening → list ≡ events_in s.old → s.actor ≡ old.actor
      → IsPrefix old.saw list → new.saw ≡ list ++ event s ∷ [] → IsDone opening old new s.op s.reply
  done opening old new list opened logged by prefix saw =
      record {
        before = list;
        later = prefix;
        answered = subst (λ (x : Actor). answer opening (reverse list) x s.op ≡ Ok s.reply) by (ap (λ (x : Course). answer x.opening x.past s.actor s.op) there ∙ sym s.answered);
        after = logs list new.saw logged saw ∙ ap events_in s.went ∙ ap (λ (x : Course). events_in (stepped x s.actor s.op)) (sym there)
            ∙ ap (λ (x : Actor). events_in (stepped (board_after opening list) x s.op)) by;
      }
    where
      past : reverse list ≡ s.old.past
      past = ap reverse logged ∙ reverse-reverse s.old.past

      there : board_after opening list ≡ s.old
      there = ap (λ (o : Opening). record { opening = o; past = reverse list }) (sym opened) ∙ ap (λ (es : List Event). record { opening = s.old.opening; past = es }) past

  module _ {opening : Opening} {room : ℕ} {rests : Rests} {t : Tally} {log : Log Event} (d : IsDesk opening room s.old rests t log) (acting : IsActor opening.config s.actor) where
    pub desk-more : (n v total : ℕ) (log' : Log Event) → n ≡ number_of opening.config s.actor → v ≡ slice_index_or t.counts n 0 → total ≡ t.total + 1
        → log'.name ≡ log.name → log'.list ≡ log.list ++ event s ∷ [] → IsDesk opening room s.new rests (tally (set t.counts n (v + 1)) total t.parts t.amount) log'
    desk-more n v total log' number value sum named grown =
        record {
          good = d.good;
          opened = ap (λ (c : Course). c.opening) is ∙ d.opened;
          named = named ∙ d.named;
          logged = logs log.list log'.list d.logged grown;
          summed = sum ∙ (let was = d.summed in omega (arith, length-append log.list (event s ∷ []))) ∙ ap length (sym grown);
          sized = length-set t.counts n (v + 1) ∙ d.sized;
          counted = each;
          acted = rw grown (all-more (λ (e : Event). IsActor opening.config e.actor) log.list (event s) d.acted acting);
          at_rest = d.at_rest;
          no_parts = d.no_parts;
          no_amount = d.no_amount;
        }
      where
        within : n < length t.counts
        within = let w = number-within opening.config s.actor acting in let sized = d.sized in omega arith

        each : (x : Actor) → IsActor opening.config x → slice_index_or (set t.counts n (v + 1)) (number_of opening.config x) 0 ≡ count_of x log'.list
        each x there = elim (cases_Bool (is_same x s.actor)) [
          | inl same ↦
              let one : x ≡ s.actor = same-is x s.actor same in
              let at : number_of opening.config x ≡ n = ap (number_of opening.config) one ∙ sym number in
              let before : v ≡ count_of s.actor log.list = value ∙ ap (λ (k : ℕ). slice_index_or t.counts k 0) number ∙ d.counted s.actor acting in
              let more : count_of s.actor log'.list ≡ count_of s.actor log.list + 1 = ap (count_of s.actor) grown ∙ count-more s.actor log.list (event s) (same-itself s.actor) in
              ap (λ (k : ℕ). slice_index_or (set t.counts n (v + 1)) k 0) at ∙ get_or-set_same t.counts n (v + 1) 0 within
              ∙ ap (λ (k : ℕ). k + 1) before ∙ sym more ∙ ap (λ (y : Actor). count_of y log'.list) (sym one)
          | inr other ↦
              let apart = number-tells opening.config x s.actor there acting other in
              get_or-set_other t.counts n (number_of opening.config x) (v + 1) 0 (λ (e : number_of opening.config x ≡ n). apart (e ∙ number))
              ∙ d.counted x there ∙ sym (ap (count_of x) grown ∙ count-same x log.list (event s) other)
        ]

  -- a seat that counts all of its actor's events so far counts one more
  pub seat-more : {config : Config} {room count parts amount : ℕ} {seen last : Prefix Event} → IsSeated config room (counter s.actor count parts amount) seen last
      → (log : Log Event) (parts' amount' : ℕ) (seen' last' : Prefix Event) → log.name ≡ room → count ≡ count_of s.actor log.list → parts' ≡ parts → amount' ≡ amount + 1
      → seen'.name ≡ log.name → seen'.list ≡ log.list ++ event s ∷ [] → last'.name ≡ log.name → last'.list ≡ log.list ++ event s ∷ []
      → IsSeated config room (counter s.actor (count + 1) parts' amount') seen' last'
  seat-more seat log parts' amount' seen' last' listed counted part more named saw last-named lasts =
      record {
        acting = seat.acting;
        one_part = part ∙ seat.one_part;
        counted = more ∙ ap (λ (k : ℕ). k + 1) seat.counted;
        named = named ∙ listed;
        saw = ap (count_of s.actor) saw ∙ count-more s.actor log.list (event s) (same-itself s.actor) ∙ ap (λ (k : ℕ). k + 1) (sym counted);
        last_named = last-named ∙ listed;
        later = ([], append-nil seen'.list ∙ saw ∙ sym lasts);
      }

  pub is-receipt : (first room : ℕ) (log : Log Event) (seen : Prefix Event) (count place : ℕ) → log.name ≡ room → count ≡ count_of s.actor log.list → first + length log.list ≡ place
      → seen.name ≡ log.name → seen.list ≡ log.list ++ event s ∷ [] → IsReceiptOf first room (accepted_call s.actor count place s.op s.reply) seen
  is-receipt first room log seen count place listed counted placed named saw =
      record { before = log.list; event = event s; named = named ∙ listed; last = saw; by = refl; asked = refl; answered = refl; placed = placed; counted = sym counted }
