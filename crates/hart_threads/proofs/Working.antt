-- Threads go on: what they know stays true of what they see later, and grows by what they do.
use Rattle.std.proofs.Common.{◌≡◌, ◌≢◌, ℕ, ◌+◌, ◌≤◌, Bool, true, false, List, [], ◌∷◌, ◌++◌, length, refl, sym, ap, subst, ◌∙◌, inl, inr, arith}
use Rattle.std.specs.Prelude.{reverse, if◌then◌else◌, Option, Some, None, Result, Err}
use Rattle.std.proofs.lemmas.List.{length-reverse, reverse-reverse}
use mathlib.Core.List.{IsSuffix, IsSuffix-trans, suffix_refl}
use Rattle.board_terms.specs.declared.op.Actor.{Actor}
use Rattle.board_terms.specs.declared.op.Actor.TheVariants.{Hart, Clock}
use Rattle.board_terms.specs.declared.op.Op.{Op}
use Rattle.board_terms.specs.declared.reply.Refusal.{Refusal}
use Rattle.board_terms.specs.declared.reply.Refusal.TheVariants.{HistoryFull}
use Rattle.board_terms.specs.declared.reply.Reply.{Reply}
use Rattle.board_core.specs.Accesses.{used_by_actor}
use Rattle.board_core.specs.History.{Event}
use Rattle.board_core.specs.Replies.{answer, recorded}
use Rattle.board_core.specs.Resets.{is_off}
use Rattle.board_lock.specs.declared.views.HartNow.{HartNow}
use Rattle.board_lock.specs.Events.{is_same}
use Rattle.board_lock.specs.Receipts.{AcceptedCall, accepted_call}
use Rattle.board_lock.specs.Seats.{Sitting}
use Rattle.board_lock.specs.Views.{IsDone, IsRefused, ShowsTo}
use Rattle.guest_programs.specs.declared.met.Met.{Met}
use Rattle.guest_programs.specs.declared.met.Met.TheVariants.{Nothing, FullHistory, ClosedGate}
use Rattle.hart_threads.specs.Choices.{choice_of, first_choice}
use Rattle.guest_programs.specs.Guests.{IsAt, Next, Rest, next_op}
use Rattle.hart_threads.specs.Shares.{ChoosesNone, EachOf, IsDue, WasTold, IsTurn, Refuses, gate_number, many_of}
use Rattle.hart_threads.specs.Inside.Works.{At, Goes, HasMet, HasTurn, IsAtWork, IsGoing, IsAtSeat, SeesNoMore, Stops, Task}
use Rattle.hart_threads.proofs.Counting.{each-still, earlier-of, length-events, no-more, none-since, own-one-more, rest-still}

-- ---- what was known is known of what is seen later

at-later : (a : Actor) (n : ℕ) (past later : List Event) (P : List Event → Type 0) → IsSuffix past later → At a n past P → At a n later P
at-later a n past later P since at = record { seen = at.seen; earlier = IsSuffix-trans at.earlier since; no_fewer = at.no_fewer; holds = at.holds }

sees-later : (t : Task) (a : Actor) (n : ℕ) (past later : List Event) → IsSuffix past later → SeesNoMore t a n past → SeesNoMore t a n later
sees-later t (Hart h) n past later since sees = at-later (Hart h) n past later (ChoosesNone t.opening t.guests h) since sees
sees-later t Clock n past later since (inl all) = inl all
sees-later t Clock n past later since (inr (op, r, other, at)) = inr (op, r, other, at-later Clock n past later (Refuses t.opening t.guests t.ticks Clock op r) since at)

pub stops-later : (t : Task) (a : Actor) (n : ℕ) (past later : List Event) (met : Met) → IsSuffix past later → Stops t a n past met → Stops t a n later met
stops-later t a n past later ClosedGate since stops = stops
stops-later t a n past later FullHistory since (op, at) = (op, at-later a n past later (Refuses t.opening t.guests t.ticks a op HistoryFull) since at)
stops-later t a n past later Nothing since stops = sees-later t a n past later since stops

met-later : (t : Task) (a : Actor) (n : ℕ) (past later : List Event) (met : Met) → IsSuffix past later → HasMet t a n past met → HasMet t a n later met
met-later t a n past later Nothing since has = tt
met-later t a n past later FullHistory since has = stops-later t a n past later FullHistory since has
met-later t a n past later ClosedGate since has = has

-- where as many are there later, none came since
pub same-then : (a : Actor) (n : ℕ) (past later : List Event) → IsSuffix past later → n ≤ many_of a past → many_of a later ≡ n → many_of a past ≡ n
same-then a n past later since no_fewer same = let more = no-more a past later since in omega arith

module _ (a : Actor) (n : ℕ) (past later : List Event) (since : IsSuffix past later) (no_fewer : n ≤ many_of a past) (same : many_of a later ≡ n) where
  none : many_of a since.0 ≡ 0
  none =
      let before = same-then a n past later since no_fewer same in
      let whole : many_of a (since.0 ++ past) ≡ n = ap (many_of a) since.1 ∙ same in
      none-since a since.0 past (omega arith)

  pub each-later : (P : Event → List Event → Type 0) → (many_of a past ≡ n → EachOf P a past) → EachOf P a later
  each-later P each = subst (EachOf P a) since.1 (each-still P a since.0 past none (each (same-then a n past later since no_fewer same)))

  rest-later : (guests : Next) (rest : Rest) → (many_of a past ≡ n → IsAtSeat guests rest past a) → IsAtSeat guests rest later a
  rest-later guests rest is =
      subst (λ (p : List Event). IsAtSeat guests rest p a) since.1 (rest-still guests rest a since.0 past none (is (same-then a n past later since no_fewer same)))

pub work-later : (t : Task) (a : Actor) (n : ℕ) (past later : List Event) → IsSuffix past later → IsAtWork t a n past → IsAtWork t a n later
work-later t a n past later since work = record {
  no_fewer = (let more = no-more a past later since in let few = work.no_fewer in omega arith);
  due = λ same. each-later a n past later since work.no_fewer same (IsDue t.lets t.opening t.guests t.ticks a) work.due;
  told = λ same. each-later a n past later since work.no_fewer same (WasTold t.heard t.opening) work.told;
}

pub going-later : (t : Task) (a : Actor) (n : ℕ) (past later : List Event) (rest : Rest) (met : Met) → IsSuffix past later
    → IsGoing t a n past rest met → IsGoing t a n later rest met
going-later t a n past later rest met since going = record {
  work = work-later t a n past later since going.work;
  rest_is = λ same. rest-later a n past later since going.work.no_fewer same t.guests rest going.rest_is;
  met_is = met-later t a n past later met since going.met_is;
}

-- ---- what a hart's thread chooses by its view

abbrev Chosen : (off : Bool) → Option HartNow → Rest → Option Op
Chosen off hart rest = if off then None else choice_of hart (rest [])

module _ (t : Task) (seen : List Event) (rest : Rest) (n : ℕ) where
  -- it chose by what its guest does next
  by-next : (now : HartNow) (h : ℕ) (choice : Option Op) → first_choice now (rest []) ≡ choice → IsAt rest t.guests seen h → first_choice now (next_op t.guests seen h) ≡ choice
  by-next now h choice is at = ap (first_choice now) (sym (at [])) ∙ is

  pub turn-by : (a : Actor) (off : Bool) (hart : Option HartNow) (op : Op) → ShowsTo (record { opening = t.opening; past = seen }) a hart → off ≡ is_off t.opening seen
      → Chosen off hart rest ≡ Some op → n ≤ many_of a seen → (many_of a seen ≡ n → IsAtSeat t.guests rest seen a)
      → (past : List Event) → IsSuffix seen past → many_of a past ≡ n → IsTurn t.opening t.guests t.ticks a op past
  turn-by a true hart op shows power is no_fewer rest_is past since same = absurd (let e = is in cc)
  turn-by Clock false (Some now) op shows power is no_fewer rest_is past since same = absurd shows
  turn-by Clock false None op shows power is no_fewer rest_is past since same = absurd (let e = is in cc)
  turn-by (Hart h) false None op shows power is no_fewer rest_is past since same = absurd shows
  turn-by (Hart h) false (Some now) op shows power is no_fewer rest_is past since same =
      let before = same-then (Hart h) n seen past since no_fewer same in
      record {
        seen = seen;
        earlier = since;
        still = before ∙ sym same;
        holds = (sym power, record { now = now; shows = shows; first = by-next now h (Some op) is (rest_is before) });
      }

  pub none-by : (a : Actor) (off : Bool) (hart : Option HartNow) → a ≢ Clock → ShowsTo (record { opening = t.opening; past = seen }) a hart → off ≡ is_off t.opening seen
      → Chosen off hart rest ≡ None → n ≤ many_of a seen → (many_of a seen ≡ n → IsAtSeat t.guests rest seen a) → SeesNoMore t a n seen
  none-by Clock off hart no-clock shows power is no_fewer rest_is = absurd (no-clock refl)
  none-by (Hart h) true hart no-clock shows power is no_fewer rest_is =
      record { seen = seen; earlier = suffix_refl seen; no_fewer = no_fewer; holds = λ same. inl (sym power) }
  none-by (Hart h) false None no-clock shows power is no_fewer rest_is = absurd shows
  none-by (Hart h) false (Some now) no-clock shows power is no_fewer rest_is = record {
    seen = seen;
    earlier = suffix_refl seen;
    no_fewer = no_fewer;
    holds = λ same. inr (record { now = now; shows = shows; first = by-next now h None is (rest_is same) });
  }

-- ---- a step

-- a guest is told of an operation
abbrev pub Tells : Next → Op → Reply → (rest rest' : Rest) → Type 0
Tells guests op reply rest rest' = (past : List Event) (h : ℕ) (e : Event) → e.actor ≡ Hart h → e.op ≡ op → e.reply ≡ reply
    → IsAt rest guests past h → IsAt rest' guests (e ∷ past) h

same-actor : (a : Actor) → is_same a a ≡ true
same-actor (Hart h) = grind arith
same-actor Clock = refl

told-to : (guests : Next) (op : Op) (reply : Reply) (rest rest' : Rest) (a : Actor) (past : List Event) (e : Event) → Tells guests op reply rest rest'
    → e.actor ≡ a → e.op ≡ op → e.reply ≡ reply → IsAtSeat guests rest past a → IsAtSeat guests rest' (e ∷ past) a
told-to guests op reply rest rest' Clock past e tells by asked answered is = tt
told-to guests op reply rest rest' (Hart h) past e tells by asked answered is = tells past h e by asked answered is

-- an operation whose turn it was is due, and the next one is another
module _ (t : Task) (a : Actor) (n : ℕ) (seen before : List Event) (op : Op) (reply : Reply) (e : Event) (since : IsSuffix seen before)
    (by : e.actor ≡ a) (asked : e.op ≡ op) (answered : e.reply ≡ reply) where
  own : is_same a e.actor ≡ true
  own = rw by (same-actor a)

  one-more : (many_of a (e ∷ before) ≡ n + 1) → many_of a before ≡ n
  one-more same = let more = own-one-more a e before own in omega arith

  is-told : many_of a before ≡ n → t.heard (accepted_call a n (t.opening.places + length before) op reply) → WasTold t.heard t.opening e before
  is-told now heard = rw by rw asked rw answered rw now heard

  pub work-more : IsAtWork t a n seen → HasTurn t a n seen op → t.lets (gate_number t.opening.config a) n true
      → t.heard (accepted_call a n (t.opening.places + length before) op reply) → IsAtWork t a (n + 1) (e ∷ before)
  work-more work turn let_ heard = record {
    no_fewer = (let more = own-one-more a e before own in let few = work.no_fewer in let later = no-more a seen before since in omega arith);
    due = λ same.
        let now = one-more same in (
          (λ is. (
            subst (λ (k : ℕ). t.lets (gate_number t.opening.config a) k true) (sym now) let_,
            subst (λ (o : Op). IsTurn t.opening t.guests t.ticks a o before) (sym asked) (turn before since now),
          )),
          each-later a n seen before since work.no_fewer now (IsDue t.lets t.opening t.guests t.ticks a) work.due,
        );
    told = λ same.
        let now = one-more same in (
          (λ is. is-told now heard),
          each-later a n seen before since work.no_fewer now (WasTold t.heard t.opening) work.told,
        );
  }

  pub going-more : (rest rest' : Rest) → IsGoing t a n seen rest Nothing → HasTurn t a n seen op → t.lets (gate_number t.opening.config a) n true
      → t.heard (accepted_call a n (t.opening.places + length before) op reply) → Tells t.guests op reply rest rest' → IsGoing t a (n + 1) (e ∷ before) rest' Nothing
  going-more rest rest' going turn let_ heard tells = record {
    work = work-more going.work turn let_ heard;
    rest_is = λ same. told-to t.guests op reply rest rest' a before e tells by asked answered
        (rest-later a n seen before since going.work.no_fewer (one-more same) t.guests rest going.rest_is);
    met_is = tt;
  }

call-is : (r : AcceptedCall) (actor : Actor) (ordinal place : ℕ) (op : Op) (reply : Reply) → r.actor ≡ actor → r.ordinal ≡ ordinal → r.place ≡ place → r.op ≡ op → r.reply ≡ reply
    → r ≡ accepted_call actor ordinal place op reply
call-is r actor ordinal place op reply by counted placed asked answered =
    ap (λ (x : Actor). accepted_call x r.ordinal r.place r.op r.reply) by ∙ ap (λ (x : ℕ). accepted_call actor x r.place r.op r.reply) counted
    ∙ ap (λ (x : ℕ). accepted_call actor ordinal x r.op r.reply) placed ∙ ap (λ (x : Op). accepted_call actor ordinal place x r.reply) asked
    ∙ ap (accepted_call actor ordinal place op) answered

-- what a seat saw after its call was accepted
module _ (t : Task) (s s' : Sitting) (op : Op) (reply : Reply) (done : IsDone t.opening s s' op reply) where
  abbrev pub before : List Event
  before = reverse done.before

  abbrev pub event : Event
  event = record { actor = s.actor; op = op; reply = reply; translation = used_by_actor t.opening before s.actor op }

  pub saw-then : reverse s'.saw ≡ event ∷ before
  saw-then =
      ap reverse done.after
      ∙ reverse-reverse _
      ∙ ap (λ (r : Result Reply Refusal). (recorded (record { opening = t.opening; past = before }) s.actor op r).past) done.answered

  -- its receipt has the place of its event
  pub receipt-is : (r : AcceptedCall) → r.actor ≡ s.actor → r.op ≡ op → r.ordinal ≡ s.count → r.reply ≡ reply → t.opening.places + length s'.saw ≡ r.place + 1
      → r ≡ accepted_call s.actor s.count (t.opening.places + length before) op reply
  receipt-is r actor asked ordinal answered placed =
      let long : length s'.saw ≡ length before + 1 = sym (length-reverse s'.saw) ∙ ap length saw-then ∙ (omega arith) in
      let place : r.place ≡ t.opening.places + length before = omega arith in
      call-is r s.actor s.count (t.opening.places + length before) op reply actor ordinal place asked answered

  pub done-going : (rest rest' : Rest) → Goes t s rest Nothing → HasTurn t s.actor s.count (reverse s.saw) op → t.lets (gate_number t.opening.config s.actor) s.count true
      → t.heard (accepted_call s.actor s.count (t.opening.places + length before) op reply) → Tells t.guests op reply rest rest' → s'.actor ≡ s.actor → s'.count ≡ s.count + 1
      → Goes t s' rest' Nothing
  done-going rest rest' going turn let_ heard tells actor count =
      rw actor rw count rw saw-then
      (going-more t s.actor s.count (reverse s.saw) before op reply event (earlier-of s.saw done.before done.later) refl refl refl rest rest' going turn let_ heard tells)

-- a call is refused as the board refuses it, where as many of its actor's events were seen as its seat counts
refused-there : (t : Task) (s : Sitting) (op : Op) (r : Refusal) → IsRefused t.opening s op r → many_of s.actor (reverse s.saw) ≡ s.count
    → answer t.opening (reverse s.saw) s.actor op ≡ Err r
refused-there t s op r (inl refused) same = refused
refused-there t s op r (inr (other, is)) same = absurd (other (length-events s.actor s.saw ∙ same))

-- a call whose turn it was is refused
pub refused-at : (t : Task) (s : Sitting) (seen : List Event) (op : Op) (r : Refusal) → IsRefused t.opening s op r → IsSuffix seen (reverse s.saw)
    → s.count ≤ many_of s.actor seen → HasTurn t s.actor s.count seen op → At s.actor s.count (reverse s.saw) (Refuses t.opening t.guests t.ticks s.actor op r)
refused-at t s seen op r refused since no_fewer turn = record {
  seen = reverse s.saw;
  earlier = suffix_refl (reverse s.saw);
  no_fewer = (let more = no-more s.actor seen (reverse s.saw) since in omega arith);
  holds = λ same. (turn (reverse s.saw) since same, refused-there t s op r refused same);
}
