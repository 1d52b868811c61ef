-- What seats' threads know after each of their steps.
use Rattle.std.proofs.Common.{◌≡◌, ◌≢◌, ℕ, ◌+◌, true, false, List, [], length, refl, sym, ap, subst, ◌∙◌, inl, inr, arith}
use Rattle.std.specs.Prelude.{reverse, slice_get, Option, Some, None}
use mathlib.Core.List.{IsPrefix, IsSuffix}
use Rattle.board_terms.specs.declared.op.Actor.{Actor}
use Rattle.board_terms.specs.declared.op.Actor.TheVariants.{Hart, Clock}
use Rattle.board_terms.specs.declared.op.Op.{Op}
use Rattle.board_terms.specs.declared.op.Op.TheVariants.{Tick}
use Rattle.board_terms.specs.declared.reply.Refusal.{Refusal}
use Rattle.board_terms.specs.declared.reply.Refusal.TheVariants as refusals
use Rattle.board_terms.specs.declared.reply.Refusal.TheVariants.{Off, WrongPhase, HistoryFull, TimeFull}
use Rattle.board_terms.specs.declared.reply.Reply.{Reply}
use Rattle.board_core.specs.History.{Event}
use Rattle.board_lock.specs.declared.views.HartView.{HartView}
use Rattle.board_lock.specs.Events.{IsActor}
use Rattle.board_lock.specs.Receipts.{accepted_call}
use Rattle.board_lock.specs.Seats.{Sitting, seeing, sitting}
use Rattle.board_lock.specs.Views.{IsDone, IsRefused, IsView}
use Rattle.guest_programs.specs.declared.met.Met.{Met}
use Rattle.guest_programs.specs.declared.met.Met.TheVariants.{Nothing, FullHistory, ClosedGate}
use Rattle.hart_threads.specs.Choices.{next_choice}
use Rattle.guest_programs.specs.Guests.{IsAt, Rest}
use Rattle.guest_programs.specs.Met.{met_by_refusal}
use Rattle.hart_threads.specs.Shares.{Refuses, gate_number}
use Rattle.hart_threads.specs.Inside.Works.{At, Goes, HasTurn, HasWorked, IsAtWork, IsGoing, IsAtSeat, Stops, Task, WorkedAt}
use Rattle.hart_threads.proofs.Counting.{earlier-of}
use Rattle.hart_threads.proofs.Working.{event, going-later, none-by, refused-at, saw-then, stops-later, turn-by, work-later, work-more}

-- ---- any seat

rest-fresh : (t : Task) (a : Actor) (rest : Rest) → ((h : ℕ) → IsAt rest t.guests [] h) → IsAtSeat t.guests rest [] a
rest-fresh t (Hart h) rest is = is h
rest-fresh t Clock rest is = tt

work-fresh : (t : Task) (a : Actor) → IsAtWork t a 0 []
work-fresh t a = record { no_fewer = omega arith; due = λ same. tt; told = λ same. tt }

-- at first
pub fresh-going : (t : Task) (s : Sitting) (rest : Rest) → s ≡ sitting s.actor 0 [] [] → ((h : ℕ) → IsAt rest t.guests [] h) → Goes t s rest Nothing
fresh-going t s rest fresh is =
    subst (λ (x : Sitting). Goes t x rest Nothing) (sym fresh)
    (let at : IsGoing t s.actor 0 [] rest Nothing = record { work = work-fresh t s.actor; rest_is = λ same. rest-fresh t s.actor rest is; met_is = tt } in at)

-- after a look
pub looked : (t : Task) (s s' : Sitting) (rest : Rest) (met : Met) → s' ≡ seeing s s'.saw → IsPrefix s.saw s'.saw → Goes t s rest met → Goes t s' rest met
looked t s s' rest met same later going =
    subst (λ (x : Sitting). Goes t x rest met) (sym same) (going-later t s.actor s.count (reverse s.saw) (reverse s'.saw) rest met (earlier-of s.saw s'.saw later) going)

pub worked-later : (t : Task) (s s' : Sitting) (met : Met) → s' ≡ seeing s s'.saw → IsPrefix s.saw s'.saw → WorkedAt t s met → WorkedAt t s' met
worked-later t s s' met same later worked =
    let since = earlier-of s.saw s'.saw later in
    subst (λ (x : Sitting). WorkedAt t x met) (sym same) (record {
      acting = worked.acting;
      work = work-later t s.actor s.count (reverse s.saw) (reverse s'.saw) since worked.work;
      stopped = stops-later t s.actor s.count (reverse s.saw) (reverse s'.saw) met since worked.stopped;
    })

-- ---- a hart's

pub met-nothing : (v : HartView) (met : Met) (guest : Option Op) (op : Op) → next_choice v met guest ≡ Some op → met ≡ Nothing
met-nothing v Nothing guest op is = refl
met-nothing v FullHistory guest op is = absurd (let e = is in cc)
met-nothing v ClosedGate guest op is = absurd (let e = is in cc)

-- what it chose by its view is its turn
pub view-turn : (t : Task) (s : Sitting) (v : HartView) (met : Met) (rest : Rest) (op : Op) → IsView t.opening s v → Goes t s rest met
    → next_choice v met (rest []) ≡ Some op → HasTurn t s.actor s.count (reverse s.saw) op
view-turn t s v Nothing rest op view going is =
    turn-by t (reverse s.saw) rest s.count s.actor v.is_off v.hart op view.hart view.power is going.work.no_fewer going.rest_is
view-turn t s v FullHistory rest op view going is = absurd (let e = is in cc)
view-turn t s v ClosedGate rest op view going is = absurd (let e = is in cc)

-- it chose nothing by its view, and every seat rests
stops-by : (t : Task) (s : Sitting) (v : HartView) (met : Met) (rest : Rest) → s.actor ≢ Clock → IsView t.opening s v → Goes t s rest met
    → next_choice v met (rest []) ≡ None → Stops t s.actor s.count (reverse s.saw) met
stops-by t s v Nothing rest hart view going is =
    none-by t (reverse s.saw) rest s.count s.actor v.is_off v.hart hart view.hart view.power is going.work.no_fewer going.rest_is
stops-by t s v FullHistory rest hart view going is = going.met_is
stops-by t s v ClosedGate rest hart view going is = going.met_is

pub rested : (t : Task) (s s' : Sitting) (v : HartView) (met : Met) (rest : Rest) → s.actor ≢ Clock → IsActor t.opening.config s.actor → IsView t.opening s v
    → Goes t s rest met → next_choice v met (rest []) ≡ None → s' ≡ seeing s s'.saw → IsPrefix s.saw s'.saw → WorkedAt t s' met
rested t s s' v met rest hart acting view going is same later =
    worked-later t s s' met same later (record { acting = acting; work = going.work; stopped = stops-by t s v met rest hart view going is })

-- its gate closed
pub closed-going : (t : Task) (s : Sitting) (rest : Rest) → Goes t s rest Nothing → t.lets (gate_number t.opening.config s.actor) s.count false → Goes t s rest ClosedGate
closed-going t s rest going told = record { work = going.work; rest_is = going.rest_is; met_is = told }

-- its call is refused, since the history is full
full-going : (t : Task) (s s' : Sitting) (rest : Rest) (op : Op) → Goes t s rest Nothing → HasTurn t s.actor s.count (reverse s.saw) op
    → s' ≡ seeing s s'.saw → IsPrefix s.saw s'.saw → IsRefused t.opening s' op HistoryFull → Goes t s' rest FullHistory
full-going t s s' rest op going turn same later refused =
    let since = earlier-of s.saw s'.saw later in
    let after = looked t s s' rest Nothing same later going in
    let at : At s.actor s.count (reverse s'.saw) (Refuses t.opening t.guests t.ticks s.actor op HistoryFull) =
    refused-at t (seeing s s'.saw) (reverse s.saw) op HistoryFull (subst (λ (x : Sitting). IsRefused t.opening x op HistoryFull) same refused) since going.work.no_fewer turn in
    subst (λ (x : Sitting). Goes t x rest FullHistory) (sym same)
    (let now = subst (λ (x : Sitting). Goes t x rest Nothing) same after in record { work = now.work; rest_is = now.rest_is; met_is = (op, at) })

-- its call is refused
pub refused-going : (t : Task) (s s' : Sitting) (rest : Rest) (op : Op) (r : Refusal) → Goes t s rest Nothing
    → HasTurn t s.actor s.count (reverse s.saw) op → s' ≡ seeing s s'.saw → IsPrefix s.saw s'.saw → IsRefused t.opening s' op r → Goes t s' rest (met_by_refusal r)
refused-going t s s' rest op HistoryFull going turn same later refused = full-going t s s' rest op going turn same later refused
refused-going t s s' rest op Off going turn same later refused = looked t s s' rest Nothing same later going
refused-going t s s' rest op WrongPhase going turn same later refused = looked t s s' rest Nothing same later going
refused-going t s s' rest op refusals.Nothing going turn same later refused = looked t s s' rest Nothing same later going
refused-going t s s' rest op TimeFull going turn same later refused = looked t s s' rest Nothing same later going

-- ---- the clock's

pub tick-turn : (t : Task) (k n : ℕ) (seen : List Event) → slice_get t.ticks k ≡ Some n → HasTurn t Clock k seen (Tick n)
tick-turn t k n seen is past since same = (n, subst (λ (i : ℕ). slice_get t.ticks i ≡ Some n) (sym same) is, refl)

pub clock-fresh : (t : Task) (s : Sitting) → s ≡ sitting Clock 0 [] [] → IsAtWork t Clock s.count (reverse s.saw)
clock-fresh t s fresh = subst (λ (x : Sitting). IsAtWork t Clock x.count (reverse x.saw)) (sym fresh) (work-fresh t Clock)

-- a tick was accepted
pub clock-done : (t : Task) (s s' : Sitting) (n : ℕ) (reply : Reply) → s.actor ≡ Clock → IsAtWork t Clock s.count (reverse s.saw) → slice_get t.ticks s.count ≡ Some n
    → t.lets (gate_number t.opening.config s.actor) s.count true → (done : IsDone t.opening s s' (Tick n) reply)
    → t.heard (accepted_call s.actor s.count (t.opening.places + length (reverse done.before)) (Tick n) reply) → s'.count ≡ s.count + 1 → IsAtWork t Clock s'.count (reverse s'.saw)
clock-done t s s' n reply clock work next told done heard count =
    rw count rw (saw-then t s s' (Tick n) reply done)
    (work-more t Clock s.count (reverse s.saw) (reverse done.before) (Tick n) reply (event t s s' (Tick n) reply done) (earlier-of s.saw done.before done.later) clock refl refl
    work (tick-turn t s.count n (reverse s.saw) next) (subst (λ (a : Actor). t.lets (gate_number t.opening.config a) s.count true) clock told)
    (subst (λ (a : Actor). t.heard (accepted_call a s.count (t.opening.places + length (reverse done.before)) (Tick n) reply)) clock heard))

clock-is : (t : Task) (s : Sitting) (met : Met) → s.actor ≡ Clock → HasWorked t Clock s.count (reverse s.saw) met → WorkedAt t s met
clock-is t s met clock worked = subst (λ (a : Actor). HasWorked t a s.count (reverse s.saw) met) (sym clock) worked

pub clock-closed : (t : Task) (s : Sitting) → s.actor ≡ Clock → IsAtWork t Clock s.count (reverse s.saw) → t.lets (gate_number t.opening.config s.actor) s.count false → WorkedAt t s ClosedGate
clock-closed t s clock work told = clock-is t s ClosedGate clock
    (record { acting = tt; work = work; stopped = subst (λ (a : Actor). t.lets (gate_number t.opening.config a) s.count false) clock told })

pub clock-all : (t : Task) (s : Sitting) → s.actor ≡ Clock → IsAtWork t Clock s.count (reverse s.saw) → s.count ≡ length t.ticks → WorkedAt t s Nothing
clock-all t s clock work all = clock-is t s Nothing clock (record { acting = tt; work = work; stopped = inl all })

tick-refused : (t : Task) (n : ℕ) (past : List Event) (op : Op) (r : Refusal) → At Clock n past (Refuses t.opening t.guests t.ticks Clock op r)
    → Stops t Clock n past (met_by_refusal r)
tick-refused t n past op HistoryFull at = (op, at)
tick-refused t n past op Off at = inr (op, Off, (λ e. let no = e in cc), at)
tick-refused t n past op WrongPhase at = inr (op, WrongPhase, (λ e. let no = e in cc), at)
tick-refused t n past op refusals.Nothing at = inr (op, refusals.Nothing, (λ e. let no = e in cc), at)
tick-refused t n past op TimeFull at = inr (op, TimeFull, (λ e. let no = e in cc), at)

-- a tick was refused
module _ (t : Task) (s s' : Sitting) (n : ℕ) (clock : s.actor ≡ Clock) (work : IsAtWork t Clock s.count (reverse s.saw)) (next : slice_get t.ticks s.count ≡ Some n)
    (same : s' ≡ seeing s s'.saw) (later : IsPrefix s.saw s'.saw) (r : Refusal) (refused : IsRefused t.opening s' (Tick n) r) where
  since : IsSuffix (reverse s.saw) (reverse s'.saw)
  since = earlier-of s.saw s'.saw later

  is-now : s' ≡ sitting Clock s.count s.ops s'.saw
  is-now = same ∙ ap (λ (a : Actor). sitting a s.count s.ops s'.saw) clock

  at : At Clock s.count (reverse s'.saw) (Refuses t.opening t.guests t.ticks Clock (Tick n) r)
  at = refused-at t (sitting Clock s.count s.ops s'.saw) (reverse s.saw) (Tick n) r (subst (λ (x : Sitting). IsRefused t.opening x (Tick n) r) is-now refused) since work.no_fewer
      (tick-turn t s.count n (reverse s.saw) next)

  work-now : IsAtWork t Clock s.count (reverse s'.saw)
  work-now = work-later t Clock s.count (reverse s.saw) (reverse s'.saw) since work

  pub clock-refused : WorkedAt t s' (met_by_refusal r)
  clock-refused = subst (λ (x : Sitting). WorkedAt t x (met_by_refusal r)) (sym is-now)
      (record { acting = tt; work = work-now; stopped = tick-refused t s.count (reverse s'.saw) (Tick n) r at })
