-- How an accepted step makes a course one event longer.
use Rattle.std.proofs.Common.{◌≡◌, ◌≢◌, ℕ, ◌+◌, ◌<◌, ◌≤◌, Bool, true, false, List, [], ◌∷◌, ◌++◌, length, reverse, refl, sym, ap, ◌∙◌, arith, eqb, inl, inr, subst}
use Rattle.std.specs.Prelude.{Option, Some, None, Ok, Err, is_some, unwrap_or, nat_le, nat_lt}
use Rattle.std.proofs.lemmas.Bool.{cases_Bool, le-ltb, leb-false, leb-true, ltb-false}
use Rattle.std.proofs.lemmas.List.{reverse-append}
use Rattle.std.proofs.lemmas.Option.{same_Some}
use Rattle.interrupts.specs.Timing.{Timing, last_time, ticked}
use Rattle.tlb_model.specs.Entries.{Entry}
use Rattle.board_rules.specs.Opening.{Opening}
use Rattle.board_terms.specs.declared.op.Actor.{Actor}
use Rattle.board_terms.specs.declared.op.Actor.TheVariants.{Hart, Clock}
use Rattle.hart_access.specs.declared.accesses.Access.{Access}
use Rattle.hart_access.specs.declared.accesses.Access.TheVariants as accesses
use Rattle.board_rules.specs.History.{Event, IsReach, Reach, access_of, access_op, entry_of, using}
use Rattle.board_terms.specs.declared.op.Op.{Op}
use Rattle.board_terms.specs.declared.op.Op.TheVariants.{Load, Store, Fetch, Amo, Tick}
use Rattle.board_terms.specs.declared.reply.Refusal.{Refusal}
use Rattle.board_terms.specs.declared.reply.Refusal.TheVariants.{Off, WrongPhase, HistoryFull, TimeFull}
use Rattle.board_terms.specs.declared.reply.Reply.{Reply}
use Rattle.board_terms.specs.declared.reply.Reply.TheVariants.{Done}
use Rattle.board_rules.specs.Accesses.{access_reply, used, used_by_access, used_by_actor}
use Rattle.board_rules.specs.Interrupts.{time}
use Rattle.board_rules.specs.Refusals.{IsAccepted, first_refusal, first_that_holds, is_full, refusals, refusals_in, situation}
use Rattle.board_rules.specs.Replies.{answer, refused_or, reply, stepped}
use Rattle.board_rules.specs.Resets.{is_off}
use Rattle.board_rules.specs.Cuts.{IsKept}
use Rattle.board_rules.proofs.Accessing.{amo_at}
use Rattle.board_rules.proofs.Rows.{unrefused}
use Rattle.board_rules.proofs.Tables.{eqb-same}

-- a step that is refused answers its first refusal, and another one its reply
pub refused : (o : Opening) (past : List Event) (actor : Actor) (op : Op) (refusal : Refusal) → first_refusal o past actor op ≡ Some refusal → answer o past actor op ≡ Err refusal
refused o past (Hart h) op refusal some = ap (λ first. refused_or first (reply o past h op)) some
refused o past Clock op refusal some = ap (λ first. refused_or first Done) some

pub hart_answered : (o : Opening) (past : List Event) (h : ℕ) (op : Op) (r : Reply) → first_refusal o past (Hart h) op ≡ None → r ≡ reply o past h op → answer o past (Hart h) op ≡ Ok r
hart_answered o past h op r none is = ap (λ first. refused_or first (reply o past h op)) none ∙ ap Ok (sym is)

pub clock_answered : (o : Opening) (past : List Event) (op : Op) → first_refusal o past Clock op ≡ None → answer o past Clock op ≡ Ok Done
clock_answered o past op none = ap (λ first. refused_or first Done) none

-- what isn't refused to a hart: the hart is there, its situation lets it happen, and the history has room
pub record IsUnrefused (full : Bool) (o : Opening) (past : List Event) (h : ℕ) (op : Op) : Type 0 where
  pub inside : h < o.config.harts
  pub accepted : IsAccepted op (situation o past h)
  pub room : full ≡ false

pub hart_unrefused : (full : Bool) (o : Opening) (past : List Event) (h : ℕ) (op : Op) → first_that_holds (refusals full o past h op) ≡ None → IsUnrefused full o past h op
hart_unrefused full o past h op none =
    let parts = by_tests (is_off o past) (nat_le o.config.harts h) none in
    let free = unrefused op (situation o past h) full parts.1 in
    record { inside = leb-false o.config.harts h parts.0; accepted = free.0; room = free.1 }
  where
    by_tests : (off missing : Bool) → first_that_holds ((off, Off) ∷ (missing, WrongPhase) ∷ refusals_in (situation o past h) op full) ≡ None
        → (missing ≡ false) × (first_that_holds (refusals_in (situation o past h) op full) ≡ None)
    by_tests true missing none = cc
    by_tests false true none = cc
    by_tests false false none = (refl, none)

-- a tick that isn't refused has room in the history, and in the time
pub tick_unrefused : (o : Opening) (past : List Event) (n : ℕ) → first_refusal o past Clock (Tick n) ≡ None → (is_full o past ≡ false) × (time o past + n ≤ last_time)
tick_unrefused o past n none = let parts = by_tests (is_off o past) (is_full o past) (nat_lt last_time (time o past + n)) none in (parts.0, ltb-false last_time (time o past + n) parts.1)
  where
    by_tests : (off full late : Bool) → first_that_holds ((off, Off) ∷ (false, WrongPhase) ∷ (full, HistoryFull) ∷ (late, TimeFull) ∷ []) ≡ None → (full ≡ false) × (late ≡ false)
    by_tests true full late none = cc
    by_tests false true late none = cc
    by_tests false false true none = cc
    by_tests false false false none = (refl, refl)

-- ticks that the timers take
pub ticked_on : (t : Timing) (n : ℕ) → is_some (ticked t n) ≡ true → (unwrap_or (ticked t n) t ≡ record t { time = t.time + n }) × (nat_lt last_time (t.time + n) ≡ false)
ticked_on t n taken = elim (cases_Bool (nat_le (t.time + n) last_time)) [
  | inl early ↦ (rw early refl, le-ltb last_time (t.time + n) (leb-true (t.time + n) last_time early))
  | inr late ↦ absurd (let e = rw late at taken in cc)
]

-- an operation that isn't an access uses no entry
pub entry_used : (o : Opening) (past : List Event) (x : ℕ) (op : Op) → entry_of (access_of op) (used o past x op) ≡ used o past x op
entry_used o past x op = by_access (access_of op)
  where
    by_access : (reach : Option Reach) → entry_of reach (used_by_access o past x reach) ≡ used_by_access o past x reach
    by_access None = refl
    by_access (Some reach) = refl

-- so an event that is made of it is the one of the definitions
pub recorded_as : (o : Opening) (past : List Event) (x : ℕ) (op : Op) (reply : Reply) (entry : Option Entry) → entry ≡ used o past x op
    → (let made : Event = record { actor = Hart x; op = op; reply = reply; translation = entry_of (access_of op) entry } in made) ≡ using x op reply entry
recorded_as o past x op reply entry is =
    let same = ap (entry_of (access_of op)) is ∙ entry_used o past x op ∙ sym is in
    λ i. record { actor = Hart x; op = op; reply = reply; translation = same i }

-- an operation that is an access is the one of its address, and has its reply
pub access_is : (op : Op) (va : ℕ) (what : Access) → access_of op ≡ Some (record { va = va; access = what }) → op ≡ access_op va what
access_is (Load at) va what is = ap (λ (reach : Reach). access_op reach.va reach.access) (same_Some _ _ is)
access_is (Store at value) va what is = ap (λ (reach : Reach). access_op reach.va reach.access) (same_Some _ _ is)
access_is (Fetch at) va what is = ap (λ (reach : Reach). access_op reach.va reach.access) (same_Some _ _ is)
access_is (Amo at amo) va what is = ap (λ (reach : Reach). access_op reach.va reach.access) (same_Some _ _ is)
access_is op va what is = absurd cc

-- so the access is the one of its operation
pub access_again : (op : Op) (va : ℕ) (what : Access) → access_of op ≡ Some (record { va = va; access = what }) → IsReach va what
access_again op va what is = subst (λ (op : Op). access_of op ≡ Some (record { va = va; access = what })) (access_is op va what is) is

pub access_replied : (o : Opening) (past : List Event) (h va : ℕ) (what : Access) → IsReach va what → access_reply o past h va what ≡ reply o past h (access_op va what)
access_replied o past h va accesses.Load is = refl
access_replied o past h va (accesses.Store value) is = refl
access_replied o past h va accesses.Fetch is = refl
access_replied o past h va (accesses.Amo at amo) is = ap (λ word. access_reply o past h word (accesses.Amo at amo)) (sym (amo_at va at amo is))

-- a history that isn't full has room
pub room-left : (o : Opening) (past : List Event) → is_full o past ≡ false → length past ≤ o.config.limit → length past < o.config.limit
room-left o past room within =
    let apart : length past ≢ o.config.limit = λ full. absurd (let e : true ≡ false = sym (eqb-same o.config.limit) ∙ ap (λ n. eqb n o.config.limit) (sym full) ∙ room in cc) in
    omega arith

module _ (o : Opening) (past : List Event) (event : Event) (answered : answer o past event.actor event.op ≡ Ok event.reply)
    (translated : event.translation ≡ used_by_actor o past event.actor event.op) where
  pub kept-more : is_full o past ≡ false → IsKept o past → IsKept o (event ∷ past)
  kept-more room kept = record {
    good = kept.good;
    opened = kept.opened;
    legal = (answered, translated, kept.legal);
    within = room-left o past room kept.within;
    early = kept.early;
  }

  pub stepped-more : record { opening = o; past = event ∷ past } ≡ stepped (record { opening = o; past = past }) event.actor event.op
  stepped-more = rw answered (λ i. record { opening = o; past = record { actor = event.actor; op = event.op; reply = event.reply; translation = translated i } ∷ past })

pub past-more : (events more : List Event) (event : Event) → more ≡ events ++ event ∷ [] → reverse more ≡ event ∷ reverse events
past-more events more event is = ap reverse is ∙ reverse-append events (event ∷ [])
