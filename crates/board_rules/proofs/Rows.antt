-- What the rows of the table of states say of a hart.
use Rattle.std.proofs.Common.{◌≡◌, ℕ, ◌+◌, Bool, true, false, List, [], ◌∷◌, refl}
use Rattle.std.specs.Prelude.{Option, Some, None, Ok, not, nat_lt, ◌&&◌, is_none, is_some}
use Rattle.hsm.specs.declared.hart.HartState.{HartState}
use Rattle.hsm.specs.declared.hart.HartState.TheVariants.{Started, Stopped, StartPending, StopPending, Suspended, SuspendPending, ResumePending}
use Rattle.hsm.specs.declared.hart.EntryPoint.{EntryPoint}
use Rattle.hsm.specs.States.{goes_on, is_started, is_stopped}
use Rattle.hsm.specs.Transitions.{started_from}
use Rattle.board_rules.specs.Opening.{Opening}
use Rattle.board_rules.specs.History.{Event}
use Rattle.interrupts.specs.Timing.{last_time}
use Rattle.board_terms.specs.declared.op.Actor.TheVariants.{Clock}
use Rattle.board_terms.specs.declared.op.Op.{Op}
use Rattle.board_terms.specs.declared.op.Op.TheVariants.{Advance}
use Rattle.board_terms.specs.declared.reply.Refusal.{Refusal}
use Rattle.board_terms.specs.declared.reply.Refusal.TheVariants.{Off, WrongPhase, Nothing, HistoryFull, TimeFull}
use Rattle.board_terms.specs.declared.reply.Reply.{Reply}
use Rattle.board_terms.specs.declared.reply.Reply.TheVariants as replies
use Rattle.board_rules.specs.Refusals.{IsAccepted, Situation, first_that_holds, has_nothing_to_do, is_full, is_out_of_phase, is_running, is_tick, refusals_in}
use Rattle.board_rules.specs.Replies.{answer, refused_or}
use Rattle.board_rules.specs.Interrupts.{ticks_by, time}
use Rattle.board_rules.specs.Resets.{is_off}

-- a hart that a start moves was STOPPED, and one that it doesn't wasn't
pub started_stopped : (kept : EntryPoint) (s : HartState) → true ≡ is_some (started_from kept s) → s ≡ Stopped
started_stopped kept Stopped started = refl
started_stopped kept Started started = cc
started_stopped kept StartPending started = cc
started_stopped kept StopPending started = cc
started_stopped kept Suspended started = cc
started_stopped kept SuspendPending started = cc
started_stopped kept ResumePending started = cc

pub unstarted_not_stopped : (kept : EntryPoint) (s : HartState) → false ≡ is_some (started_from kept s) → is_stopped s ≡ false
unstarted_not_stopped kept Stopped unstarted = cc
unstarted_not_stopped kept Started unstarted = refl
unstarted_not_stopped kept StartPending unstarted = refl
unstarted_not_stopped kept StopPending unstarted = refl
unstarted_not_stopped kept Suspended unstarted = refl
unstarted_not_stopped kept SuspendPending unstarted = refl
unstarted_not_stopped kept ResumePending unstarted = refl

pub unstarted_same : (kept : EntryPoint) (s : HartState) → false ≡ is_some (started_from kept s) → started_from kept s ≡ None
unstarted_same kept Stopped unstarted = cc
unstarted_same kept Started unstarted = refl
unstarted_same kept StartPending unstarted = refl
unstarted_same kept StopPending unstarted = refl
unstarted_same kept Suspended unstarted = refl
unstarted_same kept SuspendPending unstarted = refl
unstarted_same kept ResumePending unstarted = refl

-- what isn't refused is in its phase, has something to do, and finds room
pub unrefused : (op : Op) (s : Situation) (is_full : Bool) → first_that_holds (refusals_in s op is_full) ≡ None → IsAccepted op s × (is_full ≡ false)
unrefused op s is_full none = let fails = all_fail (is_out_of_phase op s) (has_nothing_to_do op s) is_full none in (record { in_phase = fails.0; to_do = fails.1 }, fails.2)
  where
    all_fail : (first second third : Bool) → first_that_holds ((first, WrongPhase) ∷ (second, Nothing) ∷ (third, HistoryFull) ∷ []) ≡ None
        → (first ≡ false) × (second ≡ false) × (third ≡ false)
    all_fail true second third none = cc
    all_fail false true third none = cc
    all_fail false false true none = cc
    all_fail false false false none = (refl, refl, refl)

-- an accepted operation was not refused, and has its reply
pub accepted : (off missing : Bool) (s : Situation) (op : Op) (is_full : Bool) (r r' : Reply)
    → refused_or (first_that_holds ((off, Off) ∷ (missing, WrongPhase) ∷ refusals_in s op is_full)) r ≡ Ok r' → IsAccepted op s × (r ≡ r')
accepted true missing s op is_full r r' e = cc
accepted false true s op is_full r r' e = cc
accepted false false s op is_full r r' e = by_refusal (first_that_holds (refusals_in s op is_full)) refl e
  where
    by_refusal : (o : Option Refusal) → first_that_holds (refusals_in s op is_full) ≡ o → refused_or o r ≡ Ok r' → IsAccepted op s × (r ≡ r')
    by_refusal None is same = ((unrefused op s is_full is).0, cc)
    by_refusal (Some refusal) is same = cc

-- the clock makes no other step than a tick
pub clock_ticks : (o : Opening) (past : List Event) (op : Op) (r : Reply) → is_tick op ≡ false → answer o past Clock op ≡ Ok r → ⊥
clock_ticks o past op r other e = refuses (is_off o past) (is_tick op) (is_full o past) (nat_lt last_time (time o past + ticks_by op)) other e
  where
    refuses : (off tick full late : Bool) → tick ≡ false
        → refused_or (first_that_holds ((off, Off) ∷ (not tick, WrongPhase) ∷ (full, HistoryFull) ∷ (late, TimeFull) ∷ [])) replies.Done ≡ Ok r → ⊥
    refuses true tick full late other e = absurd cc
    refuses false true full late other e = absurd cc
    refuses false false full late other e = absurd cc

-- a guest runs where its hart is STARTED, and outside of a call
pub running_parts : (s : Situation) → not (is_running s) ≡ false → (s.state ≡ Started) × (s.call ≡ None)
running_parts s runs = by_parts s.state s.call runs
  where
    by_parts : (state : HartState) (call : Option (List ℕ)) → not (is_started state && is_none call) ≡ false → (state ≡ Started) × (call ≡ None)
    by_parts Started None runs = (refl, refl)
    by_parts Started (Some harts) runs = cc
    by_parts Stopped call runs = cc
    by_parts StartPending call runs = cc
    by_parts StopPending call runs = cc
    by_parts Suspended call runs = cc
    by_parts SuspendPending call runs = cc
    by_parts ResumePending call runs = cc

-- a hart whose Advance is accepted goes on, as it does with wake
pub accepted_goes_on : (s : Situation) → IsAccepted Advance s → goes_on true s.state ≡ true
accepted_goes_on s ready = by_state s.state s.wake ready.to_do
  where
    by_state : (state : HartState) (wake : Bool) → not (goes_on wake state) ≡ false → goes_on true state ≡ true
    by_state Started wake on = cc
    by_state Stopped wake on = cc
    by_state StartPending wake on = refl
    by_state StopPending wake on = refl
    by_state Suspended wake on = refl
    by_state SuspendPending wake on = refl
    by_state ResumePending wake on = refl
