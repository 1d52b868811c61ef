-- The refusals of steps (profile).
use Rattle.std.specs.Prelude.{◌≡◌, ℕ, ◌+◌, Bool, true, false, not, List, [], ◌∷◌, ◌==◌, ◌&&◌, nat_le, nat_lt, length, Option, Some, None, is_none}
use Rattle.hsm.specs.declared.hart.HartState.{HartState}
use Rattle.fence_queue.specs.declared.request.Request.{Request}
use Rattle.hsm.specs.States.{goes_on, is_interruptible, is_started}
use Rattle.interrupts.specs.Timing.{last_time}
use Rattle.tlb_model.specs.declared.fence.Flush.{Flush}
use Rattle.board_rules.specs.Opening.{Opening}
use Rattle.board_rules.specs.History.{Event}
use Rattle.board_terms.specs.declared.op.Actor.{Actor}
use Rattle.board_terms.specs.declared.op.Actor.TheVariants.{Hart, Clock}
use Rattle.board_terms.specs.declared.op.Op.{Op}
use Rattle.board_terms.specs.declared.op.Op.TheVariants.{Ecall, Load, Store, Fetch, Amo, WriteSatp, WriteSie, WriteSstatusSie, ReadSip, ClearSsip, Wfi, Sfence, FenceI, Poll, Serve, Advance, Tick}
use Rattle.board_terms.specs.declared.reply.Refusal.{Refusal}
use Rattle.board_terms.specs.declared.reply.Refusal.TheVariants.{Off, WrongPhase, Nothing, HistoryFull, TimeFull}
use Rattle.board_rules.specs.Fences.{outstanding, waiting}
use Rattle.board_rules.specs.Interrupts.{ticks_by, time, wake}
use Rattle.board_rules.specs.Resets.{is_off}
pub use Rattle.board_terms.specs.Refusals.{first_that_holds, refusal_number}
use Rattle.board_rules.specs.States.{state}

-- What decides whether a hart's operation is refused: its state, its wake, the harts that its fence call waits for, if
-- it is in one, and the fences that wait there.
pub record Situation : Type 0 where
  pub state : HartState
  pub wake : Bool
  pub call : Option (List ℕ)
  pub fences : List (Request Flush)

-- whether the guest runs: its hart is STARTED, and in no fence call
abbrev pub is_running : Situation → Bool
is_running s = is_started s.state && is_none s.call

-- Whether the situation doesn't allow the operation. A guest's operation needs the guest to run. Poll needs a fence
-- call, Serve a hart in an interruptible state, and Advance a hart that isn't STARTED. A tick is no hart's operation.
abbrev pub is_out_of_phase : Op → Situation → Bool
is_out_of_phase (Ecall regs) s = not (is_running s)
is_out_of_phase (Load va) s = not (is_running s)
is_out_of_phase (Store va value) s = not (is_running s)
is_out_of_phase (Fetch va) s = not (is_running s)
is_out_of_phase (Amo at amo) s = not (is_running s)
is_out_of_phase (WriteSatp value) s = not (is_running s)
is_out_of_phase (WriteSie value) s = not (is_running s)
is_out_of_phase (WriteSstatusSie value) s = not (is_running s)
is_out_of_phase ReadSip s = not (is_running s)
is_out_of_phase ClearSsip s = not (is_running s)
is_out_of_phase Wfi s = not (is_running s)
is_out_of_phase (Sfence va asid) s = not (is_running s)
is_out_of_phase FenceI s = not (is_running s)
is_out_of_phase Poll s = is_none s.call
is_out_of_phase Serve s = not (is_interruptible s.state)
is_out_of_phase Advance s = is_started s.state
is_out_of_phase (Tick n) s = true

-- whether there is a fence call that waits for some hart
abbrev pub waits_for_some : Option (List ℕ) → Bool
waits_for_some None = false
waits_for_some (Some []) = false
waits_for_some (Some (h ∷ harts)) = true

abbrev pub is_empty : {A : Type 0} → List A → Bool
is_empty [] = true
is_empty (x ∷ xs) = false

-- Whether the operation has nothing to do: Poll while the call waits for a hart, Serve without a waiting fence, Advance
-- of a hart that can't advance, and Wfi without wake.
abbrev pub has_nothing_to_do : Op → Situation → Bool
has_nothing_to_do Poll s = waits_for_some s.call
has_nothing_to_do Serve s = is_empty s.fences
has_nothing_to_do Advance s = not (goes_on s.wake s.state)
has_nothing_to_do Wfi s = not s.wake
has_nothing_to_do op s = false

-- the hart's situation doesn't refuse the operation
pub record IsAccepted (op : Op) (s : Situation) : Type 0 where
  pub in_phase : is_out_of_phase op s ≡ false
  pub to_do : has_nothing_to_do op s ≡ false

-- the tests for a hart's operation in a situation, in their order, each with its refusal
abbrev pub refusals_in : Situation → Op → (is_full : Bool) → List (Bool × Refusal)
refusals_in s op is_full =
    (is_out_of_phase op s, WrongPhase)
    ∷ (has_nothing_to_do op s, Nothing)
    ∷ (is_full, HistoryFull)
    ∷ []

-- whether the kept history has as many events as its limit
abbrev pub is_full : Opening → List Event → Bool
is_full o past = length past == o.config.limit

-- The situation of hart h.
abbrev pub situation : Opening → List Event → ℕ → Situation
situation o past h =
    record { state = state o past h; wake = wake o past h; call = outstanding o past h; fences = waiting o past h }

-- The tests for an operation of hart h, in their order. First the power must be on, and the hart must exist.
abbrev pub refusals : (is_full : Bool) → Opening → List Event → ℕ → Op → List (Bool × Refusal)
refusals is_full o past h op =
    (is_off o past, Off) ∷ (nat_le o.config.harts h, WrongPhase) ∷ refusals_in (situation o past h) op is_full

abbrev pub is_tick : Op → Bool
is_tick (Tick n) = true
is_tick op = false

-- The tests for an operation of the clock, in their order. It only ticks, while the power is on, and not past the last
-- time.
abbrev pub clock_refusals : (is_full : Bool) → Opening → List Event → Op → List (Bool × Refusal)
clock_refusals is_full o past op =
    (is_off o past, Off)
    ∷ (not (is_tick op), WrongPhase)
    ∷ (is_full, HistoryFull)
    ∷ (nat_lt last_time (time o past + ticks_by op), TimeFull)
    ∷ []

-- The refusal of a step, by the first test that is true. None: the step isn't refused.
abbrev pub first_refusal : Opening → List Event → Actor → Op → Option Refusal
first_refusal o past (Hart h) op = first_that_holds (refusals (is_full o past) o past h op)
first_refusal o past Clock op = first_that_holds (clock_refusals (is_full o past) o past op)
