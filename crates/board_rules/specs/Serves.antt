-- The serves that fence calls need, event by event (profile; that a call is complete when all harts have fenced: SBI
-- 8).
use Rattle.std.specs.Prelude.{◌≡◌, ℕ, ◌-◌, ◌*◌, ◌≤◌, ◌<◌, Bool, true, false, List, [], ◌∷◌, ◌++◌, ◌&&◌, ◌||◌, ◌⊎◌, if◌then◌else◌, suc, Some, is_ok, is_some, Result, Ok, Err}
use Rattle.std.specs.List.{list_any}
use Rattle.sbi_abi.specs.declared.call.Call.{Call}
use Rattle.sbi_abi.specs.declared.call.Call.TheVariants.{Hsm}
use Rattle.sbi_abi.specs.declared.call.hsm.HsmCall.TheVariants.{HartStop}
use Rattle.sbi_abi.specs.Calls.{call_of}
use Rattle.rfence.specs.Waiting.{one_more}
use Rattle.board_rules.specs.Opening.{Opening}
use Rattle.board_terms.specs.declared.op.Actor.{Actor}
use Rattle.board_terms.specs.declared.op.Actor.TheVariants.{Hart}
use Rattle.board_terms.specs.declared.op.Op.{Op}
use Rattle.board_terms.specs.declared.op.Op.TheVariants as ops
use Rattle.board_terms.specs.declared.reply.Refusal.{Refusal}
use Rattle.board_terms.specs.declared.reply.Refusal.TheVariants.{HistoryFull}
use Rattle.board_terms.specs.declared.reply.Reply.{Reply}
use Rattle.board_terms.specs.declared.reply.Reply.TheVariants.{Gone, Ret, Served}
use Rattle.board_rules.specs.Course.{Course, is_hart}
use Rattle.board_rules.specs.Fences.{outstanding}
use Rattle.board_rules.specs.History.{Event}
use Rattle.board_rules.specs.Need.{need, total_need}
use Rattle.board_rules.specs.Refusals.{is_full}
use Rattle.board_rules.specs.Replies.{IsLegal, answer, success}
use Rattle.board_rules.specs.Resets.{reset_by}

abbrev pub is_serve : Op → Bool
is_serve ops.Serve = true
is_serve op = false

abbrev pub is_poll : Op → Bool
is_poll ops.Poll = true
is_poll op = false

-- a call of hart_stop that doesn't return (SBI 9.2)
abbrev pub is_stop_call : Call → Reply → Bool
is_stop_call (Hsm HartStop) Gone = true
is_stop_call call reply = false

abbrev pub is_stop : Op → Reply → Bool
is_stop (ops.Ecall regs) reply = is_stop_call (call_of regs) reply
is_stop op reply = false

-- whether hart t serves by this event
abbrev pub serves : (t : ℕ) → Event → Bool
serves t event = is_hart t event.actor && is_serve event.op

-- whether hart t stops by this event
abbrev pub stops : (t : ℕ) → Event → Bool
stops t event = is_hart t event.actor && is_stop event.op event.reply

-- whether an event ends the fence call of hart h: the hart polls, or the board is reset
abbrev pub ends_call : (h : ℕ) → Event → Bool
ends_call h event = (is_hart h event.actor && is_poll event.op) || is_some (reset_by event.op event.reply)

-- the number of hart t's serves among these events
abbrev pub serves_in : (t : ℕ) → List Event → ℕ
serves_in t [] = 0
serves_in t (event ∷ events) = one_more (serves t event) (serves_in t events)

-- A serve by hart t is accepted, unless the history is full.
abbrev pub ServeIsAccepted : Opening → List Event → (t : ℕ) → Type 0
ServeIsAccepted o past t = answer o past (Hart t) ops.Serve ≡ (if is_full o past then Err HistoryFull else Ok Served)

-- On N harts, hart h's fence call needs at most N - 1 serves of each hart, and at most (N - 1) * (N - 1) in all.
pub record AreFew (o : Opening) (past : List Event) (h : ℕ) : Type 0 where
  pub each : (t : ℕ) → need o past h t ≤ o.config.harts - 1
  pub total : total_need o past h ≤ (o.config.harts - 1) * (o.config.harts - 1)

-- A legal history continues while hart h is inside one fence call: there is no reset, and no poll by the hart.
pub record GoesOn (o : Opening) (newer past : List Event) (h : ℕ) : Type 0 where
  pub legal : IsLegal o (newer ++ past)
  pub inside : is_some (outstanding o past h) ≡ true
  pub goes_on : list_any (ends_call h) newer ≡ false

-- The call's need of hart t is the earlier need less the hart's serves since, or 0 if the hart has stopped since.
abbrev pub IsLeft : Opening → (newer past : List Event) → (h t : ℕ) → Type 0
IsLeft o newer past h t = need o (newer ++ past) h t
    ≡ (if list_any (stops t) newer then 0 else need o past h t - serves_in t newer)

-- Each hart has served since as often as the call needed, or has stopped since.
abbrev pub HaveServed : Opening → (newer past : List Event) → (h : ℕ) → Type 0
HaveServed o newer past h = (t : ℕ) → t < o.config.harts
    → (need o past h t ≤ serves_in t newer) ⊎ (list_any (stops t) newer ≡ true)

-- Hart h's fence call waits for no hart, and its poll is accepted and returns success.
pub record CanEnd (o : Opening) (past : List Event) (h : ℕ) : Type 0 where
  pub waits_for_none : outstanding o past h ≡ Some []
  pub poll : answer o past (Hart h) ops.Poll ≡ Ok (Ret (success 0))

-- How a step changes the needs of open fence calls. While a call needs serves of hart t, a serve by t is accepted,
-- unless the history is full. An accepted serve by t lowers the need of each call that needs t by exactly one. No step
-- raises the need of an open call.
pub record KeepsNeeds (before now : Course) (actor : Actor) (op : Op) (result : Result Reply Refusal) : Type 0 where
  pub served : (h t : ℕ) → actor ≡ Hart t → op ≡ ops.Serve → 0 < need before.opening before.past h t
      → result ≡ (if is_full before.opening before.past then Err HistoryFull else Ok Served)
  pub lowered : (h t : ℕ) → actor ≡ Hart t → op ≡ ops.Serve → is_ok result ≡ true → 0 < need before.opening before.past h t
      → suc (need now.opening now.past h t) ≡ need before.opening before.past h t
  pub unraised : (h t : ℕ) → is_some (outstanding before.opening before.past h) ≡ true
      → need now.opening now.past h t ≤ need before.opening before.past h t
