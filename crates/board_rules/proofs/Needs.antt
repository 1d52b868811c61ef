-- What fence calls need, event by event.
use Rattle.std.proofs.Common.{◌≡◌, ℕ, ◌-◌, ◌<◌, ◌≤◌, zero, suc, Bool, true, false, List, [], ◌∷◌, ◌++◌, length, subst, refl, sym, ap, ◌∙◌, arith, Option, Some, None, Result, Ok, Err, inl, inr}
use Rattle.std.specs.Prelude.{◌==◌, ◌&&◌, ◌||◌, ◌⊎◌, if◌then◌else◌, is_some, map}
use Rattle.std.specs.List.{list_any}
use Rattle.std.proofs.lemmas.Bool.{and_parts, cases_Bool, cases_lt, eq-eqb, lt-leb, ne_eqb, or_parts}
use Rattle.std.proofs.lemmas.Bool.Decides.{eqb_tells}
use Rattle.rfence.specs.declared.opened.FenceCall.{FenceCall}
use Rattle.rfence.specs.Opening as fences
use Rattle.rfence.specs.Calls as calls
use Rattle.rfence.specs.Need as turn_needs
use Rattle.rfence.specs.Right.{IsRight}
use Rattle.rfence.specs.State.{in_call}
use Rattle.rfence.specs.Waiting as queues
use Rattle.rfence.specs.Waiting.{one_more}
use Rattle.rfence.proofs.Bounds.{are-bounded, needs-none}
use Rattle.rfence.proofs.Callers.{open-within}
use Rattle.rfence.proofs.Seams.{called-after}
use Rattle.rfence.proofs.Needs.{need-more, needed, needs-open, none-raises, open-more, serve-lowers}
use Rattle.sbi_abi.specs.declared.answer.SbiError.{SbiError}
use Rattle.sbi_abi.specs.declared.call.Call.{Call}
use Rattle.sbi_abi.specs.declared.call.Call.TheVariants.{Hsm, Srst}
use Rattle.sbi_abi.specs.declared.call.hsm.HsmCall.TheVariants.{HartStop}
use Rattle.sbi_abi.specs.declared.call.srst.SrstCall.TheVariants.{SystemReset}
use Rattle.sbi_abi.specs.declared.reset.Reset.{Reset}
use Rattle.sbi_abi.specs.Calls.{call_of}
use Rattle.tlb_model.specs.declared.fence.Flush.{Flush}
use Rattle.board_rules.specs.Cuts.{IsOpened, OpensAfter, opening_of}
use Rattle.board_rules.specs.Opening.{Opening}
use Rattle.board_terms.specs.declared.op.Actor.{Actor}
use Rattle.board_terms.specs.declared.op.Actor.TheVariants.{Hart, Clock}
use Rattle.board_terms.specs.declared.op.Op.{Op}
use Rattle.board_terms.specs.declared.op.Op.TheVariants as ops
use Rattle.board_terms.specs.declared.reply.Refusal.{Refusal}
use Rattle.board_terms.specs.declared.reply.Refusal.TheVariants as refusals
use Rattle.board_terms.specs.declared.reply.Reply.{Reply}
use Rattle.board_terms.specs.declared.reply.Reply.TheVariants as replies
use Rattle.board_rules.specs.Course.{Course, is_hart}
use Rattle.board_rules.specs.Fences.{Remote, outstanding, remote_of, turn_by_call, turn_by_flush, turn_by_remote, turn_of, turns}
use Rattle.board_rules.specs.History.{Event}
use Rattle.board_terms.specs.Limits.{IsGood}
use Rattle.board_rules.specs.Need.{need}
use Rattle.board_rules.specs.Refusals.{is_empty, is_full}
use Rattle.board_rules.specs.Replies.{IsLegal, answer, recorded, refused_or, stepped}
use Rattle.board_rules.specs.Resets.{is_off, is_shutdown, last_reset, newer_or, reset_by, reset_by_call}
use Rattle.board_rules.specs.Accesses.{used_by_actor}
use Rattle.board_rules.specs.Serves.{KeepsNeeds, AreFew, CanEnd, GoesOn, HaveServed, IsLeft, ServeIsAccepted, ends_call, is_poll, is_serve, is_stop, is_stop_call, serves, serves_in, stops}
use Rattle.board_rules.proofs.AtResets.{is-reset, off-refuses, reset-ends}
use Rattle.board_rules.proofs.Beginning.{is-good}
use Rattle.board_rules.proofs.Right.{turns_are_right, waits-interruptible}

-- ---- each event and its turn

flip : (a b : ℕ) → (a == b) ≡ (b == a)
flip a b = elim (eqb_tells a b) [
  | inl same ↦ same.0 ∙ sym (eq-eqb b a (sym same.1))
  | inr other ↦ other.0 ∙ sym (ne_eqb b a (λ e. other.1 (sym e)))
]

-- what neither serves nor stops leaves a need as it is
neither : (own : Bool) (k : ℕ) → k ≡ (if own && false then 0 else if own && false then k - 1 else k)
neither true k = refl
neither false k = refl

module _ (o : Opening) (past : List Event) where
  remote-needs : (x t k : ℕ) (remote : Option Remote) (r : Reply) → needed o.fences (turn_by_remote o past x remote r) t k ≡ k
  remote-needs x t k (Some remote) replies.Waiting = by_flush remote.flush
    where
      by_flush : (flush : Result Flush SbiError) → needed o.fences (turn_by_flush o past x remote.mask remote.base flush) t k ≡ k
      by_flush (Ok flush) = refl
      by_flush (Err error) = refl
  remote-needs x t k remote r = refl

  call-needs : (x t k : ℕ) (call : Call) (r : Reply)
      → needed o.fences (turn_by_call o past x call r) t k ≡ (if (t == x) && is_stop_call call r then 0 else if (t == x) && false then k - 1 else k)
  call-needs x t k (Hsm HartStop) replies.Gone = rw (flip x t) (by_hart (t == x))
    where
      by_hart : (own : Bool) → (if own then 0 else k) ≡ (if own && true then 0 else if own && false then k - 1 else k)
      by_hart true = refl
      by_hart false = refl
  call-needs x t k (Srst (SystemReset (Ok reset))) replies.Gone = neither (t == x) k
  call-needs x t k call r = remote-needs x t k (remote_of o.config call) r ∙ neither (t == x) k

  op-needs : (x t k : ℕ) (op : Op) (r : Reply)
      → needed o.fences (turn_of o past (Hart x) op r) t k ≡ (if (t == x) && is_stop op r then 0 else if (t == x) && is_serve op then k - 1 else k)
  op-needs x t k (ops.Ecall regs) r = call-needs x t k (call_of regs) r
  op-needs x t k ops.Serve r = rw (flip x t) (by_hart (t == x))
    where
      by_hart : (own : Bool) → (if own then k - 1 else k) ≡ (if own && false then 0 else if own && true then k - 1 else k)
      by_hart true = refl
      by_hart false = refl
  op-needs x t k op r = neither (t == x) k

  -- what an event leaves of a need
  needed-by : (event : Event) (t k : ℕ) → needed o.fences (turn_of o past event.actor event.op event.reply) t k ≡ (if stops t event then 0 else if serves t event then k - 1 else k)
  needed-by event t k = by_actor event.actor event.op event.reply
    where
      by_actor : (actor : Actor) (op : Op) (r : Reply)
          → needed o.fences (turn_of o past actor op r) t k ≡ (if is_hart t actor && is_stop op r then 0 else if is_hart t actor && is_serve op then k - 1 else k)
      by_actor (Hart x) op r = op-needs x t k op r
      by_actor Clock op r = refl

  remote-goes : (x h : ℕ) (remote : Option Remote) (r : Reply) → turn_needs.ends h (turn_by_remote o past x remote r) ≡ false
  remote-goes x h (Some remote) replies.Waiting = by_flush remote.flush
    where
      by_flush : (flush : Result Flush SbiError) → turn_needs.ends h (turn_by_flush o past x remote.mask remote.base flush) ≡ false
      by_flush (Ok flush) = refl
      by_flush (Err error) = refl
  remote-goes x h remote r = refl

  call-goes : (x h : ℕ) (call : Call) (r : Reply) → is_some (reset_by_call call r) ≡ false → turn_needs.ends h (turn_by_call o past x call r) ≡ false
  call-goes x h (Hsm HartStop) replies.Gone goes = refl
  call-goes x h (Srst (SystemReset (Ok reset))) replies.Gone goes = cc
  call-goes x h call r goes = remote-goes x h (remote_of o.config call) r

  op-goes : (x h : ℕ) (op : Op) (r : Reply) → ((h == x) && is_poll op) ≡ false → is_some (reset_by op r) ≡ false → turn_needs.ends h (turn_of o past (Hart x) op r) ≡ false
  op-goes x h (ops.Ecall regs) r polls resets = call-goes x h (call_of regs) r resets
  op-goes x h ops.Poll r polls resets = flip x h ∙ sym (and-true (h == x)) ∙ polls
    where
      and-true : (b : Bool) → (b && true) ≡ b
      and-true true = refl
      and-true false = refl
  op-goes x h op r polls resets = refl

  -- an event that doesn't end a call isn't a turn that does
  goes-by : (event : Event) (h : ℕ) → ends_call h event ≡ false → turn_needs.ends h (turn_of o past event.actor event.op event.reply) ≡ false
  goes-by event h goes = by_actor event.actor event.op event.reply goes
    where
      by_actor : (actor : Actor) (op : Op) (r : Reply) → ((is_hart h actor && is_poll op) || is_some (reset_by op r)) ≡ false → turn_needs.ends h (turn_of o past actor op r) ≡ false
      by_actor (Hart x) op r goes = let parts = or_parts ((h == x) && is_poll op) (is_some (reset_by op r)) goes in op-goes x h op r parts.0 parts.1
      by_actor Clock op r goes = refl

-- ---- open calls

no-call : (call : Option (FenceCall Flush)) (ids : List ℕ) → in_call call ids ≡ None → call ≡ None
no-call None ids is = refl
no-call (Some place) ids is = cc

some-call : (call : Option (FenceCall Flush)) (ids : List ℕ) → is_some (in_call call ids) ≡ true → (p : FenceCall Flush) × (call ≡ Some p)
some-call None ids is = cc
some-call (Some place) ids is = (place, refl)

inside-call : (o : Opening) (past : List Event) (h : ℕ) → is_some (outstanding o past h) ≡ true → (p : FenceCall Flush) × (calls.open_call o.fences (turns o past) h ≡ Some p)
inside-call o past h is = some-call (calls.open_call o.fences (turns o past) h) (calls.outstanding o.fences o.config.harts (turns o past) h) is

-- a step is accepted while the power is on
accepted-on : (o : Opening) (past : List Event) (actor : Actor) (op : Op) (r : Reply) → answer o past actor op ≡ Ok r → is_off o past ≡ false
accepted-on o past actor op r answered = elim (cases_Bool (is_off o past)) [
  | inl off ↦ absurd (let wrong : Err refusals.Off ≡ Ok r = sym (off-refuses o past off actor op) ∙ answered in cc)
  | inr on ↦ on
]

-- The power is on while a hart is inside a fence call, if it was while one was at the opening.
abbrev IsOn : Opening → Type 0
IsOn o = (h : ℕ) (p : FenceCall Flush) → fences.called_at o.fences h ≡ Some p → is_shutdown o.last_reset ≡ false

inside-on : (o : Opening) (past : List Event) (h : ℕ) (p : FenceCall Flush) → IsOn o → IsLegal o past → calls.open_call o.fences (turns o past) h ≡ Some p → is_off o past ≡ false
inside-on o [] h p on legal opened = on h p opened
inside-on o (event ∷ past) h p on legal opened = by_reset (reset_by event.op event.reply) refl
  where
    by_reset : (reset : Option Reset) → reset_by event.op event.reply ≡ reset → is_shutdown (newer_or (reset_by event.op event.reply) (last_reset o past)) ≡ false
    by_reset None is = rw is (accepted-on o past event.actor event.op event.reply legal.0)
    by_reset (Some reset) is =
        let ends = reset-ends o event past reset (is-reset o past event reset legal.0 is) in
        let closed = no-call (calls.open_call o.fences (turns o (event ∷ past)) h) (calls.outstanding o.fences o.config.harts (turns o (event ∷ past)) h) (ends h) in
        absurd (let wrong = sym opened ∙ closed in cc)

-- it was: a new board's power is on, and what was open when the history was cut had been opened with the power on
cut-on : (o : Opening) (past : List Event) → IsGood o.config → IsLegal o past → IsOn o → IsOn (opening_of o past)
cut-on o past good legal on h p called =
    inside-on o past h p on legal (sym (called-after o.fences o.config.harts (turns o past) (turns_are_right o past good legal) h) ∙ called)

on-after : (cuts : ℕ) (o : Opening) → OpensAfter cuts o → IsOn o
on-after zero o opens = subst IsOn (sym opens.1) (λ h p called. refl)
on-after (suc cuts) o opens = subst IsOn (sym opens.4) (cut-on opens.0 opens.1 (is-good opens.0 (record { cuts = cuts; opens = opens.2 })) opens.3 (on-after cuts opens.0 opens.2))

opened-on : (o : Opening) → IsOpened o → IsOn o
opened-on o opened = on-after opened.cuts o opened.opens

-- ---- serves

pub needed-accepted : (o : Opening) (past : List Event) (h t : ℕ) → IsOpened o → IsLegal o past → 0 < need o past h t → ServeIsAccepted o past t
needed-accepted o past h t opened legal some =
    let good = is-good o opened in
    let right = turns_are_right o past good legal in
    let call = needs-open o.fences (turns o past) h t some in
    let can = (serve-lowers o.fences o.config.harts (turns o past) h t right some).can_serve in
    let on = inside-on o past h call.0 (opened-on o opened) legal call.1 in
    let there = lt-leb o.config.harts t can.0 in
    let interruptible = waits-interruptible o past good legal t can.1 in
    let waits = some-waits (queues.waiting o.fences (turns o past) t) can.1 in
    rw (on, there, interruptible, waits) (by_full (is_full o past))
  where
    some-waits : (waits : List (fences.Asked Flush)) → 0 < length waits → is_empty (map fences.kept waits) ≡ false
    some-waits [] some = absurd (omega arith)
    some-waits (first ∷ rest) some = refl

    by_full : (full : Bool) → refused_or (if full then Some refusals.HistoryFull else None) replies.Served ≡ (if full then Err refusals.HistoryFull else Ok replies.Served)
    by_full true = refl
    by_full false = refl

-- ---- one event

need-event : (o : Opening) (event : Event) (past : List Event) (h t : ℕ) (p : FenceCall Flush) → IsGood o.config → IsLegal o (event ∷ past) → calls.open_call o.fences (turns o past) h ≡ Some p
    → ends_call h event ≡ false
    → need o (event ∷ past) h t ≡ (if stops t event then 0 else if serves t event then need o past h t - 1 else need o past h t)
need-event o event past h t p good legal opened goes =
    need-more o.fences o.config.harts (turn_of o past event.actor event.op event.reply) (turns o past) h t p (turns_are_right o (event ∷ past) good legal) opened (goes-by o past event h goes)
    ∙ needed-by o past event t (need o past h t)

-- a serve is no stop, and ends no call
serve-alone : (t h : ℕ) (actor : Actor) (op : Op) (r : Reply) → (is_hart t actor && is_serve op) ≡ true
    → ((is_hart t actor && is_stop op r) ≡ false) × (((is_hart h actor && is_poll op) || is_some (reset_by op r)) ≡ false)
serve-alone t h actor ops.Serve r is = (none (is_hart t actor), rw (none (is_hart h actor)) refl)
  where
    none : (b : Bool) → (b && false) ≡ false
    none true = refl
    none false = refl
serve-alone t h actor op r is = let wrong = (and_parts (is_hart t actor) (is_serve op) is).1 in cc

pub serve-lowers-needs : (o : Opening) (event : Event) (past : List Event) (h t : ℕ) → IsGood o.config → IsLegal o (event ∷ past) → serves t event ≡ true → 0 < need o past h t
    → suc (need o (event ∷ past) h t) ≡ need o past h t
serve-lowers-needs o event past h t good legal served some =
    let call = needs-open o.fences (turns o past) h t some in
    let alone = serve-alone t h event.actor event.op event.reply served in
    let now : need o (event ∷ past) h t ≡ need o past h t - 1 = need-event o event past h t call.0 good legal call.1 alone.1 ∙ rw (alone.0, served) refl in
    omega (arith, some, now)

pub none-raises-needs : (o : Opening) (event : Event) (past : List Event) (h t : ℕ) → IsGood o.config → IsLegal o (event ∷ past) → is_some (outstanding o past h) ≡ true
    → need o (event ∷ past) h t ≤ need o past h t
none-raises-needs o event past h t good legal inside =
    let call = inside-call o past h inside in
    none-raises o.fences o.config.harts (turn_of o past event.actor event.op event.reply) (turns o past) h t (turns_are_right o (event ∷ past) good legal) (ap is_some call.1)

pub are-few : (o : Opening) (past : List Event) (h : ℕ) → IsGood o.config → IsLegal o past → AreFew o past h
are-few o past h good legal =
    let bounded = are-bounded o.fences o.config.harts (turns o past) h (turns_are_right o past good legal) in
    record { each = bounded.each; total = bounded.total }

-- ---- as long as a call goes on

-- what one event more leaves
left-more : (stop serve stopped : Bool) (k m : ℕ)
    → (if stop then 0 else if serve then (if stopped then 0 else k - m) - 1 else (if stopped then 0 else k - m)) ≡ (if stop || stopped then 0 else k - one_more serve m)
left-more true serve stopped k m = refl
left-more false true true k m = omega arith
left-more false true false k m = omega arith
left-more false false true k m = refl
left-more false false false k m = refl

record IsOpen (o : Opening) (newer past : List Event) (h : ℕ) : Type 0 where
  pub place : FenceCall Flush
  pub opened : calls.open_call o.fences (turns o (newer ++ past)) h ≡ Some place
  pub left : (t : ℕ) → IsLeft o newer past h t

less-none : (k : ℕ) → k ≡ k - 0
less-none k = omega arith

stays-open : (o : Opening) (newer past : List Event) (h : ℕ) → IsGood o.config → IsLegal o (newer ++ past) → is_some (outstanding o past h) ≡ true → list_any (ends_call h) newer ≡ false
    → IsOpen o newer past h
stays-open o [] past h good legal inside goes = let call = inside-call o past h inside in record { place = call.0; opened = call.1; left = λ t. less-none (need o past h t) }
stays-open o (event ∷ newer) past h good legal inside goes =
    let parts = or_parts (ends_call h event) (list_any (ends_call h) newer) goes in
    let before = stays-open o newer past h good legal.2 inside parts.1 in
    let right = turns_are_right o (event ∷ (newer ++ past)) good legal in
    record {
      place = before.place;
      opened = open-more o.fences o.config.harts (turn_of o (newer ++ past) event.actor event.op event.reply) (turns o (newer ++ past)) h before.place right.0 before.opened
          (goes-by o (newer ++ past) event h parts.0);
      left = λ t.
          need-event o event (newer ++ past) h t before.place good legal before.opened parts.0
          ∙ ap (λ k. if stops t event then 0 else if serves t event then k - 1 else k) (before.left t)
          ∙ left-more (stops t event) (serves t event) (list_any (stops t) newer) (need o past h t) (serves_in t newer);
    }

pub is-left : (o : Opening) (newer past : List Event) (h t : ℕ) → IsGood o.config → GoesOn o newer past h → IsLeft o newer past h t
is-left o newer past h t good on = (stays-open o newer past h good on.legal on.inside on.goes_on).left t

pub can-end : (o : Opening) (newer past : List Event) (h : ℕ) → IsOpened o → GoesOn o newer past h → length (newer ++ past) < o.config.limit → HaveServed o newer past h → CanEnd o (newer ++ past) h
can-end o newer past h opened on below served =
    let good = is-good o opened in
    let is = stays-open o newer past h good on.legal on.inside on.goes_on in
    let right = turns_are_right o (newer ++ past) good on.legal in
    let none : calls.outstanding o.fences o.config.harts (turns o (newer ++ past)) h
    ≡ [] = needs-none o.fences o.config.harts (turns o (newer ++ past)) h (λ t inside. is.left t ∙ covered t (served t inside)) in
    let waits_for_none : outstanding o (newer ++ past) h ≡ Some [] = rw (is.opened, none) refl in
    let power = inside-on o (newer ++ past) h is.place (opened-on o opened) on.legal is.opened in
    let there = lt-leb o.config.harts h (inside right is.place is.opened) in
    let room = ne_eqb (length (newer ++ past)) o.config.limit (λ e. absurd (omega (arith, e, below))) in
    record { waits_for_none = waits_for_none; poll = rw (power, there, waits_for_none, room) refl }
  where
    -- no hart is in a call that isn't there
    inside : IsRight o.fences o.config.harts (turns o (newer ++ past)) → (p : FenceCall Flush) → calls.open_call o.fences (turns o (newer ++ past)) h ≡ Some p → h < o.config.harts
    inside right p called = elim (cases_lt h o.config.harts) [
      | inl near ↦ near
      | inr far ↦ absurd (let none = sym called ∙ open-within o.fences o.config.harts (turns o (newer ++ past)) h right far in cc)
    ]

    covered : (t : ℕ) → (need o past h t ≤ serves_in t newer) ⊎ (list_any (stops t) newer ≡ true) → (if list_any (stops t) newer then 0 else need o past h t - serves_in t newer) ≡ 0
    covered t enough = by_stop (list_any (stops t) newer) enough
      where
        by_stop : (stopped : Bool) → (need o past h t ≤ serves_in t newer) ⊎ (stopped ≡ true) → (if stopped then 0 else need o past h t - serves_in t newer) ≡ 0
        by_stop true enough = refl
        by_stop false enough = elim enough [
          | inl most ↦ omega (arith, most)
          | inr wrong ↦ cc
        ]

-- ---- a step of a board

-- a serve by hart t is one of its events
is-serve-of : (t : ℕ) (event : Event) → event.actor ≡ Hart t → event.op ≡ ops.Serve → serves t event ≡ true
is-serve-of t event by op = rw (by, op, eq-eqb t t refl) refl

module _ (o : Opening) (past : List Event) (opened : IsOpened o) (legal : IsLegal o past) (actor : Actor) (op : Op) where
  by-answer : (r : Result Reply Refusal) → answer o past actor op ≡ r → KeepsNeeds (record { opening = o; past = past }) (recorded (record { opening = o; past = past }) actor op r) actor op r
  by-answer (Err refusal) is = record {
    served = λ h t by what some. sym is ∙ rw (by, what) (needed-accepted o past h t opened legal some);
    lowered = λ h t by what ok some. absurd cc;
    unraised = λ h t inside. omega arith;
  }
  by-answer (Ok reply) is =
      let good = is-good o opened in
      let event : Event = record { actor = actor; op = op; reply = reply; translation = used_by_actor o past actor op } in
      let longer : IsLegal o (event ∷ past) = (is, refl, legal) in
      record {
        served = λ h t by what some. sym is ∙ rw (by, what) (needed-accepted o past h t opened legal some);
        lowered = λ h t by what ok some. serve-lowers-needs o event past h t good longer (is-serve-of t event by what) some;
        unraised = λ h t inside. none-raises-needs o event past h t good longer inside;
      }

  pub keeps-needs : KeepsNeeds (record { opening = o; past = past }) (stepped (record { opening = o; past = past }) actor op) actor op (answer o past actor op)
  keeps-needs = by-answer (answer o past actor op) refl

pub step-needs : (b : Course) → IsOpened b.opening → IsLegal b.opening b.past → (actor : Actor) (op : Op) (r : Result Reply Refusal) (now : Course)
    → r ≡ answer b.opening b.past actor op → now ≡ stepped b actor op → KeepsNeeds b now actor op r
step-needs b opened legal actor op r now is after =
    subst (λ n. KeepsNeeds b n actor op r) (sym after)
    (subst (λ a. KeepsNeeds b (stepped b actor op) actor op a) (sym is) (keeps-needs b.opening b.past opened legal actor op))
