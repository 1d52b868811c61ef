-- How many starts there are: as many as are pending, and as many as were entered.
use Rattle.std.proofs.Common.{◌≡◌, ℕ, ◌+◌, ◌<◌, ◌≤◌, suc, zero, Bool, true, false, cond, List, [], ◌∷◌, ◌++◌, length, refl, sym, ap, ◌∙◌, arith, inl, inr}
use Rattle.std.specs.Prelude.{Option, Some, None, Ok, ◌==◌, filter, if◌then◌else◌, nat_le, not}
use Rattle.std.specs.List.{cons_option, filter_map, range_with_len}
use Rattle.std.specs.Option.{option_to_list}
use Rattle.std.proofs.lemmas.Bool.{cases_lt, eq-eqb, leb-false, ne_eqb}
use Rattle.std.proofs.lemmas.Bool.Decides.{eqb_tells}
use Rattle.std.proofs.lemmas.List.{length-append}
use Rattle.sbi_abi.specs.declared.answer.SbiError.TheVariants.{AlreadyAvailable, InvalidAddress, InvalidParam}
use Rattle.sbi_abi.specs.declared.call.Call.{Call}
use Rattle.sbi_abi.specs.declared.call.Call.TheVariants.{Hsm, Srst}
use Rattle.sbi_abi.specs.declared.call.hsm.HsmCall.TheVariants.{HartStart}
use Rattle.sbi_abi.specs.declared.call.srst.SrstCall.TheVariants.{SystemReset}
use Rattle.sbi_abi.specs.Calls.{call_of}
use Rattle.hsm.specs.States.{is_stopped}
use Rattle.rfence.proofs.Totals.{sum-agree, sum-none, sum-plus, sum_from}
use Rattle.board_rules.specs.History.{Event}
use Rattle.board_terms.specs.Limits.{is_start_address}
use Rattle.board_rules.specs.Opening.{Opening}
use Rattle.board_terms.specs.declared.op.Actor.{Actor}
use Rattle.board_terms.specs.declared.op.Actor.TheVariants.{Hart, Clock}
use Rattle.board_terms.specs.declared.op.Op.{Op}
use Rattle.board_terms.specs.declared.op.Op.TheVariants.{Ecall}
use Rattle.board_terms.specs.declared.reply.Reply.{Reply}
use Rattle.board_terms.specs.declared.reply.Reply.TheVariants.{Ret}
use Rattle.board_rules.specs.Refusals.{first_that_holds, is_full, situation}
use Rattle.board_rules.specs.Replies.{IsLegal, answer, call_reply, reply, unless}
use Rattle.board_rules.specs.Resets.{begins_anew, is_off}
use Rattle.board_rules.specs.Starts.{Start, all_pending, boot_start, entries, grown, is_of, pending, start_by, start_by_call, starts}
use Rattle.board_rules.specs.States.{state}
use Rattle.board_rules.proofs.Opened.{opened-outside}
use Rattle.board_rules.proofs.Rows.{accepted, clock_ticks}
use Rattle.board_rules.proofs.StartsLaw.{starts_are_entered}

-- ---- starts, counted hart by hart

-- none is of a hart from n on
abbrev AreBelow : ℕ → List Start → Type 0
AreBelow n xs = (h : ℕ) → n ≤ h → filter (is_of h) xs ≡ []

one-hart : (x a n : ℕ) → a ≤ x → x < a + n → sum_from (λ h. if h == x then 1 else 0) a n ≡ 1
one-hart x a zero low high = absurd (omega arith)
one-hart x a (suc n) low high = elim (eqb_tells a x) [
  | inl same ↦ rw same.0 (let none = no-hart (a + 1) n (let e = same.1 in omega arith) in omega arith)
  | inr other ↦ rw other.0 (let one = one-hart x (a + 1) n (let e = other.1 in omega arith) (omega arith) in omega arith)
]
  where
    no-hart : (b k : ℕ) → x < b → sum_from (λ h. if h == x then 1 else 0) b k ≡ 0
    no-hart b zero past = refl
    no-hart b (suc k) past = rw (ne_eqb b x (λ e. absurd (omega arith))) (let rest = no-hart (b + 1) k (omega arith) in omega arith)

below-first : (n : ℕ) (x : Start) (xs : List Start) → AreBelow n (x ∷ xs) → x.hart < n
below-first n x xs below = elim (cases_lt x.hart n) [
  | inl near ↦ near
  | inr far ↦ absurd (let none = below x.hart far in let some : x ∷ filter (is_of x.hart) xs ≡ [] = rw (eq-eqb x.hart x.hart refl) at none in cc)
]

below-rest : (n : ℕ) (x : Start) (xs : List Start) → AreBelow n (x ∷ xs) → AreBelow n xs
below-rest n x xs below h far = by_test (h == x.hart) (below h far)
  where
    by_test : (b : Bool) → cond b (x ∷ filter (is_of h) xs) (filter (is_of h) xs) ≡ [] → filter (is_of h) xs ≡ []
    by_test true none = cc
    by_test false none = none

counted-by-hart : (n : ℕ) (xs : List Start) → AreBelow n xs → sum_from (λ h. length (filter (is_of h) xs)) 0 n ≡ length xs
counted-by-hart n [] below = sum-none 0 n
counted-by-hart n (x ∷ xs) below =
    let rest = counted-by-hart n xs (below-rest n x xs below) in
    let one = one-hart x.hart 0 n (omega arith) (let b = below-first n x xs below in omega arith) in
    let each = sum-agree (λ h. length (filter (is_of h) (x ∷ xs))) (λ h. (if h == x.hart then 1 else 0) + length (filter (is_of h) xs)) 0 n (λ h above. by_test (h == x.hart) (filter (is_of h) xs)) in
    let parts = sum-plus (λ h. if h == x.hart then 1 else 0) (λ h. length (filter (is_of h) xs)) 0 n in
    omega arith
  where
    by_test : (b : Bool) (ys : List Start) → length (cond b (x ∷ ys) ys) ≡ (if b then 1 else 0) + length ys
    by_test true ys = omega arith
    by_test false ys = omega arith

found-by-hart : (f : ℕ → Option Start) (a n : ℕ) → length (filter_map f (range_with_len a n)) ≡ sum_from (λ h. length (option_to_list (f h))) a n
found-by-hart f a zero = refl
found-by-hart f a (suc n) = by_start (f a) (found-by-hart f (a + 1) n)
  where
    by_start : (start : Option Start) → length (filter_map f (range_with_len (a + 1) n)) ≡ sum_from (λ h. length (option_to_list (f h))) (a + 1) n
        → length (cons_option start (filter_map f (range_with_len (a + 1) n))) ≡ length (option_to_list start) + sum_from (λ h. length (option_to_list (f h))) (a + 1) n
    by_start None rest = omega arith
    by_start (Some start) rest = omega arith

-- ---- no start is of a hart that isn't there

module _ (o : Opening) (boots : o.config.boot_hart < o.config.harts) (h : ℕ) (far : o.config.harts ≤ h) where
  after_reset : (anew : Bool) → filter (is_of h) (if anew then boot_start o.config ∷ [] else []) ≡ []
  after_reset true = rw (ne_eqb h o.config.boot_hart (λ e. absurd (omega arith))) refl
  after_reset false = refl

  after_call : (past : List Event) → filter (is_of h) (starts o past) ≡ [] → (x : ℕ) (call : Call) (r : Reply)
      → call_reply o past x call ≡ r → filter (is_of h) (grown (start_by_call o.config call r) (starts o past)) ≡ []
  after_call past before x (Hsm (HartStart t addr opaque)) r is = rw (← is) (by_errors (nat_le o.config.harts t) refl (is_start_address o.config.pages addr) (is_stopped (state o past t)))
    where
      by_errors : (missing : Bool) → nat_le o.config.harts t ≡ missing → (right stopped : Bool)
          → (let r = Ret (unless (first_that_holds ((missing, InvalidParam) ∷ (not right, InvalidAddress) ∷ (not stopped, AlreadyAvailable) ∷ [])) 0) in
          filter (is_of h) (grown (start_by_call o.config (Hsm (HartStart t addr opaque)) r) (starts o past)) ≡ [])
      by_errors true there right stopped = before
      by_errors false there false stopped = before
      by_errors false there true false = before
      by_errors false there true true = rw (ne_eqb h t (λ e. absurd (let near = leb-false o.config.harts t there in omega arith))) before
  after_call past before x (Srst (SystemReset (Ok reset))) r is = rw (← is) (after_reset (begins_anew reset.kind))
  after_call past before x call r is = before

  after_event : (past : List Event) (actor : Actor) (op : Op) (r : Reply) → answer o past actor op ≡ Ok r
      → filter (is_of h) (starts o past) ≡ [] → filter (is_of h) (grown (start_by o.config op r) (starts o past)) ≡ []
  after_event past Clock (Ecall regs) r e before = absurd (clock_ticks o past (Ecall regs) r refl e)
  after_event past (Hart x) (Ecall regs) r e before =
      let facts = accepted (is_off o past) (nat_le o.config.harts x) (situation o past x) (Ecall regs) (is_full o past) (reply o past x (Ecall regs)) r e in
      after_call past before x (call_of regs) r facts.1
  after_event past actor op r e before = before

  starts-below : (past : List Event) → IsLegal o past → filter (is_of h) (starts o past) ≡ []
  starts-below [] legal = opened-outside o legal h far
  starts-below (event ∷ past) legal = after_event past event.actor event.op event.reply legal.0 (starts-below past legal.2)

  -- nor is an entry
  entries-below : (past : List Event) → IsLegal o past → filter (is_of h) (entries o past) ≡ []
  entries-below past legal = by_pending (pending o past h) (filter (is_of h) (entries o past)) (sym (starts_are_entered o past legal h) ∙ starts-below past legal)
    where
      by_pending : (start : Option Start) (ys : List Start) → option_to_list start ++ ys ≡ [] → ys ≡ []
      by_pending None ys none = none
      by_pending (Some start) ys none = cc

pub starts-counted : (o : Opening) (past : List Event) → o.config.boot_hart < o.config.harts → IsLegal o past
    → length (starts o past) ≡ length (all_pending o past) + length (entries o past)
starts-counted o past boots legal =
    let n = o.config.harts in
    let all = counted-by-hart n (starts o past) (λ h far. starts-below o boots h far past legal) in
    let entered = counted-by-hart n (entries o past) (λ h far. entries-below o boots h far past legal) in
    let waiting = found-by-hart (pending o past) 0 n in
    let each = sum-agree (λ h. length (filter (is_of h) (starts o past))) (λ h. length (option_to_list (pending o past h)) + length (filter (is_of h) (entries o past))) 0 n
    (λ h above. ap length (starts_are_entered o past legal h) ∙ length-append (option_to_list (pending o past h)) (filter (is_of h) (entries o past))) in
    let parts = sum-plus (λ h. length (option_to_list (pending o past h))) (λ h. length (filter (is_of h) (entries o past))) 0 n in
    omega arith
