-- The word that an event writes, and the words that stay.
use Rattle.std.proofs.Common.{◌≡◌, ℕ, Bool, true, false, List, ◌∷◌, refl, sym, ap, subst, ◌∙◌, Option, Some, None, Result, Ok, Err}
use Rattle.std.specs.Prelude.{if◌then◌else◌, is_some}
use Rattle.std.proofs.lemmas.Bool.{ne_eqb}
use Rattle.amo.specs.Amos.{amo_size}
use Rattle.amo.specs.Parts.{word_at}
use Rattle.sbi_abi.specs.declared.call.Call.{Call}
use Rattle.sbi_abi.specs.declared.call.Call.TheVariants.{Srst}
use Rattle.sbi_abi.specs.declared.call.srst.SrstCall.{SrstCall}
use Rattle.sbi_abi.specs.declared.call.srst.SrstCall.TheVariants.{SystemReset}
use Rattle.sbi_abi.specs.declared.reset.Reset.{Reset}
use Rattle.sbi_abi.specs.Calls.{call_of}
use Rattle.sv39.specs.declared.cause.Cause.{Cause}
use Rattle.sv39.specs.declared.cause.Kind.{Kind}
use Rattle.sv39.specs.Causes.{access_fault}
use Rattle.sv39.specs.Memory.{written}
use Rattle.tlb_model.specs.declared.fence.Flush.{Flush}
use Rattle.tlb_model.specs.Entries.{Entry}
use Rattle.hart_access.specs.declared.accesses.Access.{Access}
use Rattle.hart_access.specs.declared.accesses.Access.TheVariants as accesses
use Rattle.hart_access.specs.Accesses as whole
use Rattle.hart_access.specs.AccessKinds.{kind_of}
use Rattle.hart_access.specs.Ways.{in_memory, phys_by}
use Rattle.hart_access.proofs.Used.{place_of_used}
use Rattle.rfence.specs.Applied.{Empties, effect}
use Rattle.rfence.specs.Turns as fence_turns
use Rattle.rfence.specs.Turns.{Turn}
use Rattle.board_terms.specs.declared.op.Actor.{Actor}
use Rattle.board_terms.specs.declared.op.Actor.TheVariants.{Hart, Clock}
use Rattle.board_terms.specs.declared.op.Op.{Op}
use Rattle.board_terms.specs.declared.op.Op.TheVariants.{Ecall, Store, Amo}
use Rattle.board_terms.specs.declared.reply.Reply.{Reply}
use Rattle.board_terms.specs.declared.reply.Reply.TheVariants.{Done, Gone, Value}
use Rattle.board_core.specs.Accesses.{cached, hit}
use Rattle.board_core.specs.Calls.Srst.{reset_by_srst, turn_by_srst}
use Rattle.board_core.specs.Fences.{turn_by, turn_by_call, turn_of, turns}
use Rattle.board_core.specs.History.{Event, Reach, access_of}
use Rattle.board_core.specs.Memory.{Writing, Stored, Changed, Zeroed, memory, satp, writing_by, written_by, zeroed_by}
use Rattle.board_core.specs.Opening.{Opening}
use Rattle.board_core.specs.Refusals.{is_tick}
use Rattle.board_core.specs.Replies.{IsLegal, answer}
use Rattle.board_core.specs.Resets.{is_cold, reset_by, reset_by_call}
use Rattle.board_rules.proofs.Rows.{clock_ticks}
use Rattle.board_laws.proofs.Lives.{answered-reach, used-reach}
use Rattle.any_tlb.specs.Effects.{effect_at, effect_by}
use Rattle.any_tlb.specs.Words.{ends_words}
use Rattle.any_tlb.proofs.Ways.{placed-op, writing_at}
use Rattle.access_marks.specs.Inside.Changes.{place_by, place_of}

-- ---- where a writing is

-- where a writing puts a word
abbrev pub place_in : Option Writing → Option ℕ
place_in None = None
place_in (Some (Stored storing)) = Some storing.at
place_in (Some (Changed changing)) = Some changing.word
place_in (Some Zeroed) = None

zeroed-nowhere : (reset : Option Reset) → place_in (zeroed_by reset) ≡ None
zeroed-nowhere None = refl
zeroed-nowhere (Some reset) = by_test (is_cold reset.kind)
  where
    by_test : (cold : Bool) → place_in (if cold then Some Zeroed else None) ≡ None
    by_test true = refl
    by_test false = refl

placed-so : (op : Op) (r : Reply) (used : Option Entry) → place_by op r used ≡ place_in (writing_by op r used)
placed-so (Store va value) Done used = refl
placed-so (Amo at amo) Done used = refl
placed-so (Amo at amo) (Value old) used = refl
placed-so (Ecall regs) r used = sym (zeroed-nowhere (reset_by_call (call_of regs) r))
placed-so op r used = refl

-- ---- a cold reboot

some-reset : (found : Option Reset) → zeroed_by found ≡ Some Zeroed → (reset : Reset) × (found ≡ Some reset)
some-reset (Some reset) e = (reset, refl)
some-reset None e = cc

pub reset-of : (op : Op) (r : Reply) (used : Option Entry) → writing_by op r used ≡ Some Zeroed → (reset : Reset) × (reset_by op r ≡ Some reset)
reset-of (Store va value) Done used e = cc
reset-of (Amo at amo) Done used e = cc
reset-of (Amo at amo) (Value old) used e = cc
reset-of (Ecall regs) r used e = some-reset (reset_by_call (call_of regs) r) e
reset-of op r used e = cc

no-tick : (op : Op) (r : Reply) (reset : Reset) → reset_by op r ≡ Some reset → is_tick op ≡ false
no-tick (Ecall regs) r reset e = refl
no-tick op r reset e = cc

module _ (o : Opening) (past : List Event) (x : ℕ) where
  srst-turn : (call : SrstCall) (r : Reply) (reset : Reset) → reset_by_srst call r ≡ Some reset → turn_by_srst call r ≡ fence_turns.Reset
  srst-turn (SystemReset (Ok made)) Gone reset e = refl
  srst-turn (SystemReset (Ok made)) r reset e = cc
  srst-turn (SystemReset (Err error)) r reset e = cc

  call-turn : (call : Call) (r : Reply) (reset : Reset) → reset_by_call call r ≡ Some reset → turn_by_call o past x call r ≡ fence_turns.Reset
  call-turn (Srst call) r reset e = srst-turn call r reset e
  call-turn call r reset e = cc

  reset-turn : (op : Op) (r : Reply) (reset : Reset) → reset_by op r ≡ Some reset → turn_by o past x op r ≡ fence_turns.Reset
  reset-turn (Ecall regs) r reset e = call-turn (call_of regs) r reset e
  reset-turn op r reset e = cc

-- a reset empties all caches
pub reset-empties : (o : Opening) (past : List Event) (event : Event) (h : ℕ) (reset : Reset) → answer o past event.actor event.op ≡ Ok event.reply
    → reset_by event.op event.reply ≡ Some reset → effect_at o past event h ≡ Empties
reset-empties o past event h reset answered is = by_actor event.actor answered
  where
    by_actor : (actor : Actor) → answer o past actor event.op ≡ Ok event.reply
        → effect_by (turn_of o past actor event.op event.reply) (effect o.fences (turns o past) (turn_of o past actor event.op event.reply) h) ≡ Empties
    by_actor (Hart x) answered =
        subst (λ (turn : Turn Flush). effect_by turn (effect o.fences (turns o past) turn h) ≡ Empties) (sym (reset-turn o past x event.op event.reply reset is)) refl
    by_actor Clock answered = absurd (clock_ticks o past event.op event.reply (no-tick event.op event.reply reset is) answered)

-- where all words become 0, all fetched words are dropped
pub zeroed-ends : (o : Opening) (past : List Event) (event : Event) (h : ℕ) → answer o past event.actor event.op ≡ Ok event.reply
    → writing_by event.op event.reply event.translation ≡ Some Zeroed → ends_words (effect_at o past event h) ≡ true
zeroed-ends o past event h answered e =
    let found = reset-of event.op event.reply event.translation e in
    ap ends_words (reset-empties o past event h found.0 answered found.1)

-- ---- the words that stay

elsewhere : (memory_now : ℕ → Option ℕ) (pa at value : ℕ) → (at ≡ pa → ⊥) → written memory_now at value pa ≡ memory_now pa
elsewhere memory_now pa at value apart = rw (ne_eqb pa at (λ same. apart (sym same))) refl

pub stays : (o : Opening) (past : List Event) (event : Event) (pa : ℕ) → (writing_by event.op event.reply event.translation ≡ Some Zeroed → ⊥) → (place_of event ≡ Some pa → ⊥)
    → memory o (event ∷ past) pa ≡ memory o past pa
stays o past event pa no_reset other = by_writing (writing_by event.op event.reply event.translation) refl
  where
    apart : (w : Option Writing) (at : ℕ) → writing_by event.op event.reply event.translation ≡ w → place_in w ≡ Some at → at ≡ pa → ⊥
    apart w at is there same = other (placed-so event.op event.reply event.translation ∙ ap place_in is ∙ there ∙ ap (λ n. let p : Option ℕ = Some n in p) same)

    by_writing : (w : Option Writing) → writing_by event.op event.reply event.translation ≡ w → written_by o.config w (memory o past) pa ≡ memory o past pa
    by_writing None is = refl
    by_writing (Some (Stored storing)) is = elsewhere (memory o past) pa storing.at _ (apart (Some (Stored storing)) storing.at is refl)
    by_writing (Some (Changed changing)) is = elsewhere (memory o past) pa changing.word _ (apart (Some (Changed changing)) changing.word is refl)
    by_writing (Some Zeroed) is = absurd (no_reset is)

-- ---- a written word is in the RAM

inside : (memory_now : ℕ → Option ℕ) (kind : Kind) (r : Result ℕ Cause) (pa : ℕ) → in_memory memory_now kind r ≡ Ok pa → is_some (memory_now pa) ≡ true
inside memory_now kind (Ok n) pa e = by_test (is_some (memory_now n)) refl e
  where
    by_test : (b : Bool) → is_some (memory_now n) ≡ b → (if b then Ok n else Err (access_fault kind)) ≡ Ok pa → is_some (memory_now pa) ≡ true
    by_test true is found = let same : n ≡ pa = cc in rw same at is
    by_test false is found = cc
inside memory_now kind (Err cause) pa e = cc

at-place : (access : Access) (place : Result ℕ Cause) (at : ℕ) → place_in (writing_at access place) ≡ Some at → place ≡ Ok at
at-place (accesses.Store value) (Ok pa) at e = let same : pa ≡ at = cc in ap (λ n. let r : Result ℕ Cause = Ok n in r) same
at-place (accesses.Amo of amo) (Ok pa) at e = let same : pa ≡ at = cc in ap (λ n. let r : Result ℕ Cause = Ok n in r) same
at-place access place at e = cc

reach-of : (op : Op) (r : Reply) (used : Option Entry) (at : ℕ) → place_by op r used ≡ Some at → (is_tick op ≡ false) × ((reach : Reach) × (access_of op ≡ Some reach))
reach-of (Store va value) r used at e = (refl, (record { va = va; access = accesses.Store value }, refl))
reach-of (Amo of amo) r used at e = (refl, (record { va = word_at (amo_size amo) of; access = accesses.Amo of amo }, refl))
reach-of op r used at e = cc

pub in-ram : (o : Opening) (past : List Event) (event : Event) (at : ℕ) → IsLegal o (event ∷ past) → place_of event ≡ Some at → is_some (memory o past at) ≡ true
in-ram o past event at legal there = by_actor event.actor refl
  where
    found : (is_tick event.op ≡ false) × ((reach : Reach) × (access_of event.op ≡ Some reach))
    found = reach-of event.op event.reply event.translation at there

    by_actor : (actor : Actor) → event.actor ≡ actor → is_some (memory o past at) ≡ true
    by_actor Clock own = absurd (clock_ticks o past event.op event.reply found.0 (ap (λ (actor : Actor). answer o past actor event.op) (sym own) ∙ legal.0))
    by_actor (Hart h) own =
        let reach = found.1.0 in
        let place = whole.place (memory o past) (satp o past h) (hit o past h) reach.va reach.access in
        let replied = answered-reach o past h event.actor event.op event.reply reach own found.1.1 legal.0 in
        let uses = legal.1 ∙ used-reach o past h event.actor event.op reach own found.1.1 in
        let writes = placed-op (memory o past) (cached o past h) event.op reach place (whole.used (memory o past) (satp o past h) (hit o past h) reach.va reach.access) found.1.1
        (λ pa is. place_of_used (memory o past) (whole.way_of (memory o past) (satp o past h) (hit o past h) reach.va reach.access) reach.va (kind_of reach.access) pa is) in
        let is : place_in (writing_at reach.access place) ≡ Some at =
        ap place_in (sym writes) ∙ (λ i. place_in (writing_by event.op (sym replied i) (sym uses i))) ∙ sym (placed-so event.op event.reply event.translation) ∙ there in
        inside (memory o past) (kind_of reach.access) (phys_by (whole.way_of (memory o past) (satp o past h) (hit o past h) reach.va reach.access) reach.va (kind_of reach.access)) at
        (at-place reach.access place at is)
