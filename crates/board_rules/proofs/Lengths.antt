-- How many turns, acts, fills, starts and entries a history has, by its events.
use Rattle.std.proofs.Common.{◌≡◌, ℕ, ◌+◌, ◌≤◌, Bool, true, false, List, [], ◌∷◌, suc, length, refl, ap, arith}
use Rattle.std.specs.Prelude.{Option, Some, None, if◌then◌else◌}
use Rattle.std.specs.List.{cons_option, filter_map}
use Rattle.std.proofs.lemmas.List.FromFn.{length-range_with_len}
use Rattle.tlb_model.specs.Contents.{Contents}
use Rattle.board_rules.specs.Opening.{Opening}
use Rattle.board_rules.specs.History.{Event}
use Rattle.sbi_abi.specs.declared.call.Call.{Call}
use Rattle.sbi_abi.specs.declared.reset.Reset.{Reset}
use Rattle.sbi_abi.specs.Calls.{call_of}
use Rattle.board_terms.specs.declared.op.Op.{Op}
use Rattle.board_terms.specs.declared.op.Op.TheVariants.{Ecall, Load, Store, Fetch, Amo, WriteSatp, WriteSie, WriteSstatusSie, ReadSip, ClearSsip, Wfi, Sfence, FenceI, Poll, Serve, Advance, Tick}
use Rattle.hsm.specs.Transitions.{hart_at}
use Rattle.board_rules.specs.Course.{harts_of}
use Rattle.board_terms.specs.declared.config.Config.{Config}
use Rattle.tlb_model.specs.Acts.{Act, Fill, Drop, Clear, Nothing, next_number}
use Rattle.board_rules.specs.Memory.{tlb_acts, word_acts}
use Rattle.board_rules.specs.Starts.{Start, boot_start, entered_before, entered_by, entries, grown, growth, start_by, start_by_call, start_in, started_by_call, starts, starts_at, unless_reset}
use Rattle.board_rules.specs.States.{is_starting}
use Rattle.board_rules.specs.Resets.{begins_anew, reset_by, reset_by_call}
use Rattle.board_rules.specs.Fences.{turns}

-- a turn for each event
pub length-turns : (o : Opening) (past : List Event) → length (turns o past) ≡ length past
length-turns o [] = refl
length-turns o (event ∷ past) = ap suc (length-turns o past)

-- the acts are as many as the events
pub length-tlb_acts : (o : Opening) (past : List Event) (h : ℕ) → length (tlb_acts o past h) ≡ length past
length-tlb_acts o [] h = refl
length-tlb_acts o (event ∷ past) h = ap suc (length-tlb_acts o past h)

pub length-word_acts : (o : Opening) (past : List Event) (h : ℕ) → length (word_acts o past h) ≡ length past
length-word_acts o [] h = refl
length-word_acts o (event ∷ past) h = ap suc (length-word_acts o past h)

-- fills are at most as many as the events
pub next-le : {E : Type 0} (first : ℕ) (opening : Contents E) (acts : List (Act E)) → next_number first opening acts ≤ opening.next + length acts
next-le first opening [] = omega arith
next-le first opening (Fill item ∷ acts) = let before = next-le first opening acts in omega arith
next-le first opening (Drop flush ∷ acts) = let before = next-le first opening acts in omega arith
next-le first opening (Clear ∷ acts) = let before = next-le first opening acts in omega arith
next-le first opening (Nothing ∷ acts) = let before = next-le first opening acts in omega arith

-- starts and entries are at most as many as the events, and the boot start
grown-le : (one : Option Start) (reset : Option Reset) (anew : Reset → List Start) (xs : List Start) (n : ℕ) → ((r : Reset) → length (anew r) ≤ suc n) → length xs ≤ n
    → length (grown (growth one reset anew) xs) ≤ suc n
grown-le None None anew xs n small shorter = omega arith
grown-le None (Some reset) anew xs n small shorter = small reset
grown-le (Some start) reset anew xs n small shorter = omega arith

pub length-entries-le : (o : Opening) (past : List Event) → length (entries o past) ≤ length past
length-entries-le o [] = omega arith
length-entries-le o (event ∷ past) =
    grown-le (entered_by event.op event.reply (is_starting o past event.actor)) (reset_by event.op event.reply) _ (entries o past) (length past) (λ reset. omega arith) (length-entries-le o past)

few_at : (c : Config) (n : ℕ) (reset : Reset) → length (starts_at c reset) ≤ suc n
few_at c n reset = by_kind (begins_anew reset.kind)
  where
    by_kind : (anew : Bool) → length (if anew then boot_start c ∷ [] else []) ≤ suc n
    by_kind true = omega arith
    by_kind false = omega arith

-- what was entered before counts at most as long as it did at the opening
pub entered-before-le : (o : Opening) (past : List Event) → entered_before o past ≤ o.entered
entered-before-le o [] = omega arith
entered-before-le o (event ∷ past) = by_reset (reset_by event.op event.reply) (entered-before-le o past)
  where
    by_reset : (reset : Option Reset) → entered_before o past ≤ o.entered → unless_reset reset (entered_before o past) ≤ o.entered
    by_reset None before = before
    by_reset (Some reset) before = omega arith

filter_map-le : {A B : Type 0} (f : A → Option B) (xs : List A) → length (filter_map f xs) ≤ length xs
filter_map-le f [] = omega arith
filter_map-le {A} {B} f (x ∷ xs) = by_part (f x) (filter_map-le f xs)
  where
    by_part : (part : Option B) → length (filter_map f xs) ≤ length xs → length (cons_option part (filter_map f xs)) ≤ suc (length xs)
    by_part None rest = omega arith
    by_part (Some y) rest = omega arith

pub length-starts-le : (o : Opening) (past : List Event) → length (starts o past) ≤ o.config.harts + suc (length past)
length-starts-le o [] =
    let opened = filter_map-le (λ h. start_in h (hart_at o.harts h).state (hart_at o.harts h).kept) (harts_of o.config) in
    omega (arith, opened, length-range_with_len 0 o.config.harts)
length-starts-le o (event ∷ past) = by_op event.op (length-starts-le o past)
  where
    n : ℕ
    n = o.config.harts + suc (length past)

    by_call : (call : Call) → length (starts o past) ≤ n → length (grown (start_by_call o.config call event.reply) (starts o past)) ≤ o.config.harts + suc (suc (length past))
    by_call call before =
        let more = grown-le (started_by_call call event.reply) (reset_by_call call event.reply) (starts_at o.config) (starts o past) n (few_at o.config n) before in
        omega arith

    by_op : (op : Op) → length (starts o past) ≤ n → length (grown (start_by o.config op event.reply) (starts o past)) ≤ o.config.harts + suc (suc (length past))
    by_op (Ecall regs) before = by_call (call_of regs) before
    by_op (Load va) before = omega arith
    by_op (Store va value) before = omega arith
    by_op (Fetch va) before = omega arith
    by_op (Amo at amo) before = omega arith
    by_op (WriteSatp value) before = omega arith
    by_op (WriteSie value) before = omega arith
    by_op (WriteSstatusSie value) before = omega arith
    by_op ReadSip before = omega arith
    by_op ClearSsip before = omega arith
    by_op Wfi before = omega arith
    by_op (Sfence va asid) before = omega arith
    by_op FenceI before = omega arith
    by_op Poll before = omega arith
    by_op Serve before = omega arith
    by_op Advance before = omega arith
    by_op (Tick n) before = omega arith
