-- Worked rows, computed from the definitions: what lives before a fence and after it.
use Rattle.std.proofs.Common.{◌≡◌, ℕ, suc, ◌+◌, ◌*◌, ◌^◌, List, [], ◌∷◌, ◌++◌, length, true, false, pos, refl, sym, ap, ◌∙◌, arith, ◌<◌, ◌≤◌, inl, inr, Err, length-append}
use Rattle.std.specs.Prelude.{Some, None, map, take}
use Rattle.amo.specs.declared.amo.Amo.TheVariants.{Half}
use Rattle.amo.specs.declared.function.AmoFunction.TheVariants.{Add}
use Rattle.tlb_model.specs.Entries.{Entry as CacheEntry}
use Rattle.tlb_model.specs.declared.fence.Flush.TheVariants.{Entries}
use Rattle.sv39.specs.declared.page.Level.TheVariants.{Giga}
use Rattle.sv39.specs.declared.cause.Cause.TheVariants.{LoadPageFault, StorePageFault}
use Rattle.sv39.specs.Maps.{maps}
use Rattle.sv39.specs.Memory.{is_in_ram, word_in, zero_memory}
use Rattle.sv39.specs.Paging.{is_valid_by}
use Rattle.sbi_abi.specs.Calls.{call_of}
use Rattle.sbi_abi.specs.ResetTypes.{reset_kind_of}
use Rattle.hart_mask.specs.HartList.{names_stray, targets_of}
use Rattle.hart_mask.specs.Ids.{ids_where}
use Rattle.board_core.specs.Opening.{Opening, opening_at}
use Rattle.board_terms.specs.declared.op.Actor.TheVariants.{Hart}
use Rattle.board_terms.specs.declared.op.Op.{Op}
use Rattle.board_terms.specs.declared.op.Op.TheVariants.{Advance, Amo, Ecall, Fetch, FenceI, Load, Poll, Serve, Sfence, Store, WriteSatp}
use Rattle.board_terms.specs.declared.reply.Reply.{Reply}
use Rattle.board_terms.specs.declared.reply.Reply.TheVariants.{Done, Entry, Fault, Gone, Ret, Served, Value, Waiting}
use Rattle.board_core.specs.Calls.Rfence.{flush_of_range}
use Rattle.sv39.specs.declared.cause.Kind.TheVariants as kinds
use Rattle.hart_access.specs.declared.accesses.Access.TheVariants as accesses
use Rattle.std.proofs.lemmas.Bool.{cases_eq}
use Rattle.board_terms.specs.Limits.{spaces_of}
use Rattle.board_core.specs.Memory.{memory, satp}
use Rattle.board_core.specs.Totals.{totals}
use Rattle.board_laws.specs.Fresh.{FencedAccess}
use Rattle.board_core.specs.Resets.{reset_by}
use Rattle.board_laws.specs.Places.{IsAtPlace, past_at}
use Rattle.board_laws.specs.Steady.{TablesAreSteady}
use Rattle.board_core.specs.History.{Event, Reach}
use Rattle.board_laws.specs.Again.{ActorStep, again}
use Rattle.board_laws.specs.Fences.{ByCall, Reached}
use Rattle.board_laws.specs.Lives.{live_entries, live_words}

abbrev opened : Opening
opened = opening_at (record { harts = 1; pages = 16; limit = 1000; boot_hart = 0; boot_addr = 0x80000000; boot_opaque = 0; asid_len = 16; width = 39 })

-- what hart 0 did, newest first, and what it was answered
abbrev by_hart : List Op → List Event
by_hart ops = again opened (map (λ op. record { actor = Hart 0; op = op }) ops)

abbrev replies : List Event → List Reply
replies = map (λ event. event.reply)

abbrev entry_dates : List Event → List ℕ
entry_dates past = map (λ x. x.date) (live_entries opened past 0)

abbrev word_dates : List Event → List ℕ
word_dates past = map (λ x. x.date) (live_words opened past 0)

-- a gigapage that maps the RAM to itself, its table at 0x80001000, and then the table's entry taken away
abbrev unmapped : List Op
unmapped = Store 0x80001010 0 ∷ Load 0x80002000 ∷ WriteSatp (8 * 2 ^ 60 + 0x80001) ∷ Store 0x80001010 0x200000cf ∷ Advance ∷ []

-- The entry lives on, and a load uses it, though the page tables have it no more.
stale-load : replies (by_hart (Load 0x80002000 ∷ unmapped)) ≡ Value 0 ∷ Done ∷ Value 0 ∷ Done ∷ Done ∷ Entry 0x80000000 0 0 ∷ []
unfolding maps is_valid_by word_in zero_memory is_in_ram
stale-load = refl

lives-before : entry_dates (by_hart unmapped) ≡ 3 ∷ []
unfolding maps is_valid_by word_in zero_memory is_in_ram
lives-before = refl

-- After a fence it is gone, and the load fails as the page tables say.
gone-after : entry_dates (by_hart (Sfence None None ∷ unmapped)) ≡ []
unfolding maps is_valid_by word_in zero_memory is_in_ram
gone-after = refl

fresh-load : replies (by_hart (Load 0x80002000 ∷ Sfence None None ∷ unmapped)) ≡ Fault LoadPageFault ∷ Done ∷ Done ∷ Value 0 ∷ Done ∷ Done ∷ Entry 0x80000000 0 0 ∷ []
unfolding maps is_valid_by word_in zero_memory is_in_ram
fresh-load = refl

-- An AMO uses the entry, too, and changes a word of the page. After the fence it fails with a store's cause.
stale-amo : replies (by_hart (Load 0x80002000 ∷ Amo 0x80002004 (Half Add 7) ∷ unmapped))
    ≡ Value 0x700000000 ∷ Value 0 ∷ Done ∷ Value 0 ∷ Done ∷ Done ∷ Entry 0x80000000 0 0 ∷ []
unfolding maps is_valid_by word_in zero_memory is_in_ram
stale-amo = refl

fresh-amo : replies (by_hart (Amo 0x80002004 (Half Add 7) ∷ Sfence None None ∷ unmapped))
    ≡ Fault StorePageFault ∷ Done ∷ Done ∷ Value 0 ∷ Done ∷ Done ∷ Entry 0x80000000 0 0 ∷ []
unfolding maps is_valid_by word_in zero_memory is_in_ram
fresh-amo = refl

-- A fence of another address leaves it, if the address isn't in its page.
lives-after : entry_dates (by_hart (Sfence (Some 0x2000) None ∷ unmapped)) ≡ 3 ∷ []
unfolding maps is_valid_by word_in zero_memory is_in_ram
lives-after = refl

-- A store leaves the word that was fetched, and a FENCE.I drops it.
stale-fetch : replies (by_hart (Fetch 0x80003000 ∷ FenceI ∷ Fetch 0x80003000 ∷ Store 0x80003000 7 ∷ Fetch 0x80003000 ∷ Advance ∷ []))
    ≡ Value 7 ∷ Done ∷ Value 0 ∷ Done ∷ Value 0 ∷ Entry 0x80000000 0 0 ∷ []
unfolding maps is_valid_by word_in zero_memory is_in_ram
stale-fetch = refl

refilled : word_dates (by_hart (Fetch 0x80003000 ∷ FenceI ∷ Fetch 0x80003000 ∷ Store 0x80003000 7 ∷ Fetch 0x80003000 ∷ Advance ∷ [])) ≡ 5 ∷ []
unfolding maps is_valid_by word_in zero_memory is_in_ram
refilled = refl

-- ---- a remote fence, between two harts

abbrev pair : Opening
pair = opening_at (record { harts = 2; pages = 16; limit = 1000; boot_hart = 0; boot_addr = 0x80000000; boot_opaque = 0; asid_len = 16; width = 39 })

abbrev did : ℕ → Op → ActorStep
did h op = record { actor = Hart h; op = op }

abbrev call : (eid fid a b c d : ℕ) → Op
call eid fid a b c d = Ecall (record { eid = eid; fid = fid; a = a ∷ b ∷ c ∷ d ∷ 0 ∷ 0 ∷ [] })

-- Hart 1 translates by the same gigapage, whose entry hart 0 takes away; and hart 0 asks a fence of hart 1.
abbrev asked : List ActorStep
asked =
    did 0 (call 0x52464e43 1 2 0 0 0)
    ∷ did 0 (Store 0x80001010 0)
    ∷ did 1 (Load 0x80002000)
    ∷ did 1 (WriteSatp (8 * 2 ^ 60 + 0x80001))
    ∷ did 0 (Store 0x80001010 0x200000cf)
    ∷ did 1 Advance
    ∷ did 0 (call 0x48534d 0 1 0x80000000 0 0)
    ∷ did 0 Advance
    ∷ []

abbrev first_reply : List Event → List Reply
first_reply past = map (λ event. event.reply) (take 1 past)

-- Until hart 1 has served, its load is stale, and hart 0's call waits.
stale-before_serve : first_reply (again pair (did 1 (Load 0x80002000) ∷ asked)) ≡ Value 0 ∷ []
unfolding maps is_valid_by word_in zero_memory is_in_ram call_of targets_of names_stray ids_where
stale-before_serve = refl

-- A cold reboot by hart 1 drops the call: what hart 0 then polls is refused, and makes no event.
abbrev rebooted : List ActorStep
rebooted = did 1 (call 0x53525354 0 1 0 0 0) ∷ asked

reboot-accepted : first_reply (again pair rebooted) ≡ Gone ∷ []
unfolding maps is_valid_by word_in zero_memory is_in_ram call_of targets_of names_stray ids_where reset_kind_of
reboot-accepted = refl

reboot-drops_call : again pair (did 0 Poll ∷ rebooted) ≡ again pair rebooted
unfolding maps is_valid_by word_in zero_memory is_in_ram call_of targets_of names_stray ids_where reset_kind_of
reboot-drops_call = refl

-- Once the call was a success, it is fresh.
abbrev served : List ActorStep
served = did 0 Poll ∷ did 1 Serve ∷ asked

fresh-after_poll : first_reply (again pair (did 1 (Load 0x80002000) ∷ served)) ≡ Fault LoadPageFault ∷ []
unfolding maps is_valid_by word_in zero_memory is_in_ram call_of targets_of names_stray ids_where
fresh-after_poll = refl

-- Of how many harts fences were asked, at how many they were applied, and at how many they wait: a reset counts as applying
-- what waits.
abbrev fence_counts : List Event → List ℕ
fence_counts past = (totals pair past).asked ∷ (totals pair past).applied ∷ (totals pair past).waiting ∷ []

waits-once : fence_counts (again pair asked) ≡ 1 ∷ 0 ∷ 1 ∷ []
unfolding maps is_valid_by word_in zero_memory is_in_ram call_of targets_of names_stray ids_where
waits-once = refl

applied-by_serve : fence_counts (again pair served) ≡ 1 ∷ 1 ∷ 0 ∷ []
unfolding maps is_valid_by word_in zero_memory is_in_ram call_of targets_of names_stray ids_where
applied-by_serve = refl

applied-by_reset : fence_counts (again pair rebooted) ≡ 1 ∷ 1 ∷ 0 ∷ []
unfolding maps is_valid_by word_in zero_memory is_in_ram call_of targets_of names_stray ids_where reset_kind_of
applied-by_reset = refl

-- The same history, written out.
abbrev event_of : ℕ → Op → Reply → Event
event_of h op reply = record { actor = Hart h; op = op; reply = reply; translation = None }

abbrev mapped : CacheEntry
mapped = record { leaf = record { page = 0x80000000; level = Giga; global = false; pa = 0x80000000; r = true; w = true; x = true; d = true }; asid = 0 }

abbrev ask : Event
ask = event_of 0 (call 0x52464e43 1 2 0 0 0) Waiting

abbrev poll : Event
poll = event_of 0 Poll (Ret (record { error = pos 0; value = 0 }))

abbrev before_ask : List Event
before_ask =
    event_of 0 (Store 0x80001010 0) Done
    ∷ record { actor = Hart 1; op = Load 0x80002000; reply = Value 0; translation = Some mapped }
    ∷ event_of 1 (WriteSatp (8 * 2 ^ 60 + 0x80001)) Done
    ∷ event_of 0 (Store 0x80001010 0x200000cf) Done
    ∷ event_of 1 Advance (Entry 0x80000000 1 0)
    ∷ event_of 0 (call 0x48534d 0 1 0x80000000 0 0) (Ret (record { error = pos 0; value = 0 }))
    ∷ event_of 0 Advance (Entry 0x80000000 0 0)
    ∷ []

abbrev written : List Event
written = poll ∷ event_of 1 Serve Served ∷ ask ∷ before_ask

is-written : again pair served ≡ written
unfolding maps is_valid_by word_in zero_memory is_in_ram call_of targets_of names_stray ids_where
is-written = refl

-- What stands between the call and its end is no reset.
abbrev second_op : List Event → Op
second_op (first ∷ second ∷ past) = second.op
second_op past = Poll

too-short : (m n : ℕ) → m ≡ n → m ≡ 10 → n ≡ 9 → ⊥
too-short m n same ten nine = omega arith

too-long : (m n k : ℕ) → m ≡ suc (suc n) → m ≡ 10 → n ≡ k + 9 → ⊥
too-long m n k same ten more = omega arith

only-served : (newer : List Event) (other : Event) → written ≡ newer ++ other ∷ ask ∷ before_ask → other.op ≡ Serve
only-served [] other e = absurd (too-short (length written) (length (other ∷ ask ∷ before_ask)) (ap length e) refl refl)
only-served (first ∷ []) other e = sym (ap second_op e)
only-served (first ∷ second ∷ newer) other e =
    absurd (too-long (length written) (length (newer ++ other ∷ ask ∷ before_ask)) (length newer) (ap length e) refl (length-append newer (other ∷ ask ∷ before_ask)))

no-reset : (m : ℕ) (other : Event) → 7 < m → m < 9 → IsAtPlace pair written m other → reset_by other.op other.reply ≡ None
no-reset m other after before at =
    let place : m ≡ 8 = omega arith in
    let served : other.op ≡ Serve = only-served at.newer other (at.made ∙ ap (λ n. at.newer ++ other ∷ past_at pair written n) place) in
    rw served refl

-- In it the fence has reached hart 1.
has-reached : Reached pair written 1 7 (Entries (record { asid = None; range = None }))
unfolding call_of targets_of names_stray ids_where
has-reached = ByCall 0
    (record {
      event = ask;
      happened = record { since = omega arith; newer = poll ∷ event_of 1 Serve Served ∷ []; made = refl };
      by_hart = refl;
      regs = record { eid = 0x52464e43; fid = 1; a = 2 ∷ 0 ∷ 0 ∷ 0 ∷ 0 ∷ 0 ∷ [] };
      call = refl;
      accepted = refl;
      remote = record { mask = 2; base = 0; flush = flush_of_range (spaces_of pair.config) 0 0 None };
      fences = refl;
      drops = refl;
      asked = refl;
    })
    (record { end = 9; later = omega arith; event = poll; happened = record { since = omega arith; newer = []; made = refl }; by_hart = refl; poll = refl; kept = no-reset })

-- So the load after it is one that the fence is of, and from the fence on the page tables say one thing of it.
abbrev load : Event
load = event_of 1 (Load 0x80002000) (Fault LoadPageFault)

abbrev reach : Reach
reach = record { va = 0x80002000; access = accesses.Load }

is-fenced : FencedAccess pair (load ∷ written) 1 7 10 (record { asid = None; range = None }) reach
is-fenced = record {
  event = load;
  happened = record { since = omega arith; newer = []; made = refl };
  by_hart = refl;
  access = refl;
  reached = has-reached;
  page = refl;
  space = λ entry e. cc;
}

after-seven : (P : ℕ → Type 0) → P 8 → P 9 → P 10 → (m : ℕ) → 7 < m → m ≤ 10 → P m
after-seven P eight nine ten m after upto = elim (cases_eq m 8) [
  | inl e ↦ rw e eight
  | inr not_eight ↦ elim (cases_eq m 9) [
    | inl e ↦ rw e nine
    | inr not_nine ↦ let e : m ≡ 10 = omega arith in rw e ten
  ]
]

is-steady : TablesAreSteady pair (load ∷ written) 1 7 10 reach (Err LoadPageFault)
unfolding maps is_valid_by word_in zero_memory is_in_ram call_of
is-steady = record {
  same_satp = after-seven (λ m. satp pair (past_at pair (load ∷ written) m) 1 ≡ satp pair (past_at pair (load ∷ written) 10) 1) refl refl refl;
  one_result = after-seven (λ m. maps (memory pair (past_at pair (load ∷ written) m)) (satp pair (past_at pair (load ∷ written) 10) 1) 0x80002000 kinds.Load ≡ Err LoadPageFault) refl refl refl;
}
