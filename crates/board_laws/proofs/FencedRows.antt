-- Worked rows of the laws: histories that meet what each law asks, so that none of them speaks of nothing.
use Rattle.std.proofs.Common.{◌≡◌, ℕ, suc, ◌+◌, ◌*◌, ◌^◌, List, [], ◌∷◌, true, false, pos, refl, sym, ap, ◌∙◌, arith, ◌<◌, ◌≤◌, Ok}
use Rattle.std.specs.Prelude.{Bool, Option, Some, None, if◌then◌else◌}
use Rattle.sbi_abi.specs.declared.call.Regs.{Regs}
use Rattle.sbi_abi.specs.declared.reset.Reset.{Reset}
use Rattle.sbi_abi.specs.declared.reset.ResetKind.TheVariants.{ColdReboot}
use Rattle.sbi_abi.specs.Calls.{call_of}
use Rattle.sbi_abi.specs.ResetTypes.{reset_kind_of}
use Rattle.hart_mask.specs.HartList.{names_stray, targets_of}
use Rattle.hart_mask.specs.Ids.{ids_where}
use Rattle.sv39.specs.declared.cause.Kind.TheVariants as kinds
use Rattle.sv39.specs.declared.page.Leaf.{Leaf}
use Rattle.sv39.specs.declared.page.Level.TheVariants.{Giga}
use Rattle.sv39.specs.Maps.{maps}
use Rattle.sv39.specs.Memory.{is_in_ram, word_in, zero_memory}
use Rattle.sv39.specs.Paging.{is_valid_by}
use Rattle.tlb_model.specs.Entries.{Entry as CacheEntry}
use Rattle.tlb_model.specs.declared.fence.Fence.{Fence}
use Rattle.tlb_model.specs.declared.fence.Flush.{Flush}
use Rattle.tlb_model.specs.declared.fence.Flush.TheVariants.{Entries}
use Rattle.tlb_model.specs.Fences.{fence_of_address, fence_of_range}
use Rattle.hart_access.specs.declared.accesses.Access.TheVariants as accesses
use Rattle.hart_access.specs.Translations.{IsTranslated}
use Rattle.hart_access.specs.Ways.{phys_at}
use Rattle.rfence.specs.declared.opened.FenceCall.{FenceCall}
use Rattle.rfence.specs.Laws.{times_met, was_applied}
use Rattle.rfence.specs.Opening.{called_at}
use Rattle.rfence.specs.Right.{IsRight}
use Rattle.board_core.specs.Cuts.{IsOpened, opening_of}
use Rattle.board_core.specs.Opening.{IsOpening, Opening, opening_at}
use Rattle.board_terms.specs.declared.op.Actor.TheVariants.{Hart}
use Rattle.board_terms.specs.declared.op.Op.{Op}
use Rattle.board_terms.specs.declared.op.Op.TheVariants.{Advance, Ecall, Fetch, FenceI, Load, Poll, Serve, Sfence, Store, WriteSatp}
use Rattle.board_terms.specs.declared.reply.Reply.{Reply}
use Rattle.board_terms.specs.declared.reply.Reply.TheVariants.{Done, Entry, Gone, Ret, Served, Value, Waiting}
use Rattle.board_core.specs.Calls.Rfence.{flush_of_range}
use Rattle.board_core.specs.Fences.{turns}
use Rattle.board_core.specs.History.{Event, Reach}
use Rattle.board_terms.specs.Limits.{IsGood, spaces_of}
use Rattle.board_core.specs.Memory.{memory, satp}
use Rattle.board_core.specs.Replies.{IsLegal}
use Rattle.board_core.specs.Resets.{reset_by}
use Rattle.board_core.specs.Totals.{totals}
use Rattle.board_laws.specs.Fences.{Asks, ByCall, Itself, LeavesNothing, Reached, StopsHart, own_fence}
use Rattle.board_laws.specs.Fresh.{FencedAccess, FencedFetch, GivenAfter, StoodAfter, is_of_page, is_of_space}
use Rattle.board_laws.specs.Lives.{LivesFromItsDate, NoneLives, Struck}
use Rattle.board_laws.specs.Places.{IsAtPlace, past_at}
use Rattle.board_laws.specs.Resets.{IsFresh}
use Rattle.board_laws.specs.Seams.{IsSeamless}
use Rattle.board_laws.specs.Steady.{IsDecidedBy, TablesAreSteady}
use Rattle.board_core.proofs.Beginning.{opens}
use Rattle.board_laws.proofs.Again.{recorded_is_recomputed}
use Rattle.board_laws.proofs.AfterResets.{resets_are_fresh}
use Rattle.board_laws.proofs.Counted.{fences_are_counted}
use Rattle.board_laws.proofs.Fresh.{fetches_are_fresh, translations_are_fresh}
use Rattle.board_laws.proofs.Gone.{struck_is_gone}
use Rattle.board_laws.proofs.Lives.{lives_from_its_date}
use Rattle.board_laws.proofs.Once.{asked_once, opened_once, stops_leave_nothing}
use Rattle.board_laws.proofs.Parting.{parted-are-seamless}
use Rattle.board_laws.proofs.Places.{at-with}
use Rattle.board_laws.proofs.Reached.{fences_strike}
use Rattle.board_core.proofs.Right.{turns_are_right}
use Rattle.board_laws.proofs.Steady.{steady_tables_decide}

abbrev pub did : ℕ → Op → Reply → Event
did h op reply = record { actor = Hart h; op = op; reply = reply; translation = None }

-- a gigapage of address space 5, which maps the RAM to itself
abbrev leaf : Leaf
leaf = record { page = 0x80000000; level = Giga; global = false; pa = 0x80000000; r = true; w = true; x = true; d = true }

abbrev pub mapped : CacheEntry
mapped = record { leaf = leaf; asid = 5 }

abbrev pub in_space : ℕ
in_space = 8 * 2 ^ 60 + 5 * 2 ^ 44 + 0x80001

-- hart h loads through it
abbrev pub loaded : ℕ → Event
loaded h = record { actor = Hart h; op = Load 0x80002000; reply = Value 0; translation = Some mapped }

abbrev reach : Reach
reach = record { va = 0x80002000; access = accesses.Load }

-- whether a fence of this address space is of the entry that an access used
abbrev of_space : Option ℕ → ℕ → Option CacheEntry → Bool
of_space asid satp_now None = true
of_space asid satp_now (Some used) = is_of_space asid satp_now used.leaf

-- ---- a hart fences itself

abbrev alone : Opening
alone = opening_at (record { harts = 1; pages = 16; limit = 1000; boot_hart = 0; boot_addr = 0x80000000; boot_opaque = 0; asid_len = 16; width = 39 })

is-good : IsGood alone.config
is-good = record {
  some_harts = omega arith;
  at_most_128_harts = omega arith;
  some_pages = omega arith;
  at_most_256_pages = omega arith;
  some_room = omega arith;
  at_most_a_million_events = omega arith;
  boot_hart_is_there = omega arith;
  boot_address = refl;
  at_most_16_bits_of_an_asid = omega arith;
  width_of_a_mode = refl;
}

alone-opens : IsOpening alone
alone-opens = opens alone.config is-good

alone-opened : IsOpened alone
alone-opened = record { cuts = 0; opens = (is-good, refl) }

-- hart 0 fences itself, and then loads
abbrev fenced_by : Op → List Event
fenced_by op =
    loaded 0
    ∷ did 0 op Done
    ∷ did 0 (WriteSatp in_space) Done
    ∷ did 0 (Store 0x80001010 0x200000cf) Done
    ∷ did 0 Advance (Entry 0x80000000 0 0)
    ∷ []

own-reached : (op : Op) (flush : Flush) → own_fence alone.config op ≡ Some flush → Reached alone (past_at alone (fenced_by op) 4) 0 3 flush
own-reached op flush fences = Itself (record { event = did 0 op Done; happened = record { since = omega arith; newer = []; made = refl }; by_hart = refl; fences = fences })

abbrev fenced-access : (op : Op) (fence : Fence) → own_fence alone.config op ≡ Some (Entries fence) → is_of_page fence.range 0x80002000 ≡ true
    → is_of_space fence.asid (satp alone (past_at alone (fenced_by op) 4) 0) leaf ≡ true → FencedAccess alone (fenced_by op) 0 3 4 fence reach
fenced-access op fence fences page space = record {
  event = loaded 0;
  happened = record { since = omega arith; newer = []; made = refl };
  by_hart = refl;
  access = refl;
  reached = own-reached op (Entries fence) fences;
  page = page;
  space = λ used e. sym (ap (of_space fence.asid (satp alone (past_at alone (fenced_by op) 4) 0)) e) ∙ space;
}

-- By an SFENCE.VMA of an address space ..
abbrev of_asid : Op
of_asid = Sfence None (Some 5)

asid-legal : IsLegal alone (fenced_by of_asid)
unfolding maps is_valid_by word_in zero_memory is_in_ram
asid-legal = (recorded_is_recomputed alone (fenced_by of_asid) alone-opens).1 refl

abbrev asid-fenced : FencedAccess alone (fenced_by of_asid) 0 3 4 (fence_of_address (spaces_of alone.config) None (Some 5)) reach
asid-fenced = fenced-access of_asid (fence_of_address (spaces_of alone.config) None (Some 5)) refl refl refl

asid-fresh : GivenAfter alone (fenced_by of_asid) 0 3 4 0x80002000 leaf
asid-fresh = translations_are_fresh alone (fenced_by of_asid) 1000 0 3 4 (fence_of_address (spaces_of alone.config) None (Some 5)) reach mapped alone-opened asid-legal asid-fenced refl

-- .. and by one of an address.
abbrev of_address : Op
of_address = Sfence (Some 0x80002000) None

address-legal : IsLegal alone (fenced_by of_address)
unfolding maps is_valid_by word_in zero_memory is_in_ram
address-legal = (recorded_is_recomputed alone (fenced_by of_address) alone-opens).1 refl

address-page : is_of_page (fence_of_address (spaces_of alone.config) (Some 0x80002000) None).range 0x80002000 ≡ true
unfolding is_valid_by
address-page = refl

abbrev address-fenced : FencedAccess alone (fenced_by of_address) 0 3 4 (fence_of_address (spaces_of alone.config) (Some 0x80002000) None) reach
address-fenced = fenced-access of_address (fence_of_address (spaces_of alone.config) (Some 0x80002000) None) refl address-page refl

address-fresh : GivenAfter alone (fenced_by of_address) 0 3 4 0x80002000 leaf
address-fresh =
    translations_are_fresh alone (fenced_by of_address) 1000 0 3 4 (fence_of_address (spaces_of alone.config) (Some 0x80002000) None) reach mapped alone-opened address-legal address-fenced refl

-- From the fence on satp and the page tables say one thing of the load, which decides it.
only-four : (P : ℕ → Type 0) → P 4 → (m : ℕ) → 3 < m → m ≤ 4 → P m
only-four P four m after upto = let e : m ≡ 4 = omega arith in rw e four

leaf-steady : TablesAreSteady alone (fenced_by of_asid) 0 3 4 reach (Ok leaf)
unfolding maps is_valid_by word_in zero_memory is_in_ram
leaf-steady = record {
  same_satp = only-four (λ m. satp alone (past_at alone (fenced_by of_asid) m) 0 ≡ satp alone (past_at alone (fenced_by of_asid) 4) 0) refl;
  one_result =
      only-four (λ m. maps (memory alone (past_at alone (fenced_by of_asid) m)) (satp alone (past_at alone (fenced_by of_asid) 4) 0) 0x80002000 kinds.Load ≡ Ok leaf) refl;
}

is-translated : IsTranslated in_space 0x80002000
unfolding is_valid_by
is-translated = record { aligned = refl; mode = refl; valid = refl }

leaf-decides : IsDecidedBy alone (past_at alone (fenced_by of_asid) 4) 0 (loaded 0) reach (Ok leaf)
leaf-decides =
    steady_tables_decide alone (fenced_by of_asid) 1000 0 3 4 (fence_of_address (spaces_of alone.config) None (Some 5)) reach (Ok leaf) alone-opened asid-legal asid-fenced is-translated leaf-steady

-- ---- a hart stores what it fetches

abbrev refetched : List Event
refetched =
    did 0 (Fetch 0x80003000) (Value 7)
    ∷ did 0 FenceI Done
    ∷ did 0 (Store 0x80003000 7) Done
    ∷ did 0 (Fetch 0x80003000) (Value 0)
    ∷ did 0 Advance (Entry 0x80000000 0 0)
    ∷ []

refetched-legal : IsLegal alone refetched
unfolding maps is_valid_by word_in zero_memory is_in_ram
refetched-legal = (recorded_is_recomputed alone refetched alone-opens).1 refl

abbrev fetch-fenced : FencedFetch alone refetched 0 3 4 0x80003000 7
fetch-fenced = record {
  event = did 0 (Fetch 0x80003000) (Value 7);
  happened = record { since = omega arith; newer = []; made = refl };
  by_hart = refl;
  fetch = refl;
  answer = refl;
  reached = Itself (record { event = did 0 FenceI Done; happened = record { since = omega arith; newer = []; made = refl }; by_hart = refl; fences = refl });
}

fetch-fresh : StoodAfter alone refetched 3 4 (phys_at None 0x80003000) 7
fetch-fresh = fetches_are_fresh alone refetched 0 3 4 0x80003000 7 is-good.boot_hart_is_there refetched-legal fetch-fenced

refetched-lives : LivesFromItsDate alone refetched 0
refetched-lives = lives_from_its_date alone refetched 0 refetched-legal

-- ---- a hart asks another one for a fence of a range and an address space

abbrev pub two : Opening
two = opening_at (record { harts = 2; pages = 16; limit = 1000; boot_hart = 0; boot_addr = 0x80000000; boot_opaque = 0; asid_len = 16; width = 39 })

pub two-good : IsGood two.config
two-good = record {
  some_harts = omega arith;
  at_most_128_harts = omega arith;
  some_pages = omega arith;
  at_most_256_pages = omega arith;
  some_room = omega arith;
  at_most_a_million_events = omega arith;
  boot_hart_is_there = omega arith;
  boot_address = refl;
  at_most_16_bits_of_an_asid = omega arith;
  width_of_a_mode = refl;
}

pub two-opens : IsOpening two
two-opens = opens two.config two-good

pub two-opened : IsOpened two
two-opened = record { cuts = 0; opens = (two-good, refl) }

abbrev pub range_regs : Regs
range_regs = record { eid = 0x52464e43; fid = 2; a = 2 ∷ 0 ∷ 0x80002000 ∷ 0x1000 ∷ 5 ∷ 0 ∷ [] }

abbrev pub range_fence : Fence
range_fence = fence_of_range (spaces_of two.config) 0x80002000 0x1000 (Some 5)

abbrev pub success : Reply
success = Ret (record { error = pos 0; value = 0 })

abbrev ranged : List Event
ranged =
    loaded 1
    ∷ did 0 Poll success
    ∷ did 1 Serve Served
    ∷ did 0 (Ecall range_regs) Waiting
    ∷ did 1 (WriteSatp in_space) Done
    ∷ did 0 (Store 0x80001010 0x200000cf) Done
    ∷ did 1 Advance (Entry 0x80000000 1 0)
    ∷ did 0 (Ecall (record { eid = 0x48534d; fid = 0; a = 1 ∷ 0x80000000 ∷ 0 ∷ 0 ∷ 0 ∷ 0 ∷ [] })) success
    ∷ did 0 Advance (Entry 0x80000000 0 0)
    ∷ []

ranged-legal : IsLegal two ranged
unfolding maps is_valid_by word_in zero_memory is_in_ram call_of targets_of names_stray ids_where
ranged-legal = (recorded_is_recomputed two ranged two-opens).1 refl

range-asks : Asks two (past_at two ranged 8) 0 1 5 (Entries range_fence)
unfolding call_of targets_of names_stray ids_where
range-asks = record {
  event = did 0 (Ecall range_regs) Waiting;
  happened = record { since = omega arith; newer = did 0 Poll success ∷ did 1 Serve Served ∷ []; made = refl };
  by_hart = refl;
  regs = range_regs;
  call = refl;
  accepted = refl;
  remote = record { mask = 2; base = 0; flush = flush_of_range (spaces_of two.config) 0x80002000 0x1000 (Some 5) };
  fences = refl;
  drops = refl;
  asked = refl;
}

abbrev pub first_reset : List Event → Option Reset
first_reset [] = None
first_reset (event ∷ past) = reset_by event.op event.reply

no-reset : (m : ℕ) (other : Event) → 5 < m → m < 7 → IsAtPlace two (past_at two ranged 8) m other → reset_by other.op other.reply ≡ None
no-reset m other after before at =
    let place : m ≡ 6 = omega arith in
    sym (ap first_reset (at-with two (past_at two ranged 8) m other at)) ∙ ap (λ n. first_reset (past_at two (past_at two ranged 8) (suc n))) place

range-reached : Reached two (past_at two ranged 8) 1 5 (Entries range_fence)
range-reached = ByCall 0 range-asks
    (record {
      end = 7;
      later = omega arith;
      event = did 0 Poll success;
      happened = record { since = omega arith; newer = []; made = refl };
      by_hart = refl;
      poll = refl;
      kept = no-reset;
    })

range-satp : satp two (past_at two ranged 8) 1 ≡ in_space
unfolding call_of
range-satp = refl

abbrev range-fenced : FencedAccess two ranged 1 5 8 range_fence reach
range-fenced = record {
  event = loaded 1;
  happened = record { since = omega arith; newer = []; made = refl };
  by_hart = refl;
  access = refl;
  reached = range-reached;
  page = refl;
  space = λ used e. ap (λ satp_now. is_of_space (Some 5) satp_now used.leaf) range-satp ∙ sym (ap (of_space (Some 5) in_space) e);
}

range-fresh : GivenAfter two ranged 1 5 8 0x80002000 leaf
range-fresh = translations_are_fresh two ranged 1000 1 5 8 range_fence reach mapped two-opened ranged-legal range-fenced refl

abbrev until_load : List Event
until_load = past_at two ranged 8

until_load-legal : IsLegal two until_load
until_load-legal = ranged-legal.2

range-struck : Struck two until_load 1 5 (Entries range_fence)
range-struck = fences_strike two until_load 1 5 (Entries range_fence) two-good.boot_hart_is_there until_load-legal range-reached

range-gone : NoneLives two until_load 1 5 (Entries range_fence)
range-gone = struck_is_gone two until_load 1 5 (Entries range_fence) range-struck

range-once : times_met two.fences 5 (turns two until_load) 1 ≡ 1
range-once = asked_once two until_load 0 1 5 (Entries range_fence) two-good until_load-legal range-asks

ranged-right : IsRight two.fences 2 (turns two ranged)
ranged-right = turns_are_right two ranged two-good ranged-legal

ranged-counted : (totals two ranged).asked ≡ (totals two ranged).applied + (totals two ranged).waiting
ranged-counted = fences_are_counted two ranged two-good ranged-legal

-- ---- the history is cut while the call is open

abbrev since_cut : List Event
since_cut = loaded 1 ∷ did 0 Poll success ∷ did 1 Serve Served ∷ []

abbrev after_cut : Opening
after_cut = opening_of two (past_at two ranged 6)

ranged-seamless : IsSeamless two since_cut (past_at two ranged 6)
ranged-seamless = parted-are-seamless two since_cut (past_at two ranged 6) two-opened ranged-legal

-- The call is open there, and its fence waits at hart 1 ..
abbrev range_call : FenceCall Flush
range_call = record { place = 5; asked = 1 ∷ []; flush = Entries range_fence }

call-kept : called_at after_cut.fences 0 ≡ Some range_call
unfolding call_of targets_of names_stray ids_where
call-kept = refl

not-applied : was_applied after_cut.fences range_call 1 ≡ false
unfolding call_of targets_of names_stray ids_where
not-applied = refl

-- .. so it was applied there once since, by the serve.
cut-once : times_met after_cut.fences 5 (turns after_cut since_cut) 1 ≡ 1
cut-once =
    let met = times_met after_cut.fences 5 (turns after_cut since_cut) 1 in
    let once : 0 + met ≡ 1 = sym (ap (λ b. (if b then 1 else 0) + met) not-applied) ∙ opened_once after_cut since_cut 0 1 range_call two-good ranged-seamless.legal call-kept in
    omega (arith, once)

-- ---- a stop, and a reset

abbrev stop_regs : Regs
stop_regs = record { eid = 0x48534d; fid = 1; a = 0 ∷ 0 ∷ 0 ∷ 0 ∷ 0 ∷ 0 ∷ [] }

stops : StopsHart (did 0 (Ecall stop_regs) Gone) 0
unfolding call_of
stops = record { by_hart = refl; regs = stop_regs; call = refl; stop = refl; accepted = refl }

stop-leaves_nothing : LeavesNothing alone (did 0 (Ecall stop_regs) Gone ∷ refetched) 0
stop-leaves_nothing = stops_leave_nothing alone (did 0 (Ecall stop_regs) Gone) refetched 0 stops

abbrev cold : Reset
cold = record { kind = ColdReboot; reason = 0 }

abbrev reboot : Event
reboot = did 0 (Ecall (record { eid = 0x53525354; fid = 0; a = 1 ∷ 0 ∷ 0 ∷ 0 ∷ 0 ∷ 0 ∷ [] })) Gone

reboot-legal : IsLegal alone (reboot ∷ refetched)
unfolding maps is_valid_by word_in zero_memory is_in_ram call_of reset_kind_of
reboot-legal = (recorded_is_recomputed alone (reboot ∷ refetched) alone-opens).1 refl

reboot-resets : reset_by reboot.op reboot.reply ≡ Some cold
unfolding call_of reset_kind_of
reboot-resets = refl

reboot-fresh : IsFresh alone cold refetched (reboot ∷ refetched)
reboot-fresh = resets_are_fresh alone reboot refetched cold reboot-legal reboot-resets
