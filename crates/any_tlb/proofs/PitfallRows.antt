-- Worked rows of what is easily forgotten: a stop, a former satp, pointers, fetched words, and calls that forget a hart.
use Rattle.std.proofs.Common.{◌≡◌, ℕ, ◌<◌, ◌≤◌, List, [], ◌∷◌, true, false, pos, refl, sym, ◌∙◌, subst, arith, Option, Some, None, Result, Ok, Err, inl, inr}
use Rattle.std.specs.Prelude.{replicate}
use Rattle.std.specs.List.{All}
use Rattle.std.proofs.lemmas.Bool.{cases_lt}
use Rattle.std.proofs.lemmas.List.Elements.{All-cons, All-head, All-nil}
use Rattle.sbi_abi.specs.declared.call.Regs.{Regs}
use Rattle.sbi_abi.specs.declared.reset.Reset.{Reset}
use Rattle.sbi_abi.specs.Calls.{call_of}
use Rattle.hart_mask.specs.HartList.{names_stray, targets_of}
use Rattle.hart_mask.specs.Ids.{ids_where}
use Rattle.rfence.specs.Applied.{Empties, effect}
use Rattle.sv39.specs.declared.cause.Cause.{Cause}
use Rattle.sv39.specs.declared.cause.Cause.TheVariants.{LoadPageFault}
use Rattle.sv39.specs.declared.cause.Kind.TheVariants as kinds
use Rattle.sv39.specs.declared.page.Leaf.{Leaf}
use Rattle.sv39.specs.declared.page.Level.TheVariants.{Mega}
use Rattle.sv39.specs.Maps.{maps}
use Rattle.sv39.specs.Memory.{is_in_ram, word_in, zero_memory}
use Rattle.sv39.specs.Paging.{is_valid_by}
use Rattle.tlb_model.specs.declared.fence.Fence.{Fence}
use Rattle.tlb_model.specs.Fences.{fence_of_range}
use Rattle.hart_access.specs.declared.accesses.Access.TheVariants as accesses
use Rattle.board_core.specs.Calls.Rfence.{flush_of_range}
use Rattle.board_core.specs.Fences.{turn_of, turns}
use Rattle.board_core.specs.History.{Event}
use Rattle.board_core.specs.Memory.{memory, satp}
use Rattle.board_core.specs.Opening.{IsOpening, Opening, opening_at}
use Rattle.board_core.specs.Replies.{IsLegal}
use Rattle.board_core.specs.Resets.{reset_by}
use Rattle.board_core.proofs.Beginning.{opens}
use Rattle.board_terms.specs.declared.op.Op.TheVariants.{Advance, Ecall, Fetch, FenceI, Load, Poll, Sfence, Store, WriteSatp}
use Rattle.board_terms.specs.declared.reply.Reply.{Reply}
use Rattle.board_terms.specs.declared.reply.Reply.TheVariants.{Done, Entry, Gone, Ret, Value, Waiting}
use Rattle.board_terms.specs.declared.op.Actor.TheVariants.{Hart}
use Rattle.board_terms.specs.Limits.{IsGood, spaces_of}
use Rattle.board_laws.specs.Places.{IsAtPlace, past_at}
use Rattle.board_laws.proofs.Again.{recorded_is_recomputed}
use Rattle.any_tlb.specs.Fenced.{AfterFence, IsUnchanged, WasFenced}
use Rattle.any_tlb.specs.Firm.{IsFirm}
use Rattle.any_tlb.specs.Mixed.{Mixed, MixedWalk}
use Rattle.any_tlb.specs.Possible.{Possible}
use Rattle.any_tlb.specs.Stale.{IsMissed, IsOtherThan, IsStale}
use Rattle.any_tlb.specs.Steady.{IsSteady, IsSteadyWord, phys_of}
use Rattle.any_tlb.specs.Watch.{watched}
use Rattle.any_tlb.specs.WatchedWords.{watched_words}
use Rattle.any_tlb.proofs.Fences.{fenced_is_steady}
use Rattle.any_tlb.proofs.Staleness.{missed_is_stale}
use Rattle.any_tlb.proofs.Watching.{watched_are_possible}
use Rattle.any_tlb.proofs.WatchingWords.{watched_words_decide}
use Rattle.any_tlb.proofs.WorkedRows.{alone, alone-opened, did, full, in_space, in_use, mapped, only, readable, used}

-- ---- a stop ends nothing, although this board empties its caches

abbrev stop_regs : Regs
stop_regs = record { eid = 0x48534d; fid = 1; a = 0 ∷ 0 ∷ 0 ∷ 0 ∷ 0 ∷ 0 ∷ [] }

abbrev stop : Event
stop = did 0 (Ecall stop_regs) Gone

board-empties : effect alone.fences (turns alone used) (turn_of alone used stop.actor stop.op stop.reply) 0 ≡ Empties
unfolding call_of
board-empties = refl

used-watched : watched alone used 0 0x80002000 ≡ replicate 9 mapped
unfolding maps is_valid_by word_in zero_memory is_in_ram
used-watched = refl

used-possible : Possible alone used 0 mapped
used-possible = All-head (Possible alone used 0) mapped (replicate 8 mapped) (subst (All (Possible alone used 0)) used-watched (watched_are_possible alone used 0 0x80002000))

pub stopped-possible : Possible alone (stop ∷ used) 0 mapped
unfolding call_of
stopped-possible = inr (used-possible, refl)

-- ---- a walk goes on under a former satp, until a fence covers what it gives

abbrev switched : List Event
switched = did 0 (Store 0x80001018 0x200000c3) Done ∷ did 0 (WriteSatp 0) Done ∷ in_use

switched-watched : watched alone switched 0 0xC0002000 ≡ readable ∷ []
unfolding maps is_valid_by word_in zero_memory is_in_ram
switched-watched = refl

pub former-possible : Possible alone switched 0 readable
former-possible = All-head (Possible alone switched 0) readable [] (subst (All (Possible alone switched 0)) switched-watched (watched_are_possible alone switched 0 0xC0002000))

pub former-ended : watched alone (full ∷ switched) 0 0xC0002000 ≡ []
unfolding maps is_valid_by word_in zero_memory is_in_ram
former-ended = refl

-- ---- a page table is taken from a pointer, and a fence of one leaf comes: steady, but not firm

-- two tables whose first leaves give other addresses; a pointer to the one, and then to the other
abbrev pointed : List Event
pointed =
    did 0 (WriteSatp in_space) Done
    ∷ did 0 (Store 0x80001018 0x20000801) Done
    ∷ did 0 (Store 0x80003000 0x200800c7) Done
    ∷ did 0 (Store 0x80002000 0x200000c7) Done
    ∷ did 0 (Store 0x80001010 0x200000cf) Done
    ∷ did 0 Advance (Entry 0x80000000 0 0)
    ∷ []

abbrev turned : List Event
turned = record { actor = Hart 0; op = Store 0x80001018 0x20000c01; reply = Done; translation = Some mapped } ∷ pointed

abbrev leaf_fence : Event
leaf_fence = did 0 (Sfence (Some 0xC0000000) None) Done

turned-fenced : (global : _) → WasFenced alone (leaf_fence ∷ turned) 0 0xC0000000 global 5 7
unfolding is_valid_by
turned-fenced global = record { event = leaf_fence; happened = record { since = omega arith; newer = []; made = refl }; fences = refl }

abbrev SameTurned : (had place : ℕ) → Type 0
SameTurned had place =
    phys_of (maps (memory alone (past_at alone (leaf_fence ∷ turned) place)) (satp alone (past_at alone (leaf_fence ∷ turned) had) 0) 0xC0000000 kinds.Load) 0xC0000000
    ≡ phys_of (maps (memory alone (leaf_fence ∷ turned)) (satp alone (leaf_fence ∷ turned) 0) 0xC0000000 kinds.Load) 0xC0000000

turned-unchanged : IsUnchanged alone (leaf_fence ∷ turned) 0 8 8 0xC0000000 kinds.Load
turned-unchanged = record {
  in_space = λ had place from later upto translates same. only 7 SameTurned refl had place from later upto;
  in_all = λ had place other leaf from later upto translates gives is. only 7 SameTurned refl had place from later upto;
}

pub turned-steady : IsSteady alone (leaf_fence ∷ turned) 0 0xC0000000 kinds.Load
turned-steady =
    fenced_is_steady alone (leaf_fence ∷ turned) 0 0xC0000000 8 8 kinds.Load alone-opened (AfterFence 7 refl (turned-fenced false)) (AfterFence 7 refl (turned-fenced true)) turned-unchanged

-- the leaf of the first table, which a walk by the old pointer still gives
abbrev behind : Leaf
behind = record { page = 0xC0000000; level = Mega; global = false; pa = 0x80000000; r = true; w = true; x = false; d = true }

old-pointer : MixedWalk alone (leaf_fence ∷ turned) 0 0xC0000000 kinds.Load (Ok behind)
unfolding maps is_valid_by word_in zero_memory is_in_ram
old-pointer = record {
  by_satp = in_space;
  met = false;
  sees = inl refl;
  space = inr refl;
  mode = refl;
  valid = refl;
  walk = inl (Some 0x20000801, refl, inr (inr (inl refl, refl), refl), inr (Some 0x200000c7, refl, inl (inl refl), refl, refl));
}

apart-leaves : (let r : Result ℕ Cause = Ok 0x80000000 in r) ≡ Ok 0x80200000 → ⊥
apart-leaves e = let n : ℕ = 0x80000000 in let same : n ≡ 0x80200000 = cc in omega (arith, same)

pub turned-not-firm : IsFirm alone (leaf_fence ∷ turned) 0 0xC0000000 kinds.Load → ⊥
unfolding maps is_valid_by word_in zero_memory is_in_ram
turned-not-firm firm = apart-leaves (firm (record { aligned = refl; mode = refl; valid = refl }) (Ok behind) (Mixed old-pointer))

-- ---- an entry that wasn't valid becomes a pointer, and a fence of the leaf comes: steady, but not firm

abbrev linked : List Event
linked =
    record { actor = Hart 0; op = Store 0x80001018 0x20000801; reply = Done; translation = Some mapped }
    ∷ did 0 (WriteSatp in_space) Done
    ∷ did 0 (Store 0x80002000 0x200000c7) Done
    ∷ did 0 (Store 0x80001010 0x200000cf) Done
    ∷ did 0 Advance (Entry 0x80000000 0 0)
    ∷ []

linked-fenced : (global : _) → WasFenced alone (leaf_fence ∷ linked) 0 0xC0000000 global 5 5
unfolding is_valid_by
linked-fenced global = record { event = leaf_fence; happened = record { since = omega arith; newer = []; made = refl }; fences = refl }

abbrev SameLinked : (had place : ℕ) → Type 0
SameLinked had place =
    phys_of (maps (memory alone (past_at alone (leaf_fence ∷ linked) place)) (satp alone (past_at alone (leaf_fence ∷ linked) had) 0) 0xC0000000 kinds.Load) 0xC0000000
    ≡ phys_of (maps (memory alone (leaf_fence ∷ linked)) (satp alone (leaf_fence ∷ linked) 0) 0xC0000000 kinds.Load) 0xC0000000

linked-unchanged : IsUnchanged alone (leaf_fence ∷ linked) 0 6 6 0xC0000000 kinds.Load
linked-unchanged = record {
  in_space = λ had place from later upto translates same. only 5 SameLinked refl had place from later upto;
  in_all = λ had place other leaf from later upto translates gives is. only 5 SameLinked refl had place from later upto;
}

pub linked-steady : IsSteady alone (leaf_fence ∷ linked) 0 0xC0000000 kinds.Load
linked-steady =
    fenced_is_steady alone (leaf_fence ∷ linked) 0 0xC0000000 6 6 kinds.Load alone-opened (AfterFence 5 refl (linked-fenced false)) (AfterFence 5 refl (linked-fenced true)) linked-unchanged

-- the word that stood there before, which a walk may still see
old-end : MixedWalk alone (leaf_fence ∷ linked) 0 0xC0000000 kinds.Load (Err LoadPageFault)
unfolding maps is_valid_by word_in zero_memory is_in_ram
old-end = record {
  by_satp = in_space;
  met = false;
  sees = inl refl;
  space = inr refl;
  mode = refl;
  valid = refl;
  walk = inr (Some 0, refl, inr (inl (inr (inl refl, refl), refl), refl), refl, refl);
}

pub linked-not-firm : IsFirm alone (leaf_fence ∷ linked) 0 0xC0000000 kinds.Load → ⊥
unfolding maps is_valid_by word_in zero_memory is_in_ram
linked-not-firm firm = apart (firm (record { aligned = refl; mode = refl; valid = refl }) (Err LoadPageFault) (Mixed old-end))
  where
    apart : (let r : Result ℕ Cause = Err LoadPageFault in r) ≡ Ok 0x80000000 → ⊥
    apart e = cc

-- ---- a word that was fetched is changed: another one is possible until a FENCE.I

abbrev rewritten : List Event
rewritten = did 0 (Store 0x80003000 7) Done ∷ did 0 (Fetch 0x80003000) (Value 0) ∷ did 0 Advance (Entry 0x80000000 0 0) ∷ []

rewritten-watched : watched_words alone rewritten 0 0x80003000 ≡ 0 ∷ 0 ∷ 0 ∷ 7 ∷ []
unfolding word_in zero_memory is_in_ram
rewritten-watched = refl

now-seven : memory alone rewritten 0x80003000 ≡ Some 7
unfolding word_in zero_memory is_in_ram
now-seven = refl

pub rewritten-not-steady : IsSteadyWord alone rewritten 0 0x80003000 → ⊥
rewritten-not-steady steady =
    let all = subst (All (λ word. memory alone rewritten 0x80003000 ≡ Some word)) rewritten-watched ((watched_words_decide alone rewritten 0 0x80003000).1 steady) in
    let first = All-head (λ word. memory alone rewritten 0x80003000 ≡ Some word) 0 (0 ∷ 0 ∷ 7 ∷ []) all in
    apart (sym now-seven ∙ first)
  where
    apart : (let word : Option ℕ = Some 7 in word) ≡ Some 0 → ⊥
    apart e = let n : ℕ = 7 in let same : n ≡ 0 = cc in omega (arith, same)

fenced-watched : watched_words alone (did 0 FenceI Done ∷ rewritten) 0 0x80003000 ≡ 7 ∷ []
unfolding word_in zero_memory is_in_ram
fenced-watched = refl

pub rewritten-steady : IsSteadyWord alone (did 0 FenceI Done ∷ rewritten) 0 0x80003000
rewritten-steady =
    let P = λ (word : ℕ). memory alone (did 0 FenceI Done ∷ rewritten) 0x80003000 ≡ Some word in
    (watched_words_decide alone (did 0 FenceI Done ∷ rewritten) 0 0x80003000).0 (subst (All P) (sym fenced-watched) (All-cons P 7 [] now-seven (All-nil P)))

-- ---- a fence call that forgets a hart: what that hart uses is missed

abbrev two : Opening
two = opening_at (record { harts = 2; pages = 16; limit = 1000; boot_hart = 0; boot_addr = 0x80000000; boot_opaque = 0; asid_len = 16; width = 39 })

two-good : IsGood two.config
two-good = record {
  some_harts = omega arith;
  at_most_128_harts = omega arith;
  some_pages = omega arith;
  at_most_256_pages = omega arith;
  some_room = omega arith;
  at_most_a_million_events = omega arith;
  boot_hart_is_there = omega arith;
  boot_address = refl;
  at_most_16_bits_of_an_asid = omega arith;
  width_of_a_mode = refl;
}

two-opens : IsOpening two
two-opens = opens two.config two-good

abbrev success : Reply
success = Ret (record { error = pos 0; value = 0 })

-- hart 0 names itself alone
abbrev fence_regs : Regs
fence_regs = record { eid = 0x52464e43; fid = 1; a = 1 ∷ 0 ∷ 0x80002000 ∷ 0x1000 ∷ 0 ∷ 0 ∷ [] }

abbrev page_fence : Fence
page_fence = fence_of_range (spaces_of two.config) 0x80002000 0x1000 None

abbrev loaded : Event
loaded = record { actor = Hart 1; op = Load 0x80002000; reply = Value 0; translation = Some mapped }

abbrev forgotten : List Event
forgotten =
    did 0 Poll success
    ∷ did 0 (Ecall fence_regs) Waiting
    ∷ did 0 (Store 0x80001010 0) Done
    ∷ loaded
    ∷ did 1 (WriteSatp in_space) Done
    ∷ did 0 (Store 0x80001010 0x200000cf) Done
    ∷ did 1 Advance (Entry 0x80000000 1 0)
    ∷ did 0 (Ecall (record { eid = 0x48534d; fid = 0; a = 1 ∷ 0x80000000 ∷ 0 ∷ 0 ∷ 0 ∷ 0 ∷ [] })) success
    ∷ did 0 Advance (Entry 0x80000000 0 0)
    ∷ []

-- this board does so
pub forgotten-legal : IsLegal two (loaded ∷ forgotten)
unfolding maps is_valid_by word_in zero_memory is_in_ram call_of targets_of names_stray ids_where
forgotten-legal = (recorded_is_recomputed two (loaded ∷ forgotten) two-opens).1 refl

abbrev Other : (satp_then m : ℕ) → Type 0
Other satp_then m = IsOtherThan (memory two (past_at two forgotten m)) satp_then 0x80002000 kinds.Load mapped

apart-faults : (let r : Result ℕ Cause = Ok 0x80002000 in r) ≡ Err LoadPageFault → ⊥
apart-faults e = cc

from-seven : (P : ℕ → Type 0) → P 7 → P 8 → P 9 → (m : ℕ) → 7 ≤ m → m ≤ 9 → P m
from-seven P seven eight nine m from upto = elim (cases_lt 7 m) [
  | inl above ↦ elim (cases_lt 8 m) [
    | inl last ↦ let e : m ≡ 9 = omega arith in rw e nine
    | inr second ↦ let e : m ≡ 8 = omega arith in rw e eight
  ]
  | inr first ↦ let e : m ≡ 7 = omega arith in rw e seven
]

abbrev first_reset : List Event → Option Reset
first_reset [] = None
first_reset (event ∷ past) = reset_by event.op event.reply

no-reset : (m : ℕ) (other : Event) → 7 < m → m < 8 → IsAtPlace two forgotten m other → reset_by other.op other.reply ≡ None
no-reset m other after before at = absurd (omega arith)

pub forgotten-missed : IsMissed two forgotten 1 loaded (record { va = 0x80002000; access = accesses.Load })
unfolding maps is_valid_by word_in zero_memory is_in_ram call_of targets_of names_stray ids_where
forgotten-missed = record {
  entry = mapped;
  uses = refl;
  caller = 0;
  place = 7;
  fence = page_fence;
  asked = record {
    event = did 0 (Ecall fence_regs) Waiting;
    happened = record { since = omega arith; newer = did 0 Poll success ∷ []; made = refl };
    by_hart = refl;
    regs = fence_regs;
    call = refl;
    accepted = refl;
    remote = record { mask = 1; base = 0; flush = flush_of_range (spaces_of two.config) 0x80002000 0x1000 None };
    fences = refl;
    drops = refl;
  };
  page = refl;
  space = refl;
  returned = record {
    end = 8;
    later = omega arith;
    event = did 0 Poll success;
    happened = record { since = omega arith; newer = []; made = refl };
    by_hart = refl;
    poll = refl;
    kept = no-reset;
  };
  other_then = from-seven (λ m. Other (satp two (past_at two forgotten m) 1) m) (λ e. apart-faults e) (λ e. apart-faults e) (λ e. apart-faults e);
  other_now = from-seven (λ m. Other (satp two forgotten 1) m) (λ e. apart-faults e) (λ e. apart-faults e) (λ e. apart-faults e);
}

pub forgotten-stale : IsStale two forgotten 1 loaded (record { va = 0x80002000; access = accesses.Load })
forgotten-stale = missed_is_stale two forgotten 1 loaded (record { va = 0x80002000; access = accesses.Load }) forgotten-missed
