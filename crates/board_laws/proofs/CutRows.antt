-- Worked rows of histories that were cut, so that no law of cuts speaks of nothing.
use Rattle.std.proofs.Common.{◌≡◌, ℕ, suc, List, [], ◌∷◌, ◌++◌, true, refl, sym, ap, ◌∙◌, arith, ◌<◌, Some, None, Err}
use Rattle.sbi_abi.specs.Calls.{call_of}
use Rattle.hart_mask.specs.HartList.{names_stray, targets_of}
use Rattle.hart_mask.specs.Ids.{ids_where}
use Rattle.sv39.specs.Maps.{maps}
use Rattle.sv39.specs.Memory.{is_in_ram, word_in, zero_memory}
use Rattle.sv39.specs.Paging.{is_valid_by}
use Rattle.tlb_model.specs.declared.cache.Numbered.{Numbered}
use Rattle.tlb_model.specs.declared.fence.Flush.{Flush}
use Rattle.tlb_model.specs.declared.fence.Flush.TheVariants.{Entries, Words}
use Rattle.tlb_model.specs.Entries.{Entry as CacheEntry, covers_entry}
use Rattle.rfence.specs.declared.opened.FenceCall.{FenceCall}
use Rattle.rfence.specs.Opening.{called_at}
use Rattle.board_terms.specs.declared.op.Actor.TheVariants.{Hart}
use Rattle.board_terms.specs.declared.op.Op.TheVariants.{Advance, Ecall, FenceI, Poll, Serve, Store, WriteSatp}
use Rattle.board_terms.specs.declared.reply.Refusal.TheVariants.{HistoryFull}
use Rattle.board_terms.specs.declared.reply.Reply.TheVariants.{Done, Entry, Served, Waiting}
use Rattle.board_terms.specs.Limits.{IsGood}
use Rattle.board_core.specs.Cuts.{IsOpened, opening_of}
use Rattle.board_core.specs.History.{Event}
use Rattle.board_core.specs.Opening.{Opening, opening_at}
use Rattle.board_core.specs.Replies.{IsLegal, answer}
use Rattle.board_core.specs.Resets.{reset_by}
use Rattle.board_core.proofs.Beginning.{opens}
use Rattle.board_laws.specs.Fences.{Itself, OpenedReached, Reached}
use Rattle.board_laws.specs.Limits.{with_limit}
use Rattle.board_laws.specs.Lives.{NoneLives, live_entries}
use Rattle.board_laws.specs.Places.{IsAtPlace, past_at}
use Rattle.board_laws.specs.Seams.{AreLegal, AreOne, joined, left_by}
use Rattle.board_laws.proofs.Again.{recorded_is_recomputed}
use Rattle.board_laws.proofs.FencedRows.{did, first_reset, loaded, mapped, in_space, range_fence, range_regs, success, two, two-good, two-opened, two-opens}
use Rattle.board_laws.proofs.OpenCalls.{fences_outlast_cuts, opened_is_gone}
use Rattle.board_laws.proofs.Parting.{joined-are-one, parted-are-seamless}
use Rattle.board_laws.proofs.Places.{at-with}

-- ---- the history is cut while a fence call is open, and a translation that it covers lives

abbrev until_cut : List Event
until_cut =
    did 0 (Ecall range_regs) Waiting
    ∷ loaded 1
    ∷ did 1 (WriteSatp in_space) Done
    ∷ did 0 (Store 0x80001010 0x200000cf) Done
    ∷ did 1 Advance (Entry 0x80000000 1 0)
    ∷ did 0 (Ecall (record { eid = 0x48534d; fid = 0; a = 1 ∷ 0x80000000 ∷ 0 ∷ 0 ∷ 0 ∷ 0 ∷ [] })) success
    ∷ did 0 Advance (Entry 0x80000000 0 0)
    ∷ []

abbrev since_cut : List Event
since_cut = did 0 Poll success ∷ did 1 Serve Served ∷ []

abbrev after_cut : Opening
after_cut = opening_of two until_cut

cut-legal : IsLegal two (since_cut ++ until_cut)
unfolding maps is_valid_by word_in zero_memory is_in_ram call_of targets_of names_stray ids_where
cut-legal = (recorded_is_recomputed two (since_cut ++ until_cut) two-opens).1 refl

-- the call is open at the cut, and the translation lives
abbrev open_call : FenceCall Flush
open_call = record { place = 6; asked = 1 ∷ []; flush = Entries range_fence }

call-kept : called_at after_cut.fences 0 ≡ Some open_call
unfolding call_of targets_of names_stray ids_where
call-kept = refl

entry-lives : live_entries two until_cut 1 ≡ (let one : Numbered CacheEntry = record { date = 5; number = 0; item = mapped } in one) ∷ []
unfolding maps is_valid_by word_in zero_memory is_in_ram call_of targets_of names_stray ids_where
entry-lives = refl

-- and the fence covers it
is-covered : covers_entry (Entries range_fence) mapped ≡ true
is-covered = refl

after-opened : IsOpened after_cut
after-opened = record { cuts = 1; opens = (two, until_cut, (two-good, refl), cut-legal.2.2, refl) }

no-reset : (m : ℕ) (other : Event) → 6 < m → m < 8 → IsAtPlace after_cut since_cut m other → reset_by other.op other.reply ≡ None
no-reset m other after before at =
    let place : m ≡ 7 = omega arith in
    sym (ap first_reset (at-with after_cut since_cut m other at)) ∙ ap (λ n. first_reset (past_at after_cut since_cut (suc n))) place

open-reached : OpenedReached after_cut since_cut 0 1 open_call
open-reached = record {
  called = call-kept;
  asked = refl;
  succeeded = record {
    end = 8;
    later = omega arith;
    event = did 0 Poll success;
    happened = record { since = omega arith; newer = []; made = refl };
    by_hart = refl;
    poll = refl;
    kept = no-reset;
  };
}

-- so it is gone after the poll, which came behind the cut
open-gone : NoneLives after_cut since_cut 1 6 (Entries range_fence)
open-gone = opened_is_gone after_cut since_cut 0 1 open_call after-opened (parted-are-seamless two since_cut until_cut two-opened cut-legal).legal open-reached

-- what the hart fills later lives, although the fence covers it
later-lives : live_entries two (loaded 1 ∷ since_cut ++ until_cut) 1 ≡ (let one : Numbered CacheEntry = record { date = 9; number = 1; item = mapped } in one) ∷ []
unfolding maps is_valid_by word_in zero_memory is_in_ram call_of targets_of names_stray ids_where
later-lives = refl

-- ---- a history that was cut more often than its limit lets it be long

abbrev tight : Opening
tight = opening_at (record { harts = 1; pages = 1; limit = 1; boot_hart = 0; boot_addr = 0x80000000; boot_opaque = 0; asid_len = 16; width = 39 })

tight-good : IsGood tight.config
tight-good = record {
  some_harts = omega arith;
  at_most_128_harts = omega arith;
  some_pages = omega arith;
  at_most_256_pages = omega arith;
  some_room = omega arith;
  at_most_a_million_events = omega arith;
  boot_hart_is_there = omega arith;
  boot_address = refl;
  at_most_16_bits_of_an_asid = omega arith;
  width_of_a_mode = refl;
}

tight-opened : IsOpened tight
tight-opened = record { cuts = 0; opens = (tight-good, refl) }

abbrev entered : List Event
entered = did 0 Advance (Entry 0x80000000 0 0) ∷ []

abbrev fenced : List Event
fenced = did 0 FenceI Done ∷ []

-- each part has one event
parts-legal : AreLegal tight (fenced ∷ fenced ∷ entered ∷ [])
parts-legal =
    let first : IsLegal tight entered = (refl, refl, opens tight.config tight-good) in
    let second : IsLegal (opening_of tight entered) fenced = (refl, refl, (parted-are-seamless tight [] entered tight-opened first).legal) in
    let third : IsLegal (opening_of (opening_of tight entered) fenced) fenced =
    (refl, refl, (parted-are-seamless (opening_of tight entered) [] fenced (record { cuts = 1; opens = (tight, entered, (tight-good, refl), first, refl) }) second).legal) in
    (third, (second, (first, tt)))

-- together they are more than the limit lets be
too-many : answer tight entered (Hart 0) FenceI ≡ Err HistoryFull
too-many = refl

are-one : AreOne tight fenced (fenced ∷ entered ∷ [])
are-one = joined-are-one tight fenced (fenced ∷ entered ∷ []) tight-opened parts-legal

long-legal : IsLegal (with_limit 3 tight) (fenced ++ fenced ++ entered)
long-legal = are-one.legal 3 (omega arith)

-- and a fence of the part before covers what was filled before it
before-reached : Reached tight (fenced ++ joined (fenced ∷ entered ∷ [])) 0 1 Words
before-reached = Itself (record { event = did 0 FenceI Done; happened = record { since = omega arith; newer = fenced; made = refl }; by_hart = refl; fences = refl })

before-gone : NoneLives (left_by tight (fenced ∷ entered ∷ [])) fenced 0 1 Words
before-gone = fences_outlast_cuts tight fenced (fenced ∷ entered ∷ []) 0 1 Words tight-opened parts-legal before-reached
