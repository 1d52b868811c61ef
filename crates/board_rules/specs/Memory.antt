-- The memory, satp, and the harts' caches (Privileged 4.1.11, 4.2, 4.3; Zifencei).
use Rattle.std.specs.Prelude.{ℕ, List, [], ◌∷◌, Bool, if◌then◌else◌, Option, Some, None, option_map, unwrap_or}
use Rattle.amo.specs.declared.amo.Amo.{Amo}
use Rattle.amo.specs.Amos.{new_word, amo_size}
use Rattle.amo.specs.Parts.{word_at}
use Rattle.sbi_abi.specs.declared.reset.Reset.{Reset}
use Rattle.rfence.specs.Applied.{Effect, Nothing, Drops, Empties, effect}
use Rattle.sv39.specs.Memory.{word_in, written, zero_memory}
use Rattle.sv39.specs.Satp.{asid_of, satp_of_write}
use Rattle.tlb_model.specs.declared.caches.Caches.{Caches}
use Rattle.tlb_model.specs.declared.entry.Address.{Address}
use Rattle.tlb_model.specs.declared.fence.Flush.{Flush}
use Rattle.tlb_model.specs.declared.word.FetchWord.{FetchWord}
use Rattle.tlb_model.specs.Acts as acts
use Rattle.tlb_model.specs.Acts.{Act, cache_after, last_live}
use Rattle.tlb_model.specs.Entries.{Entry, covers_entry, matches}
use Rattle.tlb_model.specs.Words.{covers_word, is_at}
use Rattle.hart_access.specs.Accesses.{fetched_from}
use Rattle.hart_access.specs.Ways.{phys_at}
use Rattle.board_terms.specs.declared.config.Config.{Config}
use Rattle.board_rules.specs.Opening.{Opening, opened_satp, tlb_at, words_at}
use Rattle.board_terms.specs.declared.op.Op.{Op}
use Rattle.board_terms.specs.declared.op.Op.TheVariants as ops
use Rattle.board_terms.specs.declared.reply.Reply.{Reply}
use Rattle.board_terms.specs.declared.reply.Reply.TheVariants as replies
use Rattle.board_rules.specs.Course.{is_hart}
use Rattle.board_rules.specs.Fences.{turn_of, turns}
use Rattle.board_rules.specs.History.{Event}
use Rattle.board_terms.specs.Limits.{spaces_of}
use Rattle.board_rules.specs.Resets.{is_cold, reset_by}
use Rattle.board_rules.specs.Writes.{Write, Here, at_reset, latest}

-- ---- satp

-- The value that an event writes to satp: a guest's (Privileged 4.1.11), 0 at each entry (SBI 9.1, 9.4), and 0 at every
-- hart at a reset (profile).
abbrev pub satp_by : Config → Op → Reply → Option (Write ℕ)
satp_by c (ops.WriteSatp value) reply = option_map Here (satp_of_write (spaces_of c) value)
satp_by c ops.Advance (replies.Entry addr hart opaque) = Some (Here 0)
satp_by c op reply = at_reset (reset_by op reply) 0

-- satp of a hart, as its last write, entry or reset left it, or the opening's if there was none. A write of a MODE that
-- the board doesn't implement has no effect.
abbrev pub satp : Opening → List Event → ℕ → ℕ
satp o [] h = opened_satp o h
satp o (event ∷ past) h = latest (satp_by o.config event.op event.reply) (is_hart h event.actor) (satp o past h)

-- a virtual address in satp's address space
abbrev pub address_by : (satp va : ℕ) → Address
address_by satp va = record { va = va; asid = asid_of satp }

-- ---- memory

-- a stored word, and its physical address
pub record Storing : Type 0 where
  pub at : ℕ
  pub value : ℕ

-- an AMO on a word, with the word's physical address and the AMO's own address
pub record Changing : Type 0 where
  pub word : ℕ
  pub at : ℕ
  pub amo : Amo

-- a write to the memory: of one word, of what an AMO makes of a word, or of 0 to every word
pub data Writing : Type 0 where
  Stored : Storing → Writing
  Changed : Changing → Writing
  Zeroed : Writing

-- A cold reboot writes 0 into every word (profile).
abbrev pub zeroed_by : Option Reset → Option Writing
zeroed_by None = None
zeroed_by (Some reset) = if is_cold reset.kind then Some Zeroed else None

-- what an AMO writes, by the entry that it used
abbrev pub changed_by : (at : ℕ) → Amo → Option Entry → Writing
changed_by at amo used = Changed (record { word = phys_at used (word_at (amo_size amo) at); at = at; amo = amo })

-- A store that is Done writes its word at its physical address. An AMO writes its word if it gave the old value, or is
-- Done.
abbrev pub writing_by : Op → Reply → Option Entry → Option Writing
writing_by (ops.Store va value) replies.Done used = Some (Stored (record { at = phys_at used va; value = value }))
writing_by (ops.Amo at amo) replies.Done used = Some (changed_by at amo used)
writing_by (ops.Amo at amo) (replies.Value old) used = Some (changed_by at amo used)
writing_by op reply used = zeroed_by (reset_by op reply)

abbrev pub written_by : Config → Option Writing → (ℕ → Option ℕ) → ℕ → Option ℕ
written_by c None memory = memory
written_by c (Some (Stored storing)) memory = written memory storing.at storing.value
written_by c (Some (Changed changing)) memory =
    written memory changing.word (new_word changing.amo changing.at (unwrap_or (memory changing.word) 0))
written_by c (Some Zeroed) memory = zero_memory c.pages

-- The word at a physical address, if the RAM has one: the opening's, until a store or an AMO writes there, or a cold
-- reboot makes it 0 (profile).
abbrev pub memory : Opening → List Event → ℕ → Option ℕ
memory o [] = word_in o.ram
memory o (event ∷ past) = written_by o.config (writing_by event.op event.reply event.translation) (memory o past)

-- ---- caches

-- what an event does to one cache of a hart, from its effect on the hart's caches and the item that it fills
abbrev pub act_by : {E : Type 0} → Effect Flush → Option E → Act E
act_by Nothing None = acts.Nothing
act_by Nothing (Some item) = acts.Fill item
act_by (Drops flush) filling = acts.Drop flush
act_by Empties filling = acts.Clear

-- the item that is filled: a hart fills only its own caches
abbrev pub own_filling : {E : Type 0} → (own : Bool) → Option E → Option E
own_filling own None = None
own_filling own (Some item) = if own then Some item else None

-- the entry that an access fills: the one that it used, if it hit none
abbrev pub filling_of : (hit used : Option Entry) → Option Entry
filling_of None used = used
filling_of (Some entry) used = None

-- The entry that an address hits: the live entry that matches the address in its address space, and was filled last
-- (profile).
abbrev pub hit_in : Opening → (h : ℕ) → List (Act Entry) → Address → Option Entry
hit_in o h acts at = last_live o.places (tlb_at o h) covers_entry matches at acts

-- The entry that an access fills: the one that it used, if it hit none.
abbrev pub entry_filling : Op → (used : Option Entry) → (satp : ℕ) → (hit : Address → Option Entry) → Option Entry
entry_filling (ops.Load va) used satp hit = filling_of (hit (address_by satp va)) used
entry_filling (ops.Store va value) used satp hit = filling_of (hit (address_by satp va)) used
entry_filling (ops.Fetch va) used satp hit = filling_of (hit (address_by satp va)) used
entry_filling (ops.Amo at amo) used satp hit = filling_of (hit (address_by satp (word_at (amo_size amo) at))) used
entry_filling op used satp hit = None

-- What happened to a hart's TLB since the opening, newest first: one act for each event.
abbrev pub tlb_acts : Opening → List Event → ℕ → List (Act Entry)
tlb_acts o [] h = []
tlb_acts o (event ∷ past) h =
    act_by (effect o.fences (turns o past) (turn_of o past event.actor event.op event.reply) h)
    (own_filling (is_hart h event.actor)
    (entry_filling event.op event.translation (satp o past h) (hit_in o h (tlb_acts o past h))))
    ∷ tlb_acts o past h

-- the live word of a physical address that was fetched last
abbrev pub cached_in : Opening → (h : ℕ) → List (Act FetchWord) → (pa : ℕ) → Option FetchWord
cached_in o h acts pa = last_live o.places (words_at o h) covers_word is_at pa acts

-- The word that a fetch fills: if it doesn't fail, and the cache has none of the address, the memory's.
abbrev pub word_filling : Op → Reply → (used : Option Entry) → (memory : ℕ → Option ℕ)
    → (cached : ℕ → Option FetchWord) → Option FetchWord
word_filling (ops.Fetch va) (replies.Value value) used memory cached =
    fetched_from (cached (phys_at used va)) (phys_at used va) (unwrap_or (memory (phys_at used va)) 0)
word_filling op reply used memory cached = None

-- What happened to a hart's instruction cache since the opening, newest first: one act for each event.
abbrev pub word_acts : Opening → List Event → ℕ → List (Act FetchWord)
word_acts o [] h = []
word_acts o (event ∷ past) h =
    act_by (effect o.fences (turns o past) (turn_of o past event.actor event.op event.reply) h)
    (own_filling (is_hart h event.actor)
    (word_filling event.op event.reply event.translation (memory o past) (cached_in o h (word_acts o past h))))
    ∷ word_acts o past h

-- The caches of a hart: the opening's caches after what happened to them since.
abbrev pub caches_of : Opening → List Event → ℕ → Caches
caches_of o past h = record {
  tlb = cache_after o.places (tlb_at o h) covers_entry (tlb_acts o past h);
  words = cache_after o.places (words_at o h) covers_word (word_acts o past h);
}
