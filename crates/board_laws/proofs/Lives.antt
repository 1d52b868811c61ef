-- What lives was filled by an access of its hart, at its date.
use Rattle.std.proofs.Common.{◌≡◌, ℕ, ◌+◌, List, ◌∷◌, length, subst, refl, sym, ap, ◌∙◌, Option, Some, None, Result, Ok, Err, inl, inr}
use Rattle.std.specs.Prelude.{◌⊎◌, unwrap_or}
use Rattle.std.specs.List.{Contains}
use Rattle.std.proofs.lemmas.List.Elements.{All-weaker}
use Rattle.sv39.specs.declared.cause.Cause.{Cause}
use Rattle.amo.specs.Amos.{amo_size}
use Rattle.amo.specs.Parts.{word_at}
use Rattle.tlb_model.specs.declared.entry.Address.{Address}
use Rattle.tlb_model.specs.declared.word.FetchWord.{FetchWord}
use Rattle.tlb_model.specs.Acts.{Fill, WasFilled}
use Rattle.tlb_model.specs.declared.cache.Numbered.{Numbered}
use Rattle.tlb_model.specs.Entries.{Entry, covers_entry}
use Rattle.tlb_model.specs.Words.{covers_word}
use Rattle.tlb_model.proofs.Living.{live_was_filled}
use Rattle.hart_access.specs.declared.accesses.Access.{Access}
use Rattle.hart_access.specs.declared.accesses.Access.TheVariants as accesses
use Rattle.hart_access.specs.Accesses as whole
use Rattle.hart_access.specs.Translations.{Fetches, Fills, hit_at}
use Rattle.hart_access.specs.Ways.{phys_at}
use Rattle.hart_access.proofs.Used.{is_used, place_of_used, word_filled}
use Rattle.board_core.specs.Opening.{Opening, place_after, tlb_at, words_at}
use Rattle.board_terms.specs.declared.op.Actor.{Actor}
use Rattle.board_terms.specs.declared.op.Actor.TheVariants.{Hart}
use Rattle.board_terms.specs.declared.op.Op.{Op}
use Rattle.board_terms.specs.declared.op.Op.TheVariants.{Load, Store, Fetch, Amo}
use Rattle.board_terms.specs.declared.reply.Refusal.{Refusal}
use Rattle.board_terms.specs.declared.reply.Reply.{Reply}
use Rattle.board_terms.specs.declared.reply.Reply.TheVariants.{Value}
use Rattle.board_core.specs.Accesses.{access_reply, access_reply_of, cached, hit, used_by_access, used_by_actor}
use Rattle.board_core.specs.History.{Event, Reach, access_of}
use Rattle.board_core.specs.Memory.{address_by, entry_filling, filling_of, memory, satp, tlb_acts, word_acts, word_filling}
use Rattle.board_core.specs.Refusals.{first_that_holds, is_full, refusals}
use Rattle.board_core.specs.Replies.{IsLegal, answer, refused_or, reply}
use Rattle.board_laws.specs.Lives.{EntryWasFilled, LivesFromItsDate, WordWasFilled}
use Rattle.board_laws.proofs.Acts.{seen-of, one_tlb_act, one_word_act, entry-filled, length-seen, word-filled}
use Rattle.board_laws.proofs.Places.{at-split, legal-older, past_at-split}

-- ---- what an event's translation and reply say, in a legal history

refused-ok : (refusal : Option Refusal) (r answered : Reply) → refused_or refusal r ≡ Ok answered → r ≡ answered
refused-ok None r answered e = cc
refused-ok (Some refusal) r answered e = cc

-- an access by hart t used what the rule of accesses says
pub used-reach : (o : Opening) (older : List Event) (t : ℕ) (actor : Actor) (op : Op) (reach : Reach) → actor ≡ Hart t → access_of op ≡ Some reach
    → used_by_actor o older actor op ≡ whole.used (memory o older) (satp o older t) (hit o older t) reach.va reach.access
used-reach o older t actor op reach own access = ap (λ x. used_by_actor o older x op) own ∙ ap (used_by_access o older t) access

-- and answered what it says
reply-access : (o : Opening) (older : List Event) (t : ℕ) (op : Op) (reach : Reach) → access_of op ≡ Some reach → reply o older t op ≡ access_reply o older t reach.va reach.access
reply-access o older t (Load va) reach access =
    let same : (let made : Reach = record { va = va; access = accesses.Load } in made) ≡ reach = cc in
    ap (λ (x : Reach). access_reply o older t x.va x.access) same
reply-access o older t (Store va value) reach access =
    let same : (let made : Reach = record { va = va; access = accesses.Store value } in made) ≡ reach = cc in
    ap (λ (x : Reach). access_reply o older t x.va x.access) same
reply-access o older t (Fetch va) reach access =
    let same : (let made : Reach = record { va = va; access = accesses.Fetch } in made) ≡ reach = cc in
    ap (λ (x : Reach). access_reply o older t x.va x.access) same
reply-access o older t (Amo at amo) reach access =
    let same : (let made : Reach = record { va = word_at (amo_size amo) at; access = accesses.Amo at amo } in made) ≡ reach = cc in
    ap (λ (x : Reach). access_reply o older t x.va x.access) same
reply-access o older t op reach access = cc

pub answered-reach : (o : Opening) (older : List Event) (t : ℕ) (actor : Actor) (op : Op) (r : Reply) (reach : Reach) → actor ≡ Hart t → access_of op ≡ Some reach
    → answer o older actor op ≡ Ok r → r ≡ access_reply o older t reach.va reach.access
answered-reach o older t actor op r reach own access answered =
    sym (refused-ok (first_that_holds (refusals (is_full o older) o older t op)) (reply o older t op) r (ap (λ x. answer o older x op) (sym own) ∙ answered))
    ∙ reply-access o older t op reach access

-- ---- entries

-- an access that filled an entry had no hit, and used the entry
record FilledBy (op : Op) (used_entry : Option Entry) (satp_now : ℕ) (tlb : Address → Option Entry) (item : Entry) : Type 0 where
  reach : Reach
  access : access_of op ≡ Some reach
  missed : tlb (address_by satp_now reach.va) ≡ None
  is_used : used_entry ≡ Some item

filled-by : (op : Op) (used_entry : Option Entry) (satp_now : ℕ) (tlb : Address → Option Entry) (item : Entry) → entry_filling op used_entry satp_now tlb ≡ Some item
    → FilledBy op used_entry satp_now tlb item
filled-by (Load va) used_entry satp_now tlb item e = by_hit (tlb (address_by satp_now va)) refl e
  where
    by_hit : (found : Option Entry) → tlb (address_by satp_now va) ≡ found → filling_of found used_entry ≡ Some item → FilledBy (Load va) used_entry satp_now tlb item
    by_hit (Some other) is e = cc
    by_hit None is e = record { reach = record { va = va; access = accesses.Load }; access = refl; missed = is; is_used = e }
filled-by (Store va value) used_entry satp_now tlb item e = by_hit (tlb (address_by satp_now va)) refl e
  where
    by_hit : (found : Option Entry) → tlb (address_by satp_now va) ≡ found → filling_of found used_entry ≡ Some item → FilledBy (Store va value) used_entry satp_now tlb item
    by_hit (Some other) is e = cc
    by_hit None is e = record { reach = record { va = va; access = accesses.Store value }; access = refl; missed = is; is_used = e }
filled-by (Fetch va) used_entry satp_now tlb item e = by_hit (tlb (address_by satp_now va)) refl e
  where
    by_hit : (found : Option Entry) → tlb (address_by satp_now va) ≡ found → filling_of found used_entry ≡ Some item → FilledBy (Fetch va) used_entry satp_now tlb item
    by_hit (Some other) is e = cc
    by_hit None is e = record { reach = record { va = va; access = accesses.Fetch }; access = refl; missed = is; is_used = e }
filled-by (Amo at amo) used_entry satp_now tlb item e = by_hit (tlb (address_by satp_now (word_at (amo_size amo) at))) refl e
  where
    by_hit : (found : Option Entry) → tlb (address_by satp_now (word_at (amo_size amo) at)) ≡ found → filling_of found used_entry ≡ Some item → FilledBy (Amo at amo) used_entry satp_now tlb item
    by_hit (Some other) is e = cc
    by_hit None is e = record { reach = record { va = word_at (amo_size amo) at; access = accesses.Amo at amo }; access = refl; missed = is; is_used = e }
filled-by op used_entry satp_now tlb item e = cc

-- what is used without a hit is filled
fills-used : (memory_now : ℕ → Option ℕ) (satp_now : ℕ) (tlb : Address → Option Entry) (va : ℕ) (access : Access) (item : Entry)
    → whole.used memory_now satp_now tlb va access ≡ Some item → hit_at satp_now tlb va ≡ None → Fills memory_now satp_now tlb va access item
fills-used memory_now satp_now tlb va access item e missed = elim ((is_used memory_now satp_now tlb va access item).0 e) [
  | inl hits ↦ let found = hits.hit in absurd (cc)
  | inr fills ↦ fills
]

entry-was-filled : (o : Opening) (past : List Event) (t : ℕ) → IsLegal o past → (x : Numbered Entry) → WasFilled o.places (tlb_at o t) (tlb_acts o past t) x → EntryWasFilled o past t x
entry-was-filled o past t legal x was =
    let found = seen-of (λ past. tlb_acts o past t) (one_tlb_act o t) past was.newer (Fill x.item) was.older was.acted in
    let facts = entry-filled o t found.event found.older x.item found.same in
    let filled = filled-by found.event.op found.event.translation (satp o found.older t) (hit o found.older t) x.item facts.1 in
    let placed : place_after o found.older ≡ x.date = ap (λ n. o.places + n) (sym (length-seen (λ past. tlb_acts o past t) (one_tlb_act o t) found.older) ∙ ap length found.rest) ∙ was.dated in
    let was_legal : IsLegal o (found.event ∷ found.older) = legal-older o found.newer (found.event ∷ found.older) (subst (IsLegal o) found.made legal) in
    let entry_used = sym (used-reach o found.older t found.event.actor found.event.op filled.reach facts.0 filled.access) ∙ sym was_legal.1 ∙ filled.is_used in
    let fills = fills-used (memory o found.older) (satp o found.older t) (hit o found.older t) filled.reach.va filled.reach.access x.item entry_used filled.missed in
    let before = past_at-split o past found.newer found.event found.older x.date found.made placed in
    record {
      reach = filled.reach;
      made = record {
        event = found.event;
        happened = at-split o past found.newer found.event found.older x.date found.made placed;
        by_hart = facts.0;
        access = filled.access;
      };
      fills = subst (λ (older : List Event). Fills (memory o older) (satp o older t) (hit o older t) filled.reach.va filled.reach.access x.item) (sym before) fills;
    }

-- ---- words

-- a fetch that filled a word answered a value, and had no word cached
record WordFilledBy (op : Op) (r : Reply) (used_entry : Option Entry) (memory_now : ℕ → Option ℕ) (words : ℕ → Option FetchWord) (item : FetchWord) : Type 0 where
  va : ℕ
  value : ℕ
  fetch : op ≡ Fetch va
  answered : r ≡ Value value
  filled : whole.fetched_from (words (phys_at used_entry va)) (phys_at used_entry va) (unwrap_or (memory_now (phys_at used_entry va)) 0) ≡ Some item

word-filled-by : (op : Op) (r : Reply) (used_entry : Option Entry) (memory_now : ℕ → Option ℕ) (words : ℕ → Option FetchWord) (item : FetchWord)
    → word_filling op r used_entry memory_now words ≡ Some item → WordFilledBy op r used_entry memory_now words item
word-filled-by (Fetch va) (Value value) used_entry memory_now words item e = record { va = va; value = value; fetch = refl; answered = refl; filled = e }
word-filled-by (Fetch va) r used_entry memory_now words item e = cc
word-filled-by op r used_entry memory_now words item e = cc

-- an access that answers a value has a place
pub record ReadAt (memory_now : ℕ → Option ℕ) (words : ℕ → Option FetchWord) (found : Result ℕ Cause) (value : ℕ) : Type 0 where
  pub pa : ℕ
  pub place : found ≡ Ok pa
  pub read : whole.fetched_or (words pa) (unwrap_or (memory_now pa) 0) ≡ value

pub read-at : (memory_now : ℕ → Option ℕ) (words : ℕ → Option FetchWord) (found : Result ℕ Cause) (value : ℕ)
    → access_reply_of accesses.Fetch (whole.answer_by memory_now words found accesses.Fetch) ≡ Value value → ReadAt memory_now words found value
read-at memory_now words (Ok pa) value e = record { pa = pa; place = refl; read = cc }
read-at memory_now words (Err cause) value e = cc

-- a fetch that answers a value, in a legal history
pub record Fetched (o : Opening) (older : List Event) (t va value : ℕ) (translation : Option Entry) : Type 0 where
  pub place : whole.place (memory o older) (satp o older t) (hit o older t) va accesses.Fetch ≡ Ok (phys_at translation va)
  pub read : whole.fetched_or (cached o older t (phys_at translation va)) (unwrap_or (memory o older (phys_at translation va)) 0) ≡ value

pub fetched : (o : Opening) (older : List Event) (t va value : ℕ) (actor : Actor) (op : Op) (r : Reply) (translation : Option Entry)
    → actor ≡ Hart t → op ≡ Fetch va → r ≡ Value value → answer o older actor op ≡ Ok r → translation ≡ used_by_actor o older actor op → Fetched o older t va value translation
fetched o older t va value actor op r translation own fetch answered legal used_is =
    let access : access_of op ≡ Some (record { va = va; access = accesses.Fetch }) = ap access_of fetch in
    let replied = answered-reach o older t actor op r (record { va = va; access = accesses.Fetch }) own access legal in
    let found = read-at (memory o older) (cached o older t) (whole.place (memory o older) (satp o older t) (hit o older t) va accesses.Fetch) value (sym replied ∙ answered) in
    let used_entry = used_is ∙ used-reach o older t actor op (record { va = va; access = accesses.Fetch }) own access in
    let pa_is : found.pa ≡ phys_at translation va =
    place_of_used (memory o older) (whole.way_of (memory o older) (satp o older t) (hit o older t) va accesses.Fetch) va _ found.pa found.place ∙ ap (λ u. phys_at u va) (sym used_entry) in
    record {
      place = found.place ∙ ap (λ n. let r : Result ℕ Cause = Ok n in r) pa_is;
      read = subst (λ pa. whole.fetched_or (cached o older t pa) (unwrap_or (memory o older pa) 0) ≡ value) pa_is found.read;
    }

word-was-filled : (o : Opening) (past : List Event) (t : ℕ) → IsLegal o past → (x : Numbered FetchWord) → WasFilled o.places (words_at o t) (word_acts o past t) x → WordWasFilled o past t x
word-was-filled o past t legal x was =
    let found = seen-of (λ past. word_acts o past t) (one_word_act o t) past was.newer (Fill x.item) was.older was.acted in
    let facts = word-filled o t found.event found.older x.item found.same in
    let filled = word-filled-by found.event.op found.event.reply found.event.translation (memory o found.older) (cached o found.older t) x.item facts.1 in
    let placed : place_after o found.older ≡ x.date = ap (λ n. o.places + n) (sym (length-seen (λ past. word_acts o past t) (one_word_act o t) found.older) ∙ ap length found.rest) ∙ was.dated in
    let was_legal : IsLegal o (found.event ∷ found.older) = legal-older o found.newer (found.event ∷ found.older) (subst (IsLegal o) found.made legal) in
    let got = fetched o found.older t filled.va filled.value found.event.actor found.event.op found.event.reply found.event.translation facts.0 filled.fetch filled.answered was_legal.0 was_legal.1 in
    let fetches = (word_filled (memory o found.older) (satp o found.older t) (hit o found.older t) (cached o found.older t) filled.va accesses.Fetch x.item).0
    (ap (λ place. whole.word_filling_by (memory o found.older) (cached o found.older t) place accesses.Fetch) got.place ∙ filled.filled) in
    let before = past_at-split o past found.newer found.event found.older x.date found.made placed in
    record {
      reach = record { va = filled.va; access = accesses.Fetch };
      made = record {
        event = found.event;
        happened = at-split o past found.newer found.event found.older x.date found.made placed;
        by_hart = facts.0;
        access = ap access_of filled.fetch;
      };
      fetches = subst (λ (older : List Event). Fetches (memory o older) (satp o older t) (hit o older t) (cached o older t) filled.va accesses.Fetch x.item) (sym before) fetches;
    }

pub lives_from_its_date : (o : Opening) (past : List Event) (t : ℕ) → IsLegal o past → LivesFromItsDate o past t
lives_from_its_date o past t legal = record {
  entries = All-weaker (λ x. WasFilled o.places (tlb_at o t) (tlb_acts o past t) x ⊎ Contains (tlb_at o t).live x) (λ x. EntryWasFilled o past t x ⊎ Contains (tlb_at o t).live x)
      (λ x lives. elim lives [
        | inl was ↦ inl (entry-was-filled o past t legal x was)
        | inr before ↦ inr before
      ]) _ (live_was_filled o.places (tlb_at o t) covers_entry (tlb_acts o past t));
  words = All-weaker (λ x. WasFilled o.places (words_at o t) (word_acts o past t) x ⊎ Contains (words_at o t).live x) (λ x. WordWasFilled o past t x ⊎ Contains (words_at o t).live x)
      (λ x lives. elim lives [
        | inl was ↦ inl (word-was-filled o past t legal x was)
        | inr before ↦ inr before
      ]) _ (live_was_filled o.places (words_at o t) covers_word (word_acts o past t));
}
