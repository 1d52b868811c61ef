-- What an access does, by the way that it takes.
use Rattle.std.proofs.Common.{◌≡◌, ◌≢◌, ℕ, ◌%◌, Bool, true, false, not, List, refl, sym, ap, ◌∙◌}
use Rattle.std.specs.Prelude.{Option, Some, None, Result, Ok, Err, unwrap_or, ◌==◌, if◌then◌else◌}
use Rattle.std.proofs.lemmas.Option.{same_Some}
use Rattle.amo.specs.declared.amo.Amo.{Amo as AnAmo}
use Rattle.amo.specs.Amos.{new_word, reads, amo_size}
use Rattle.amo.specs.Parts.{word_at}
use Rattle.sv39.specs.declared.cause.Cause.{Cause}
use Rattle.sv39.specs.declared.cause.Kind.{Kind}
use Rattle.sv39.specs.declared.page.Leaf.{Leaf}
use Rattle.sv39.specs.Causes.{misaligned, page_fault}
use Rattle.sv39.specs.Maps.{maps}
use Rattle.sv39.specs.Memory.{written}
use Rattle.sv39.specs.Satp.{asid_of, is_valid, translates}
use Rattle.tlb_model.specs.declared.entry.Address.{Address}
use Rattle.tlb_model.specs.declared.word.FetchWord.{FetchWord}
use Rattle.tlb_model.specs.declared.fence.Flush.{Flush}
use Rattle.rfence.specs.Applied.{Nothing, effect}
use Rattle.tlb_model.specs.Acts as acts
use Rattle.tlb_model.specs.Acts.{acted}
use Rattle.tlb_model.specs.Contents.{Contents, filled_if}
use Rattle.tlb_model.specs.Entries.{Entry, covers_entry}
use Rattle.tlb_model.specs.Words.{covers_word}
use Rattle.hart_access.specs.declared.accesses.Access.{Access}
use Rattle.hart_access.specs.declared.accesses.Access.TheVariants.{Load, Store, Fetch, Amo}
use Rattle.hart_access.specs.declared.way.Way.{Way}
use Rattle.hart_access.specs.declared.way.Way.TheVariants.{Plain, Fault}
use Rattle.hart_access.specs.Accesses as whole
use Rattle.hart_access.specs.AccessKinds.{kind_of}
use Rattle.hart_access.specs.Ways.{fill_by, phys_at, place_by, used_by, way, way_by}
use Rattle.hart_access.proofs.Used.{place_of_used}
use Rattle.board_rules.specs.Accesses.{access_reply_of}
use Rattle.board_terms.specs.declared.config.Config.{Config}
use Rattle.board_rules.specs.Opening.{Opening}
use Rattle.board_terms.specs.declared.reply.Reply.{Reply}
use Rattle.board_terms.specs.declared.op.Op.TheVariants as ops
use Rattle.board_terms.specs.declared.reply.Reply.TheVariants.{Value, Done}
use Rattle.board_rules.specs.History.{Event, IsReach, Reach, access_op, using}
use Rattle.board_rules.specs.Fences.{turn_by, turns}
use Rattle.board_rules.specs.Memory.{act_by, address_by, changed_by, entry_filling, filling_of, own_filling, satp_by, word_filling, writing_by, written_by}
use Rattle.board_rules.proofs.Events.{deed, still}
use Rattle.board_rules.proofs.Caching.{filled-elsewhere}
use Rattle.board_rules.proofs.Tables.{eqb-other, eqb-same}

filled_by_act : {E : Type 0} (covers : Flush → E → Bool) (date : ℕ) (cache : Contents E) (own : Bool) → own ≡ true → (filling : Option E)
    → acted covers date cache (act_by Nothing (own_filling own filling)) ≡ filled_if cache date filling
filled_by_act covers date cache own is None = refl
filled_by_act covers date cache own is (Some item) = rw is refl

-- the word around an AMO's address is the one that its access is to
pub amo_at : (va at : ℕ) (amo : AnAmo) → IsReach va (Amo at amo) → word_at (amo_size amo) at ≡ va
amo_at va at amo is = ap (λ (reach : Reach). reach.va) (same_Some _ _ is)

-- what an AMO that isn't a fault writes
pub amo-written : (at old : ℕ) (amo : AnAmo) (used : Option Entry) → writing_by (ops.Amo at amo) (if reads amo then Value old else Done) used ≡ Some (changed_by at amo used)
amo-written at old amo used = by_reads (reads amo)
  where
    by_reads : (is : Bool) → writing_by (ops.Amo at amo) (if is then Value old else Done) used ≡ Some (changed_by at amo used)
    by_reads true = refl
    by_reads false = refl

module _ (o : Opening) (past : List Event) (h va : ℕ) (reply : Reply) where
  -- what the act of an access makes of the two caches of its hart
  pub tlb_by_act : (date : ℕ) (cache : Contents Entry) (what : Access) (used : Option Entry) (satp : ℕ) (hit : Address → Option Entry) → IsReach va what
      → acted covers_entry date cache (act_by (effect o.fences (turns o past) (turn_by o past h (access_op va what) reply) h) (own_filling (h == h) (entry_filling (access_op va what) used satp hit)))
      ≡ filled_if cache date (filling_of (hit (address_by satp va)) used)
  tlb_by_act date cache Load used satp hit is = filled_by_act covers_entry date cache _ (eqb-same h) (filling_of (hit (address_by satp va)) used)
  tlb_by_act date cache (Store value) used satp hit is = filled_by_act covers_entry date cache _ (eqb-same h) (filling_of (hit (address_by satp va)) used)
  tlb_by_act date cache Fetch used satp hit is = filled_by_act covers_entry date cache _ (eqb-same h) (filling_of (hit (address_by satp va)) used)
  tlb_by_act date cache (Amo at amo) used satp hit is =
      filled_by_act covers_entry date cache _ (eqb-same h) (filling_of (hit (address_by satp (word_at (amo_size amo) at))) used)
      ∙ ap (λ word. filled_if cache date (filling_of (hit (address_by satp word)) used)) (amo_at va at amo is)

  pub words_by_act : (date : ℕ) (cache : Contents FetchWord) (what : Access) (filling : Option FetchWord)
      → acted covers_word date cache (act_by (effect o.fences (turns o past) (turn_by o past h (access_op va what) reply) h) (own_filling (h == h) filling)) ≡ filled_if cache date filling
  words_by_act date cache Load filling = filled_by_act covers_word date cache _ (eqb-same h) filling
  words_by_act date cache (Store value) filling = filled_by_act covers_word date cache _ (eqb-same h) filling
  words_by_act date cache Fetch filling = filled_by_act covers_word date cache _ (eqb-same h) filling
  words_by_act date cache (Amo at amo) filling = filled_by_act covers_word date cache _ (eqb-same h) filling

  -- and of those of another hart
  pub nothing_elsewhere : {E : Type 0} (what : Access) (j : ℕ) (filling : Option E) → h ≢ j
      → act_by (effect o.fences (turns o past) (turn_by o past h (access_op va what) reply) j) (own_filling (j == h) filling) ≡ acts.Nothing
  nothing_elsewhere Load j filling other = ap (act_by Nothing) (ap (λ own. own_filling own filling) (eqb-other j h (λ e. other (sym e))) ∙ filled-elsewhere filling)
  nothing_elsewhere (Store value) j filling other = ap (act_by Nothing) (ap (λ own. own_filling own filling) (eqb-other j h (λ e. other (sym e))) ∙ filled-elsewhere filling)
  nothing_elsewhere Fetch j filling other = ap (act_by Nothing) (ap (λ own. own_filling own filling) (eqb-other j h (λ e. other (sym e))) ∙ filled-elsewhere filling)
  nothing_elsewhere (Amo at amo) j filling other = ap (act_by Nothing) (ap (λ own. own_filling own filling) (eqb-other j h (λ e. other (sym e))) ∙ filled-elsewhere filling)

-- an access touches nothing but the memory
pub memory_alone : (o : Opening) (past : List Event) (h va : ℕ) (what : Access) (reply : Reply) (used : Option Entry)
    → (let d = deed o past (using h (access_op va what) reply used) in d ≡ record still { memory = d.memory })
memory_alone o past h va Load reply used = refl
memory_alone o past h va (Store value) reply used = refl
memory_alone o past h va Fetch reply used = refl
memory_alone o past h va (Amo at amo) reply used = refl

pub no_satp : (c : Config) (va : ℕ) (what : Access) (reply : Reply) → satp_by c (access_op va what) reply ≡ None
no_satp c va Load reply = refl
no_satp c va (Store value) reply = refl
no_satp c va Fetch reply = refl
no_satp c va (Amo at amo) reply = refl

-- an access fills what it used, where it hit nothing
pub filled_unless_hit : (memory : ℕ → Option ℕ) (satp : ℕ) (tlb : Address → Option Entry) (va : ℕ) (kind : Kind)
    → filling_of (tlb (address_by satp va)) (used_by (way memory satp tlb va kind)) ≡ fill_by (way memory satp tlb va kind)
filled_unless_hit memory satp tlb va kind =
    by_tests (va % 8 == 0) (translates satp) (is_valid satp va) (tlb (address_by satp va)) (maps memory satp va kind)
  where
    by_tests : (aligned mode valid : Bool) (hit : Option Entry) (walked : Result Leaf Cause)
        → (let w = (if not aligned then Fault (misaligned kind) else if not mode then Plain else if not valid then Fault (page_fault kind) else way_by hit (asid_of satp) walked) in
        filling_of hit (used_by w) ≡ fill_by w)
    by_tests false mode valid None walked = refl
    by_tests false mode valid (Some entry) walked = refl
    by_tests true false valid None walked = refl
    by_tests true false valid (Some entry) walked = refl
    by_tests true true false None walked = refl
    by_tests true true false (Some entry) walked = refl
    by_tests true true true None (Ok leaf) = refl
    by_tests true true true None (Err cause) = refl
    by_tests true true true (Some entry) walked = refl

module _ (c : Config) (memory : ℕ → Option ℕ) (w : Way) (va : ℕ) where
  -- what it stores is told by its reply and by the entry that it used
  pub stored_as : (words : ℕ → Option FetchWord) (what : Access) → IsReach va what → (let place = place_by memory w va (kind_of what) in
      whole.stored_by memory place what ≡ written_by c (writing_by (access_op va what) (access_reply_of what (whole.answer_by memory words place what)) (used_by w)) memory)
  stored_as words Load is_reach = by_place (place_by memory w va (kind_of Load))
    where
      by_place : (place : Result ℕ Cause) → whole.stored_by memory place Load ≡ memory
      by_place (Ok pa) = refl
      by_place (Err cause) = refl
  stored_as words (Store value) is_reach = by_place (place_by memory w va (kind_of (Store value))) refl
    where
      by_place : (place : Result ℕ Cause) → place_by memory w va (kind_of (Store value)) ≡ place
          → whole.stored_by memory place (Store value)
          ≡ written_by c (writing_by (access_op va (Store value)) (access_reply_of (Store value) (whole.answer_by memory words place (Store value))) (used_by w)) memory
      by_place (Ok pa) is = ap (λ at. written memory at value) (place_of_used memory w va (kind_of (Store value)) pa is)
      by_place (Err cause) is = refl
  stored_as words Fetch is_reach = by_place (place_by memory w va (kind_of Fetch))
    where
      by_place : (place : Result ℕ Cause) → whole.stored_by memory place Fetch ≡ memory
      by_place (Ok pa) = refl
      by_place (Err cause) = refl
  stored_as words (Amo at amo) is_reach = by_place (place_by memory w va (kind_of (Amo at amo))) refl
    where
      by_place : (place : Result ℕ Cause) → place_by memory w va (kind_of (Amo at amo)) ≡ place
          → whole.stored_by memory place (Amo at amo)
          ≡ written_by c (writing_by (access_op va (Amo at amo)) (access_reply_of (Amo at amo) (whole.answer_by memory words place (Amo at amo))) (used_by w)) memory
      by_place (Ok pa) is =
          let here : pa ≡ phys_at (used_by w) (word_at (amo_size amo) at) =
          place_of_used memory w va (kind_of (Amo at amo)) pa is ∙ ap (phys_at (used_by w)) (sym (amo_at va at amo is_reach)) in
          ap (λ word. written memory word (new_word amo at (unwrap_or (memory word) 0))) here
          ∙ ap (λ writing. written_by c writing memory) (sym (amo-written at (whole.read_at memory words pa (Amo at amo)) amo (used_by w)))
      by_place (Err cause) is = refl

  -- and so is the word that it fetches
  pub fetched_as : (cached : ℕ → Option FetchWord) (what : Access) → (let place = place_by memory w va (kind_of what) in
      word_filling (access_op va what) (access_reply_of what (whole.answer_by memory cached place what)) (used_by w) memory cached ≡ whole.word_filling_by memory cached place what)
  fetched_as cached Load = by_place (place_by memory w va (kind_of Load))
    where
      by_place : (place : Result ℕ Cause) → None ≡ whole.word_filling_by memory cached place Load
      by_place (Ok pa) = refl
      by_place (Err cause) = refl
  fetched_as cached (Store value) = by_place (place_by memory w va (kind_of (Store value)))
    where
      by_place : (place : Result ℕ Cause) → None ≡ whole.word_filling_by memory cached place (Store value)
      by_place (Ok pa) = refl
      by_place (Err cause) = refl
  fetched_as cached (Amo at amo) = by_place (place_by memory w va (kind_of (Amo at amo)))
    where
      by_place : (place : Result ℕ Cause) → None ≡ whole.word_filling_by memory cached place (Amo at amo)
      by_place (Ok pa) = refl
      by_place (Err cause) = refl
  fetched_as cached Fetch = by_place (place_by memory w va (kind_of Fetch)) refl
    where
      by_place : (place : Result ℕ Cause) → place_by memory w va (kind_of Fetch) ≡ place
          → word_filling (access_op va Fetch) (access_reply_of Fetch (whole.answer_by memory cached place Fetch)) (used_by w) memory cached ≡ whole.word_filling_by memory cached place Fetch
      by_place (Ok pa) is = ap (λ at. whole.fetched_from (cached at) at (unwrap_or (memory at) 0)) (sym (place_of_used memory w va (kind_of Fetch) pa is))
      by_place (Err cause) is = refl
