-- The memory after an accepted event is that of a RAM, as it was before.
use Rattle.std.proofs.Common.{◌≡◌, ℕ, ◌+◌, ◌-◌, ◌/◌, ◌*◌, ◌^◌, ◌<◌, ◌≤◌, Bool, true, false, List, length, set, replicate, subst, refl, sym, ap, ◌∙◌, arith, inl, inr, Option, Some, None, Result, Ok, Err}
use Rattle.std.specs.Prelude.{is_some, nat_le, unwrap_or}
use Rattle.std.proofs.lemmas.Bool.{cases_lt}
use Rattle.std.proofs.lemmas.List.{length-replicate, length-set}
use Rattle.amo.specs.declared.amo.Amo.{Amo as AnAmo}
use Rattle.amo.specs.Amos.{new_word, amo_size}
use Rattle.amo.specs.Parts.{word_at as around}
use Rattle.sbi_abi.specs.declared.reset.Reset.{Reset}
use Rattle.sv39.specs.declared.cause.Cause.{Cause}
use Rattle.sv39.specs.declared.cause.Kind.{Kind}
use Rattle.sv39.specs.declared.cause.Kind.TheVariants as kinds
use Rattle.sv39.specs.declared.ram.TheConstants.{PAGE_WORDS, RAM_START}
use Rattle.sv39.specs.Memory.{IsRam, pages_of, word_in, written, zero_memory}
use Rattle.sv39.proofs.Words.{nat_tests, stands, word_at, word_in-cleared, word_in-set}
use Rattle.tlb_model.specs.Entries.{Entry}
use Rattle.hart_access.specs.declared.accesses.Access.TheVariants as accesses
use Rattle.hart_access.specs.AccessKinds.{kind_of}
use Rattle.hart_access.specs.Accesses as whole
use Rattle.hart_access.specs.Ways.{in_memory, phys_at, phys_by}
use Rattle.hart_access.proofs.Used.{place_of_used}
use Rattle.board_rules.specs.Accesses.{access_reply_of, cached, hit, used_by_actor}
use Rattle.board_terms.specs.declared.op.Actor.{Actor}
use Rattle.board_terms.specs.declared.op.Actor.TheVariants.{Hart, Clock}
use Rattle.board_terms.specs.declared.op.Op.{Op}
use Rattle.board_terms.specs.declared.op.Op.TheVariants.{Store, Amo}
use Rattle.board_terms.specs.declared.reply.Reply.{Reply}
use Rattle.board_terms.specs.declared.reply.Reply.TheVariants.{Value, Fault, Done}
use Rattle.board_rules.specs.History.{Event}
use Rattle.board_rules.specs.Memory.{changed_by, memory, satp, writing_by, written_by, zeroed_by}
use Rattle.board_rules.specs.Opening.{Opening}
use Rattle.board_rules.specs.Refusals.{is_full, situation}
use Rattle.board_rules.specs.Replies.{answer, reply}
use Rattle.board_rules.specs.Resets.{is_cold, is_off, reset_by}
use Rattle.board_rules.proofs.Rows.{accepted, clock_ticks}

-- the words of a RAM of so many pages are the memory
pub record HasRam (pages : ℕ) (memory_now : ℕ → Option ℕ) : Type 0 where
  pub ram : List ℕ
  pub is_ram : IsRam ram
  pub size : pages_of ram ≡ pages
  pub words : word_in ram ≡ memory_now

as-long : (xs ys : List ℕ) → length xs ≡ length ys → IsRam ys → IsRam xs
as-long xs ys long is = record {
  whole = subst (λ n. n ≡ PAGE_WORDS * (n / PAGE_WORDS)) (sym long) is.whole;
  some = subst (λ n. 1 ≤ n / PAGE_WORDS) (sym long) is.some;
  limit = subst (λ n. n / PAGE_WORDS ≤ 256) (sym long) is.limit;
}

-- it is one after a store where it has a word, and after it is cleared
ram-stored : (pages at value : ℕ) (memory_now : ℕ → Option ℕ) → HasRam pages memory_now → is_some (memory_now at) ≡ true → HasRam pages (written memory_now at value)
ram-stored pages at value memory_now has there =
    let i = (at - RAM_START) / 8 in
    let long = length-set has.ram i value in
    record {
      ram = set has.ram i value;
      is_ram = as-long (set has.ram i value) has.ram long has.is_ram;
      size = ap (λ n. n / PAGE_WORDS) long ∙ has.size;
      words = word_in-set has.ram at value (stands has.ram at (ap (λ (words : ℕ → Option ℕ). is_some (words at)) has.words ∙ there))
          ∙ ap (λ (words : ℕ → Option ℕ). written words at value) has.words;
    }

ram-cleared : (pages : ℕ) (memory_now : ℕ → Option ℕ) → HasRam pages memory_now → HasRam pages (zero_memory pages)
ram-cleared pages memory_now has =
    let long = length-replicate (length has.ram) 0 in
    record {
      ram = replicate (length has.ram) 0;
      is_ram = as-long (replicate (length has.ram) 0) has.ram long has.is_ram;
      size = ap (λ n. n / PAGE_WORDS) long ∙ has.size;
      words = word_in-cleared has.ram has.is_ram ∙ ap zero_memory has.size;
    }

-- where an access is done the memory has a word
place-some : (memory_now : ℕ → Option ℕ) (kind : Kind) (found : Result ℕ Cause) (pa : ℕ) → in_memory memory_now kind found ≡ Ok pa → is_some (memory_now pa) ≡ true
place-some memory_now kind (Err cause) pa e = cc
place-some memory_now kind (Ok at) pa e = by_word (is_some (memory_now at)) refl e
  where
    by_word : (there : Bool) → is_some (memory_now at) ≡ there → in_memory memory_now kind (Ok at) ≡ Ok pa → is_some (memory_now pa) ≡ true
    by_word true is e =
        let same : at ≡ pa = (let found = rw is at e in cc) in
        ap (λ n. is_some (memory_now n)) (sym same) ∙ is
    by_word false is e = absurd (let failed = rw is at e in cc)

-- a store that is done has a place
record StoredAt (memory_now : ℕ → Option ℕ) (found : Result ℕ Cause) : Type 0 where
  pub pa : ℕ
  pub place : found ≡ Ok pa

stored-at : (memory_now : ℕ → Option ℕ) (words : ℕ → Option _) (found : Result ℕ Cause) (value : ℕ)
    → access_reply_of (accesses.Store value) (whole.answer_by memory_now words found (accesses.Store value)) ≡ Done → StoredAt memory_now found
stored-at memory_now words (Ok pa) value e = record { pa = pa; place = refl }
stored-at memory_now words (Err cause) value e = cc

-- and so has an AMO that isn't a fault
changed-at : (memory_now : ℕ → Option ℕ) (words : ℕ → Option _) (found : Result ℕ Cause) (at : ℕ) (amo : AnAmo) (r : Reply) → ((cause : Cause) → r ≡ Fault cause → ⊥)
    → access_reply_of (accesses.Amo at amo) (whole.answer_by memory_now words found (accesses.Amo at amo)) ≡ r → StoredAt memory_now found
changed-at memory_now words (Ok pa) at amo r well e = record { pa = pa; place = refl }
changed-at memory_now words (Err cause) at amo r well e = absurd (well cause (sym e))

module _ (o : Opening) (past : List Event) (has : HasRam o.config.pages (memory o past)) where
  by_reset : (reset : Option Reset) → HasRam o.config.pages (written_by o.config (zeroed_by reset) (memory o past))
  by_reset None = has
  by_reset (Some reset) = by_cold (is_cold reset.kind) refl
    where
      by_cold : (cold : Bool) → is_cold reset.kind ≡ cold → HasRam o.config.pages (written_by o.config (zeroed_by (Some reset)) (memory o past))
      by_cold true is = rw is (ram-cleared o.config.pages (memory o past) has)
      by_cold false is = rw is has

  -- after an AMO that isn't a fault
  amo-after : (x at : ℕ) (amo : AnAmo) (r : Reply) (translation : Option Entry) → ((cause : Cause) → r ≡ Fault cause → ⊥)
      → answer o past (Hart x) (Amo at amo) ≡ Ok r → translation ≡ used_by_actor o past (Hart x) (Amo at amo)
      → HasRam o.config.pages (written_by o.config (Some (changed_by at amo translation)) (memory o past))
  amo-after x at amo r translation well answered is =
      let va = around (amo_size amo) at in
      let what = accesses.Amo at amo in
      let replied = (accepted (is_off o past) (nat_le o.config.harts x) (situation o past x) (Amo at amo) (is_full o past) (reply o past x (Amo at amo)) r answered).1 in
      let found = changed-at (memory o past) (cached o past x) (whole.place (memory o past) (satp o past x) (hit o past x) va what) at amo r well replied in
      let way = whole.way_of (memory o past) (satp o past x) (hit o past x) va what in
      let here : found.pa ≡ phys_at translation va =
      place_of_used (memory o past) way va (kind_of what) found.pa found.place ∙ ap (λ u. phys_at u va) (sym is) in
      let there = place-some (memory o past) (kind_of what) (phys_by way va (kind_of what)) found.pa found.place in
      ram-stored o.config.pages (phys_at translation va) (new_word amo at (unwrap_or (memory o past (phys_at translation va)) 0)) (memory o past) has
      (subst (λ pa. is_some (memory o past pa) ≡ true) here there)

  -- after an event that was accepted
  pub ram-after : (actor : Actor) (op : Op) (r : Reply) (translation : Option Entry) → answer o past actor op ≡ Ok r → translation ≡ used_by_actor o past actor op
      → HasRam o.config.pages (written_by o.config (writing_by op r translation) (memory o past))
  ram-after (Hart x) (Store va value) Done translation answered is =
      let replied = (accepted (is_off o past) (nat_le o.config.harts x) (situation o past x) (Store va value) (is_full o past) (reply o past x (Store va value)) Done answered).1 in
      let found = stored-at (memory o past) (cached o past x) (whole.place (memory o past) (satp o past x) (hit o past x) va (accesses.Store value)) value replied in
      let way = whole.way_of (memory o past) (satp o past x) (hit o past x) va (accesses.Store value) in
      let at : found.pa ≡ phys_at translation va =
      place_of_used (memory o past) way va kinds.Store found.pa found.place ∙ ap (λ u. phys_at u va) (sym is) in
      let there = place-some (memory o past) kinds.Store (phys_by way va kinds.Store) found.pa found.place in
      ram-stored o.config.pages (phys_at translation va) value (memory o past) has (subst (λ pa. is_some (memory o past pa) ≡ true) at there)
  ram-after (Hart x) (Amo at amo) Done translation answered is = amo-after x at amo Done translation (λ cause e. cc) answered is
  ram-after (Hart x) (Amo at amo) (Value old) translation answered is = amo-after x at amo (Value old) translation (λ cause e. cc) answered is
  ram-after Clock (Amo at amo) Done translation answered is = absurd (clock_ticks o past (Amo at amo) Done refl answered)
  ram-after Clock (Amo at amo) (Value old) translation answered is = absurd (clock_ticks o past (Amo at amo) (Value old) refl answered)
  ram-after Clock (Store va value) Done translation answered is = absurd (clock_ticks o past (Store va value) Done refl answered)
  ram-after actor op r translation answered is = by_reset (reset_by op r)

-- words at the places of as many pages are those of a RAM, where they stand for what a RAM's do
pub same-ram : (xs ys : List ℕ) → word_in xs ≡ word_in ys → pages_of xs ≡ pages_of ys → IsRam ys → IsRam xs
same-ram xs ys same pages is =
    let end = RAM_START + 8 * length ys in
    let fits : end < 2 ^ 64 = omega (arith, is.whole, is.limit) in
    let agree = sym (word_at xs end fits) ∙ ap (λ (words : ℕ → Option ℕ). is_some (words end)) same ∙ word_at ys end fits in
    elim (cases_lt (length ys) (length xs)) [
      | inl more ↦ absurd (grind (arith, nat_tests, agree, more))
      | inr few ↦
          let long : length xs ≡ length ys = omega (arith, few, pages, is.whole) in
          as-long xs ys long is
    ]
