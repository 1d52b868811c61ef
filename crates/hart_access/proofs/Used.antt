-- The entry that an access uses, its place and the word that it fetches.
use Rattle.std.proofs.Common.{◌≡◌, ℕ, ◌%◌, Bool, true, false, not, eqb, refl, sym, ap, ◌∙◌, Option, Some, None, Result, Ok, Err, inl, inr}
use Rattle.std.specs.Prelude.{◌↔◌, ◌⊎◌, is_some, unwrap_or, if◌then◌else◌}
use Rattle.std.proofs.lemmas.Bool.{eq-eqb, eqb-true}
use Rattle.sv39.specs.declared.cause.Cause.{Cause}
use Rattle.sv39.specs.declared.cause.Kind.{Kind}
use Rattle.sv39.specs.declared.page.Leaf.{Leaf}
use Rattle.sv39.specs.Causes.{access_fault, misaligned, page_fault}
use Rattle.sv39.specs.Leaves.{allows}
use Rattle.sv39.specs.Maps.{maps}
use Rattle.sv39.specs.Satp.{asid_of, is_valid, translates}
use Rattle.tlb_model.specs.declared.entry.Address.{Address}
use Rattle.tlb_model.specs.Entries.{Entry}
use Rattle.tlb_model.specs.declared.word.FetchWord.{FetchWord}
use Rattle.hart_access.specs.declared.accesses.Access.{Access}
use Rattle.hart_access.specs.declared.accesses.Access.TheVariants.{Load, Store, Fetch, Amo}
use Rattle.hart_access.specs.declared.way.Way.{Way}
use Rattle.hart_access.specs.declared.way.Way.TheVariants.{Plain, Hit, Fill, Fault}
use Rattle.hart_access.specs.Accesses.{fetched_from, filling, place, used, way_of, word_filling, word_filling_by}
use Rattle.hart_access.specs.AccessKinds.{kind_of}
use Rattle.hart_access.specs.Translations.{Fetches, Fills, Hits, IsTranslated, hit_at}
use Rattle.hart_access.specs.Ways.{fill_by, in_memory, phys_at, phys_by, phys_in, place_by, translated, used_by, way_by}

-- the checks before the translation
abbrev checked : (aligned mode valid : Bool) → (first second : Cause) → Way → Way
checked aligned mode valid first second way =
    if not aligned then Fault first else if not mode then Plain else if not valid then Fault second else way

record Passes (aligned mode valid : Bool) : Type 0 where
  aligned_to : aligned ≡ true
  in_mode : mode ≡ true
  is_right : valid ≡ true

used-checked : (a m v : Bool) (first second : Cause) (w : Way) (entry : Entry) → used_by (checked a m v first second w) ≡ Some entry → Passes a m v × (used_by w ≡ Some entry)
used-checked true true true first second w entry e = (record { aligned_to = refl; in_mode = refl; is_right = refl }, e)
used-checked true true false first second w entry e = cc
used-checked true false v first second w entry e = cc
used-checked false m v first second w entry e = cc

fill-checked : (a m v : Bool) (first second : Cause) (w : Way) (entry : Entry) → fill_by (checked a m v first second w) ≡ Some entry → Passes a m v × (fill_by w ≡ Some entry)
fill-checked true true true first second w entry e = (record { aligned_to = refl; in_mode = refl; is_right = refl }, e)
fill-checked true true false first second w entry e = cc
fill-checked true false v first second w entry e = cc
fill-checked false m v first second w entry e = cc

checked-passes : (a m v : Bool) (first second : Cause) (w : Way) → Passes a m v → checked a m v first second w ≡ w
checked-passes a m v first second w passes = rw (passes.aligned_to, passes.in_mode, passes.is_right) refl

-- what is filled was missed and mapped
record Mapped (hit : Option Entry) (asid : ℕ) (walked : Result Leaf Cause) (entry : Entry) : Type 0 where
  missed : hit ≡ None
  leaf : walked ≡ Ok entry.leaf
  space : entry.asid ≡ asid

fill-way : (hit : Option Entry) (asid : ℕ) (walked : Result Leaf Cause) (entry : Entry) → fill_by (way_by hit asid walked) ≡ Some entry → Mapped hit asid walked entry
fill-way (Some other) asid walked entry e = cc
fill-way None asid (Ok leaf) entry e =
    let same : (let made : Entry = record { leaf = leaf; asid = asid } in made) ≡ entry = cc in
    record { missed = refl; leaf = ap (λ (x : Entry). let r : Result Leaf Cause = Ok x.leaf in r) same; space = sym (ap (λ (x : Entry). x.asid) same) }
fill-way None asid (Err cause) entry e = cc

used-way : (hit : Option Entry) (asid : ℕ) (walked : Result Leaf Cause) (entry : Entry) → used_by (way_by hit asid walked) ≡ Some entry → (hit ≡ Some entry) ⊎ Mapped hit asid walked entry
used-way (Some other) asid walked entry e = inl e
used-way None asid (Ok leaf) entry e = inr (fill-way None asid (Ok leaf) entry e)
used-way None asid (Err cause) entry e = cc

filled-way : (hit : Option Entry) (asid : ℕ) (walked : Result Leaf Cause) (entry : Entry) → Mapped hit asid walked entry → way_by hit asid walked ≡ Fill entry
filled-way hit asid walked entry mapped = rw (mapped.missed, mapped.leaf, ← mapped.space) refl

module _ (memory : ℕ → Option ℕ) (satp : ℕ) (tlb : Address → Option Entry) (va : ℕ) where
  passed : Passes (eqb (va % 8) 0) (translates satp) (is_valid satp va) → IsTranslated satp va
  passed passes = record { aligned = eqb-true (va % 8) 0 passes.aligned_to; mode = passes.in_mode; valid = passes.is_right }

  passing : IsTranslated satp va → Passes (eqb (va % 8) 0) (translates satp) (is_valid satp va)
  passing is = record { aligned_to = eq-eqb (va % 8) 0 is.aligned; in_mode = is.mode; is_right = is.valid }

  module _ (access : Access) (entry : Entry) where
    filled_by : Mapped (hit_at satp tlb va) (asid_of satp) (maps memory satp va (kind_of access)) entry → IsTranslated satp va → Fills memory satp tlb va access entry
    filled_by mapped is = record { translated = is; missed = mapped.missed; mapped = mapped.leaf; space = mapped.space }

    mapped_by : Fills memory satp tlb va access entry → Mapped (hit_at satp tlb va) (asid_of satp) (maps memory satp va (kind_of access)) entry
    mapped_by fills = record { missed = fills.missed; leaf = fills.mapped; space = fills.space }

    pub is_filled : filling memory satp tlb va access ≡ Some entry ↔ Fills memory satp tlb va access entry
    is_filled = (there, back)
      where
        there : filling memory satp tlb va access ≡ Some entry → Fills memory satp tlb va access entry
        there e =
            let parts = fill-checked (eqb (va % 8) 0) (translates satp) (is_valid satp va) (misaligned (kind_of access)) (page_fault (kind_of access))
            (way_by (hit_at satp tlb va) (asid_of satp) (maps memory satp va (kind_of access))) entry e in
            filled_by (fill-way (hit_at satp tlb va) (asid_of satp) (maps memory satp va (kind_of access)) entry parts.1) (passed parts.0)

        back : Fills memory satp tlb va access entry → filling memory satp tlb va access ≡ Some entry
        back fills =
            ap fill_by
            (checked-passes (eqb (va % 8) 0) (translates satp) (is_valid satp va) (misaligned (kind_of access)) (page_fault (kind_of access))
            (way_by (hit_at satp tlb va) (asid_of satp) (maps memory satp va (kind_of access))) (passing fills.translated)
            ∙ filled-way (hit_at satp tlb va) (asid_of satp) (maps memory satp va (kind_of access)) entry (mapped_by fills))

    pub is_used : used memory satp tlb va access ≡ Some entry ↔ (Hits satp tlb va entry ⊎ Fills memory satp tlb va access entry)
    is_used = (there, back)
      where
        there : used memory satp tlb va access ≡ Some entry → Hits satp tlb va entry ⊎ Fills memory satp tlb va access entry
        there e =
            let parts = used-checked (eqb (va % 8) 0) (translates satp) (is_valid satp va) (misaligned (kind_of access)) (page_fault (kind_of access))
            (way_by (hit_at satp tlb va) (asid_of satp) (maps memory satp va (kind_of access))) entry e in
            elim (used-way (hit_at satp tlb va) (asid_of satp) (maps memory satp va (kind_of access)) entry parts.1) [
              | inl hit ↦ inl (record { translated = passed parts.0; hit = hit })
              | inr mapped ↦ inr (filled_by mapped (passed parts.0))
            ]

        all_checked : IsTranslated satp va
            → checked (eqb (va % 8) 0) (translates satp) (is_valid satp va) (misaligned (kind_of access)) (page_fault (kind_of access))
            (way_by (hit_at satp tlb va) (asid_of satp) (maps memory satp va (kind_of access))) ≡ way_by (hit_at satp tlb va) (asid_of satp) (maps memory satp va (kind_of access))
        all_checked is = checked-passes (eqb (va % 8) 0) (translates satp) (is_valid satp va) (misaligned (kind_of access)) (page_fault (kind_of access))
            (way_by (hit_at satp tlb va) (asid_of satp) (maps memory satp va (kind_of access))) (passing is)

        back : Hits satp tlb va entry ⊎ Fills memory satp tlb va access entry → used memory satp tlb va access ≡ Some entry
        back (inl hits) = ap used_by (all_checked hits.translated ∙ ap (λ hit. way_by hit (asid_of satp) (maps memory satp va (kind_of access))) hits.hit)
        back (inr fills) = ap used_by (all_checked fills.translated ∙ filled-way (hit_at satp tlb va) (asid_of satp) (maps memory satp va (kind_of access)) entry (mapped_by fills))

-- a place is a physical address with a word
in_memory-ok : (memory : ℕ → Option ℕ) (kind : Kind) (r : Result ℕ Cause) (pa : ℕ) → in_memory memory kind r ≡ Ok pa → (r ≡ Ok pa) × (is_some (memory pa) ≡ true)
in_memory-ok memory kind (Ok n) pa e = by_test (is_some (memory n)) refl e
  where
    by_test : (b : Bool) → is_some (memory n) ≡ b → (if b then Ok n else Err (access_fault kind)) ≡ Ok pa → ((let r : Result ℕ Cause = Ok n in r) ≡ Ok pa) × (is_some (memory pa) ≡ true)
    by_test true is found = let same : n ≡ pa = cc in (found, rw same at is)
    by_test false is found = cc
in_memory-ok memory kind (Err cause) pa e = cc

translated-ok : (leaf : Leaf) (va : ℕ) (kind : Kind) (pa : ℕ) → translated leaf va kind ≡ Ok pa → pa ≡ phys_in leaf va
translated-ok leaf va kind pa e = by_test (allows kind leaf) e
  where
    by_test : (b : Bool) → (if b then Ok (phys_in leaf va) else Err (page_fault kind)) ≡ Ok pa → pa ≡ phys_in leaf va
    by_test true found = cc
    by_test false found = cc

phys-used : (way : Way) (va : ℕ) (kind : Kind) (pa : ℕ) → phys_by way va kind ≡ Ok pa → pa ≡ phys_at (used_by way) va
phys-used Plain va kind pa e = cc
phys-used (Hit entry) va kind pa e = translated-ok entry.leaf va kind pa e
phys-used (Fill entry) va kind pa e = translated-ok entry.leaf va kind pa e
phys-used (Fault cause) va kind pa e = cc

pub place_of_used : (memory : ℕ → Option ℕ) (way : Way) (va : ℕ) (kind : Kind) (pa : ℕ) → place_by memory way va kind ≡ Ok pa → pa ≡ phys_at (used_by way) va
place_of_used memory way va kind pa e = phys-used way va kind pa (in_memory-ok memory kind (phys_by way va kind) pa e).0

-- the word that a fetch fills
from-missed : (hit : Option FetchWord) (pa word : ℕ) (fetched : FetchWord) → fetched_from hit pa word ≡ Some fetched → (hit ≡ None) × (pa ≡ fetched.pa) × (word ≡ fetched.word)
from-missed (Some other) pa word fetched e = cc
from-missed None pa word fetched e =
    let same : (let made : FetchWord = record { pa = pa; word = word } in made) ≡ fetched = cc in
    (refl, ap (λ (x : FetchWord). x.pa) same, ap (λ (x : FetchWord). x.word) same)

some-word : (word : Option ℕ) (n : ℕ) → is_some word ≡ true → unwrap_or word 0 ≡ n → word ≡ Some n
some-word (Some m) n is e = ap (λ k. let o : Option ℕ = Some k in o) e
some-word None n is e = cc

-- a word that a place's fetch fills
record FetchedAt (memory : ℕ → Option ℕ) (words : ℕ → Option FetchWord) (place : Result ℕ Cause) (access : Access) (fetched : FetchWord) : Type 0 where
  kind : access ≡ Fetch
  at_place : place ≡ Ok fetched.pa
  missed : words fetched.pa ≡ None
  word : memory fetched.pa ≡ Some fetched.word

fetched-at : (memory : ℕ → Option ℕ) (words : ℕ → Option FetchWord) (r : Result ℕ Cause) (access : Access) (fetched : FetchWord)
    → ((pa : ℕ) → r ≡ Ok pa → is_some (memory pa) ≡ true) → word_filling_by memory words r access ≡ Some fetched → FetchedAt memory words r access fetched
fetched-at memory words (Ok pa) Load fetched has e = cc
fetched-at memory words (Ok pa) (Store value) fetched has e = cc
fetched-at memory words (Ok pa) (Amo at amo) fetched has e = cc
fetched-at memory words (Ok pa) Fetch fetched has e =
    let parts = from-missed (words pa) pa (unwrap_or (memory pa) 0) fetched e in
    let there = some-word (memory pa) fetched.word (has pa refl) parts.2 in
    record {
      kind = refl;
      at_place = ap (λ n. let r : Result ℕ Cause = Ok n in r) parts.1;
      missed = rw parts.1 at parts.0;
      word = rw parts.1 at there;
    }
fetched-at memory words (Err cause) access fetched has e = cc

filled-at : (memory : ℕ → Option ℕ) (words : ℕ → Option FetchWord) (r : Result ℕ Cause) (access : Access) (fetched : FetchWord)
    → access ≡ Fetch → r ≡ Ok fetched.pa → words fetched.pa ≡ None → memory fetched.pa ≡ Some fetched.word → word_filling_by memory words r access ≡ Some fetched
filled-at memory words r access fetched kind at_place missed word = rw (kind, at_place, missed, word) refl

module _ (memory : ℕ → Option ℕ) (satp : ℕ) (tlb : Address → Option Entry) (words : ℕ → Option FetchWord) (va : ℕ) (access : Access) (fetched : FetchWord) where
  pub word_filled : word_filling memory satp tlb words va access ≡ Some fetched ↔ Fetches memory satp tlb words va access fetched
  word_filled = (there, back)
    where
      there : word_filling memory satp tlb words va access ≡ Some fetched → Fetches memory satp tlb words va access fetched
      there e =
          let made = fetched-at memory words (place memory satp tlb va access) access fetched
          (λ pa found. (in_memory-ok memory (kind_of access) (phys_by (way_of memory satp tlb va access) va (kind_of access)) pa found).1) e in
          record { kind = made.kind; place = made.at_place; missed = made.missed; word = made.word }

      back : Fetches memory satp tlb words va access fetched → word_filling memory satp tlb words va access ≡ Some fetched
      back fetches = filled-at memory words (place memory satp tlb va access) access fetched fetches.kind fetches.place fetches.missed fetches.word
