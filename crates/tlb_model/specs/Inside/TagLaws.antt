-- What a key matches, or a fence covers, it suits by its tag.
use Rattle.std.proofs.Common.{◌≡◌, inl, inr, ℕ, ◌+◌, ◌-◌, ◌/◌, ◌%◌, ◌<◌, ◌≤◌, max, min, Bool, true, false, cond, leb, ◌==◌, Option, Some, None, refl, ap, ◌∙◌, arith}
use Rattle.std.proofs.lemmas.Bool.{and_parts, eqb-true, leb-true, ltb-true}
use Rattle.sv39.specs.declared.page.Leaf.{Leaf}
use Rattle.sv39.specs.declared.page.Level.{Level}
use Rattle.sv39.specs.declared.page.Level.TheVariants.{Kilo, Mega, Giga, Tera}
use Rattle.sv39.specs.Pages.{size}
use Rattle.tlb_model.specs.declared.entry.Address.{Address}
use Rattle.tlb_model.specs.declared.fence.Flush.{Flush}
use Rattle.tlb_model.specs.declared.fence.Flush.TheVariants.{Words, Entries}
use Rattle.tlb_model.specs.declared.fence.Range.{Range}
use Rattle.tlb_model.specs.declared.tag.TheConstants.{ANY}
use Rattle.tlb_model.specs.declared.word.FetchWord.{FetchWord}
use Rattle.tlb_model.specs.Entries.{Entry, covers_entry, matches, reaches}
use Rattle.tlb_model.specs.Words.{covers_word, is_at}
use Rattle.tlb_model.specs.Inside.ItemTags.{address_tag, entry_tag, fence_tag, no_tag, pa_tag, page_tag, range_tag, tag_at, word_tag}
use Rattle.tlb_model.specs.Inside.Tags.{Suits}

page_suits : (level : Level) (page va : ℕ) → page ≤ va → va < page + size level → Suits (tag_at level page) (page_tag va)
page_suits Kilo page va from to = by_test (page % 4096 == 0) refl
  where
    by_test : (b : Bool) → (page % 4096 == 0) ≡ b → Suits (cond b (page_tag page) ANY) (page_tag va)
    by_test true is =
        let aligned = eqb-true (page % 4096) 0 is in
        let same : page / 4096 ≡ va / 4096 = omega (arith, aligned, from, to) in
        inl (ap (λ q. q % 256) same)
    by_test false is = inr refl
page_suits Mega page va from to = inr refl
page_suits Giga page va from to = inr refl
page_suits Tera page va from to = inr refl

pub entry_held : (at : Address) (entry : Entry) → matches at entry ≡ true → Suits (entry_tag entry) (address_tag at)
entry_held at entry held =
    let inside = and_parts _ _ (and_parts _ _ held).0 in
    page_suits entry.leaf.level entry.leaf.page at.va (leb-true _ _ inside.0) (ltb-true _ _ inside.1)

range_suits : (level : Level) (page start bytes : ℕ) → bytes ≤ 4096 - start % 4096 → max start page < min (start + bytes) (page + size level)
    → Suits (tag_at level page) (page_tag start)
range_suits Kilo page start bytes room common = by_test (page % 4096 == 0) refl
  where
    by_test : (b : Bool) → (page % 4096 == 0) ≡ b → Suits (cond b (page_tag page) ANY) (page_tag start)
    by_test true is =
        let aligned = eqb-true (page % 4096) 0 is in
        let same : page / 4096 ≡ start / 4096 = omega (arith, aligned, room, common) in
        inl (ap (λ q. q % 256) same)
    by_test false is = inr refl
range_suits Mega page start bytes room common = inr refl
range_suits Giga page start bytes room common = inr refl
range_suits Tera page start bytes room common = inr refl

abbrev value : Option ℕ → ℕ
value None = 0
value (Some n) = n

suits_wanted : (tag here wanted : ℕ) → here ≡ wanted → Suits tag here → Suits tag wanted
suits_wanted tag here wanted is (inl same) = inl (same ∙ is)
suits_wanted tag here wanted is (inr any) = inr any

reached_suits : (range : Option Range) (leaf : Leaf) → reaches range leaf ≡ true → (wanted : ℕ) → range_tag range ≡ Some wanted
    → Suits (tag_at leaf.level leaf.page) wanted
reached_suits None leaf reached wanted is = cc
reached_suits (Some range) leaf reached wanted is = by_room (leb range.size (4096 - range.start % 4096)) refl is
  where
    by_room : (b : Bool) → leb range.size (4096 - range.start % 4096) ≡ b → cond b (Some (page_tag range.start)) None ≡ Some wanted
        → Suits (tag_at leaf.level leaf.page) wanted
    by_room true room same =
        suits_wanted _ _ _ (ap value same) (range_suits leaf.level leaf.page range.start range.size (leb-true _ _ room) (ltb-true _ _ reached))
    by_room false room same = cc

pub entry_covered : (flush : Flush) (entry : Entry) → covers_entry flush entry ≡ true → (wanted : ℕ) → fence_tag flush ≡ Some wanted
    → Suits (entry_tag entry) wanted
entry_covered Words entry covered wanted is = cc
entry_covered (Entries fence) entry covered wanted is = reached_suits fence.range entry.leaf (and_parts _ _ covered).1 wanted is

pub word_held : (pa : ℕ) (fetched : FetchWord) → is_at pa fetched ≡ true → Suits (word_tag fetched) (pa_tag pa)
word_held pa fetched held = inl (ap pa_tag (eqb-true _ _ held))

pub word_covered : (flush : Flush) (fetched : FetchWord) → covers_word flush fetched ≡ true → (wanted : ℕ) → no_tag flush ≡ Some wanted
    → Suits (word_tag fetched) wanted
word_covered flush fetched covered wanted is = cc
