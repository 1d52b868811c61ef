-- The page of a leaf, and the fences of its addresses.
use Rattle.std.proofs.Common.{◌≡◌, ℕ, ◌+◌, ◌<◌, ◌≤◌, Bool, true, false, leb, ltb, Option, Some, None, Ok, refl, sym, ◌∙◌, arith}
use Rattle.std.specs.Prelude.{◌&&◌, ◌||◌, ◌==◌, max, min, not}
use Rattle.std.proofs.lemmas.Bool.{and_from, and_parts, eqb-true, leb-true, lt-ltb, ltb-true}
use Rattle.sv39.specs.declared.cause.Kind.{Kind}
use Rattle.sv39.specs.declared.page.Leaf.{Leaf}
use Rattle.sv39.specs.declared.page.Level.{Level}
use Rattle.sv39.specs.declared.page.Level.TheVariants.{Kilo, Mega, Giga, Tera}
use Rattle.sv39.specs.Maps.{maps}
use Rattle.sv39.specs.Pages.{page_of, size}
use Rattle.sv39.specs.Satp.{asid_of}
use Rattle.sv39.proofs.PageLaw.{leaf_page, one_leaf_for_a_page}
use Rattle.tlb_model.specs.declared.fence.Fence.{Fence}
use Rattle.tlb_model.specs.declared.fence.Flush.TheVariants.{Entries}
use Rattle.tlb_model.specs.declared.fence.Range.{Range}
use Rattle.tlb_model.specs.Entries.{Entry, covers_entry, has_address, is_in_space, matches, reaches}
use Rattle.board_laws.specs.Fresh.{is_of_page, is_of_space}

pub page-bounds : (level : Level) (va : ℕ) → (page_of level va ≤ va) × (va < page_of level va + size level)
page-bounds Kilo va = (omega arith, omega arith)
page-bounds Mega va = (omega arith, omega arith)
page-bounds Giga va = (omega arith, omega arith)
page-bounds Tera va = (omega arith, omega arith)

-- a leaf that the page tables give one address of its page they give each one, for the same kind of access
pub same-leaf : (memory : ℕ → Option ℕ) (satp a b : ℕ) (kind : Kind) (leaf : Leaf)
    → maps memory satp a kind ≡ Ok leaf → leaf.page ≤ b → b < leaf.page + size leaf.level → maps memory satp b kind ≡ Ok leaf
same-leaf memory satp a b kind leaf e from before =
    let page = leaf_page memory satp a kind leaf e in
    let bounds = page-bounds leaf.level a in
    one_leaf_for_a_page memory satp a b kind kind leaf e from before
    ∙ sym (one_leaf_for_a_page memory satp a a kind kind leaf e (rw page bounds.0) (rw page bounds.1))
    ∙ e

-- ---- what a fence of an address covers

-- an address of the entry's page, in the entry's space
pub record Matched (entry : Entry) (va asid : ℕ) : Type 0 where
  pub from : entry.leaf.page ≤ va
  pub before : va < entry.leaf.page + size entry.leaf.level
  pub space : (entry.leaf.global || (entry.asid == asid)) ≡ true

pub matched : (entry : Entry) (va asid : ℕ) → matches (record { va = va; asid = asid }) entry ≡ true → Matched entry va asid
matched entry va asid e =
    let parts = and_parts (has_address entry.leaf va) (entry.leaf.global || (entry.asid == asid)) e in
    let bounds = and_parts (leb entry.leaf.page va) (ltb va (entry.leaf.page + size entry.leaf.level)) parts.0 in
    record { from = leb-true entry.leaf.page va bounds.0; before = ltb-true va (entry.leaf.page + size entry.leaf.level) bounds.1; space = parts.1 }

meets-page : (level : Level) (start bytes va other : ℕ) → page_of level other ≤ va → va < page_of level other + size level
    → max start (page_of Kilo va) < min (start + bytes) (page_of Kilo va + size Kilo)
    → max start (page_of level other) < min (start + bytes) (page_of level other + size level)
meets-page Kilo start bytes va other from before met = omega arith
meets-page Mega start bytes va other from before met = omega arith
meets-page Giga start bytes va other from before met = omega arith
meets-page Tera start bytes va other from before met = omega arith

reaches-page : (range : Option Range) (leaf : Leaf) (va other : ℕ) → leaf.page ≡ page_of leaf.level other → leaf.page ≤ va → va < leaf.page + size leaf.level
    → is_of_page range va ≡ true → reaches range leaf ≡ true
reaches-page None leaf va other page from before met = refl
reaches-page (Some range) leaf va other page from before met =
    lt-ltb (max range.start leaf.page) (min (range.start + range.size) (leaf.page + size leaf.level))
    (rw page
    (meets-page leaf.level range.start range.size va other (rw page at from) (rw page at before)
    (ltb-true (max range.start (page_of Kilo va)) (min (range.start + range.size) (page_of Kilo va + size Kilo)) met)))

in-space : (asid : Option ℕ) (entry : Entry) (satp : ℕ) → (entry.leaf.global || (entry.asid == asid_of satp)) ≡ true → is_of_space asid satp entry.leaf ≡ true → is_in_space asid entry ≡ true
in-space None entry satp space is = refl
in-space (Some asid) entry satp space is = by_test entry.leaf.global space is
  where
    by_test : (global : Bool) → (global || (entry.asid == asid_of satp)) ≡ true → (not global && (asid_of satp == asid)) ≡ true → (not global && (entry.asid == asid)) ≡ true
    by_test true space is = is
    by_test false space is = rw (eqb-true entry.asid (asid_of satp) space) is

-- a fence that is of an address and of its translation covers the entry that translates it
pub covers-matched : (fence : Fence) (entry : Entry) (va satp other : ℕ) → Matched entry va (asid_of satp) → entry.leaf.page ≡ page_of entry.leaf.level other
    → is_of_page fence.range va ≡ true → is_of_space fence.asid satp entry.leaf ≡ true → covers_entry (Entries fence) entry ≡ true
covers-matched fence entry va satp other match page of_page of_space =
    and_from (is_in_space fence.asid entry) (reaches fence.range entry.leaf) (in-space fence.asid entry satp match.space of_space)
    (reaches-page fence.range entry.leaf va other page match.from match.before of_page)
