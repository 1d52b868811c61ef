-- What boards open with: what a new board of good numbers has, or what a legal history left.
use Rattle.std.proofs.Common.{◌≡◌, ℕ, zero, suc, List, [], subst, sym, ap, arith, inl, inr}
use Rattle.std.specs.Prelude.{◌⊎◌}
use Rattle.std.specs.List.{All, Contains}
use Rattle.std.proofs.lemmas.Bool.{cases_lt}
use Rattle.std.proofs.lemmas.List.{get_or_past}
use Rattle.std.proofs.lemmas.List.Elements.{All-contains, All-nil, All-same, All-weaker}
use Rattle.std.proofs.lemmas.List.FromFn.{get_or-map-range_with_len, length-map-range_with_len}
use Rattle.sv39.specs.declared.page.Leaf.{Leaf}
use Rattle.sv39.specs.Pages.{page_of}
use Rattle.sv39.proofs.PageLaw.{leaf_page}
use Rattle.tlb_model.specs.declared.cache.Numbered.{Numbered}
use Rattle.tlb_model.specs.declared.caches.Caches.{Caches}
use Rattle.tlb_model.specs.Entries.{Entry}
use Rattle.hart_access.specs.AccessKinds.{kind_of}
use Rattle.rfence.proofs.Seams.{all-same}
use Rattle.board_core.specs.Cuts.{IsOpened, OpensAfter, opening_of}
use Rattle.board_core.specs.History.{Event}
use Rattle.board_core.specs.Memory.{caches_of, memory, satp}
use Rattle.board_core.specs.Opening.{Opening, no_caches, tlb_at}
use Rattle.board_core.specs.Replies.{IsLegal}
use Rattle.board_laws.specs.Lives.{EntryWasFilled, live_entries}
use Rattle.board_laws.specs.Places.{past_at}
use Rattle.board_laws.proofs.Lives.{lives_from_its_date}

-- ---- the pages of what lives

-- the leaf's page is that of an address
pub record IsPage (leaf : Leaf) : Type 0 where
  pub va : ℕ
  pub page : leaf.page ≡ page_of leaf.level va

abbrev OfPages : List (Numbered Entry) → Type 0
OfPages xs = All (λ (x : Numbered Entry). IsPage x.item.leaf) xs

filled-page : (o : Opening) (past : List Event) (t : ℕ) (x : Numbered Entry) → EntryWasFilled o past t x → IsPage x.item.leaf
filled-page o past t x was =
    let before = past_at o past x.date in
    record { va = was.reach.va; page = leaf_page (memory o before) (satp o before t) was.reach.va (kind_of was.reach.access) x.item.leaf was.fills.mapped }

-- so is that of each entry that was filled, or that lived at an opening of which it holds
pub is-page : (o : Opening) (past : List Event) (t : ℕ) → OfPages (tlb_at o t).live → (x : Numbered Entry) → EntryWasFilled o past t x ⊎ Contains (tlb_at o t).live x → IsPage x.item.leaf
is-page o past t opened x lives = elim lives [
  | inl was ↦ filled-page o past t x was
  | inr before ↦ All-contains (λ (x : Numbered Entry). IsPage x.item.leaf) (tlb_at o t).live x opened before
]

module _ (o : Opening) (past : List Event) (t : ℕ) (legal : IsLegal o past) (opened : OfPages (tlb_at o t).live) where
  live-pages : OfPages (live_entries o past t)
  live-pages =
      All-weaker (λ x. EntryWasFilled o past t x ⊎ Contains (tlb_at o t).live x) (λ (x : Numbered Entry). IsPage x.item.leaf) (is-page o past t opened) (live_entries o past t)
      (lives_from_its_date o past t legal).entries

  cut-pages : OfPages (tlb_at (opening_of o past) t).live
  cut-pages = elim (cases_lt t o.config.harts) [
    | inl near ↦
        All-same (λ (x : Numbered Entry). IsPage x.item.leaf) (tlb_at (opening_of o past) t).live (live_entries o past t)
        (ap (λ (caches : Caches). caches.tlb.live) (get_or-map-range_with_len (caches_of o past) 0 o.config.harts t t no_caches near (omega arith))) live-pages
    | inr far ↦
        All-same (λ (x : Numbered Entry). IsPage x.item.leaf) (tlb_at (opening_of o past) t).live []
        (ap (λ (caches : Caches). caches.tlb.live) (get_or_past (opening_of o past).caches t no_caches (omega (arith, length-map-range_with_len (caches_of o past) 0 o.config.harts))))
        (All-nil (λ (x : Numbered Entry). IsPage x.item.leaf))
  ]

pages-after : (cuts : ℕ) (o : Opening) → OpensAfter cuts o → (t : ℕ) → OfPages (tlb_at o t).live
pages-after zero o opens t =
    let none = ap (λ (caches : Caches). caches.tlb.live) (all-same o.config.harts t no_caches) in
    subst (λ (p : Opening). OfPages (tlb_at p t).live) (sym opens.1) (All-same (λ (x : Numbered Entry). IsPage x.item.leaf) _ [] none (All-nil (λ (x : Numbered Entry). IsPage x.item.leaf)))
pages-after (suc cuts) o opens t =
    subst (λ (p : Opening). OfPages (tlb_at p t).live) (sym opens.4) (cut-pages opens.0 opens.1 t opens.3 (pages-after cuts opens.0 opens.2 t))

pub opened-pages : (o : Opening) → IsOpened o → (t : ℕ) → OfPages (tlb_at o t).live
opened-pages o opened = pages-after opened.cuts o opened.opens
