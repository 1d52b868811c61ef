use Rattle.std.proofs.Common.{◌≡◌, ◌∙◌, ◌+◌, ◌<◌, ℕ, true, false, List, length, ap, subst, rules}
use Rattle.std.specs.Prelude.{slice_index_or}
use Rattle.std.specs.List.{AllWithin}
use Rattle.std.proofs.lemmas.List.{get_or_default}
use Rattle.std.proofs.lemmas.List.Elements.{AllWithin-more}
use Rattle.hart_access.specs.Ways.{translated}
use Rattle.sv39.specs.Maps.{maps}
use Rattle.sv39.specs.Memory.{word_in}
use Rattle.tlb_model.specs.declared.entry.Address.{Address}
use Rattle.tlb_model.specs.Entries.{Entry, matches}
use Rattle.board_core.specs.Memory.{address_by}
use Rattle.any_tlb.specs.Steady.{phys_of}
use Rattle.any_tlb.proofs.watcher.EntryWatch.is_steady.Goals as goal
use Rattle.any_tlb.proofs.watcher.EntryWatch.is_steady.Goals.{else-holds-via-then-holds+else-not-agrees, else-holds-via-else-holds}

-- one entry more, which agrees if it matches
more : (Q : Entry → Type 0) (at : Address) (items : List Entry) (i : ℕ) (entry : Entry) → i < length items → entry ≡ slice_index_or items i entry
    → AllWithin (λ e. matches at e ≡ true → Q e) items 0 i → (matches at entry ≡ true → Q entry) → AllWithin (λ e. matches at e ≡ true → Q e) items 0 (i + 1)
more Q at items i entry inside is before agrees =
    AllWithin-more (λ e. matches at e ≡ true → Q e) items 0 i before
    (λ d. subst (λ e. matches at e ≡ true → Q e) (is ∙ get_or_default items i entry d inside) agrees)

pub loop-entry-preserved : goal.loop-entry-preserved
loop-entry-preserved c =
    let va = c.args.self.now.va in
    let satp = c.args.satp in
    let entry = c.entry-item.result in
    let items = c.args.self.now.entries.items in
    let inside : c.loop-entry.entry-index < length items = search rules in
    let is : entry ≡ slice_index_or items c.loop-entry.entry-index entry = search rules in
    more (λ e. translated e.leaf va c.args.kind ≡ phys_of (maps (word_in c.args.ram.now) satp va c.args.kind) va) (address_by satp va) items c.loop-entry.entry-index entry inside is
    c.loop-entry.invariant
    (λ match. elim c.else-holds.branch [
      | else-holds-via-then-holds+else-not-agrees w ↦
          let yes : w.agrees.result ≡ true = search rules in
          w.agrees.ensures.0 yes ∙ ap (λ r. phys_of r va) c.walk-walked.ensures
      | else-holds-via-else-holds w ↦
          let no : matches (address_by satp va) entry ≡ false = search rules in
          absurd (let both = match in cc)
    ])
