use Rattle.std.proofs.Common.{◌≡◌, ℕ, true, not, List, ap, refl, sym, ◌∙◌, subst}
use Rattle.std.specs.Prelude.{◌↔◌, IsTrue}
use Rattle.std.specs.List.{All}
use Rattle.sv39.specs.Memory.{word_in}
use Rattle.tlb_model.specs.Entries.{Entry}
use Rattle.hart_access.specs.Translations.{IsTranslated}
use Rattle.any_tlb.specs.Watch.{AgreesWithTables}
use Rattle.tlb_watch.specs.Deciding.{all_agree}
use Rattle.tlb_watch.specs.Watched.{WatchedAddress}
use Rattle.tlb_watch.proofs.Deciding.{alike, all-agree-so}
use Rattle.tlb_watch.proofs.address.AddressWatch.is_steady.Goals as goal

pub returns-else-not-is_translated-clause-decides : goal.returns-else-not-is_translated-clause-decides
returns-else-not-is_translated-clause-decides c =
    let memory = word_in c.args.ram.now in
    let inside = c.self.inside.entries in
    let own : c.self.inside.at.address ≡ c.args.self.now.at.address = ap (λ (w : WatchedAddress). w.at.address) c.self.view_is in
    let watched = subst (λ (va : ℕ). IsTrue c.is_steady.result ↔ All (AgreesWithTables memory c.args.satp va c.args.kind) inside.entries.items)
    (c.self.invariant ∙ own) c.is_steady.ensures in
    let whole = subst (λ (entries : List Entry). IsTrue c.is_steady.result ↔ All (AgreesWithTables memory c.args.satp c.args.self.now.at.address c.args.kind) entries)
    (ap (λ (w : WatchedAddress). w.entries) c.self.view_is) watched in
    let translated : IsTranslated c.args.satp c.args.self.now.at.address =
    subst (λ (va : ℕ). IsTranslated c.args.satp va) own (c.is_translated.ensures.0 c.if-not-is_translated.false) in
    (λ steady given. whole.0 steady, λ agree. whole.1 (agree translated))

pub returns-else-not-is_translated-clause-is : goal.returns-else-not-is_translated-clause-is
returns-else-not-is_translated-clause-is c =
    let memory = word_in c.args.ram.now in
    let w : WatchedAddress = c.args.self.now in
    alike c.is_steady.result (all_agree memory c.args.satp w.at.address c.args.kind w.entries) _ (returns-else-not-is_translated-clause-decides c)
    (all-agree-so memory c.args.satp w.at.address c.args.kind w.entries)

pub returns-then-not-is_translated-clause-is : goal.returns-then-not-is_translated-clause-is
returns-then-not-is_translated-clause-is c =
    let memory = word_in c.args.ram.now in
    let w : WatchedAddress = c.args.self.now in
    let never : IsTranslated c.args.satp w.at.address → ⊥ =
    λ is. let own : c.self.inside.at.address ≡ w.at.address = ap (λ (w : WatchedAddress). w.at.address) c.self.view_is in
    let yes = c.is_translated.ensures.1 (subst (λ (va : ℕ). IsTranslated c.args.satp va) (sym own) is) in
    let no = c.if-not-is_translated.true in
    cc in
    ap not c.if-not-is_translated.true
    ∙ alike true (all_agree memory c.args.satp w.at.address c.args.kind w.entries) _ ((λ so is. absurd (never is)), (λ all. refl))
    (all-agree-so memory c.args.satp w.at.address c.args.kind w.entries)
