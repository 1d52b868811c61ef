use Rattle.std.proofs.Common.{◌≡◌, sym, ap, ◌∙◌}
use Rattle.std.proofs.lemmas.Bool.{eqb-true, eq-eqb}
use Rattle.tlb_model.specs.Entries.{Entry}
use Rattle.access_marks.proofs.taking.is_entry.Goals as goal

pub returns-then-is_leaf : goal.returns-then-is_leaf
returns-then-is_leaf c =
    let a : Entry = c.args.a in
    let b : Entry = c.args.b in
    let leaf : a.leaf ≡ b.leaf = sym c.leaf.ensures ∙ c.is_leaf.ensures.0 c.if-is_leaf.true ∙ c.leaf-2.ensures in (
      λ e. let asid : a.asid ≡ b.asid = sym c.asid.ensures ∙ eqb-true c.asid.result c.asid-then-is_leaf.result e ∙ c.asid-then-is_leaf.ensures in λ i. record { leaf = leaf i; asid = asid i },
      λ same. eq-eqb c.asid.result c.asid-then-is_leaf.result (c.asid.ensures ∙ ap (λ (x : Entry). x.asid) same ∙ sym c.asid-then-is_leaf.ensures),
    )
