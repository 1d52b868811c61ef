-- Whether an access is stale, by what its entry gives it.
use Rattle.std.proofs.Common.{◌≡◌, ◌↔◌, ℕ, Bool, true, false, not, List, refl, sym, subst, ap, ◌∙◌, Some, None, Result}
use Rattle.std.specs.Prelude.{IsTrue}
use Rattle.std.proofs.lemmas.Option.{same_Some}
use Rattle.sv39.specs.declared.cause.Cause.{Cause}
use Rattle.sv39.specs.declared.page.Leaf.{Leaf}
use Rattle.sv39.specs.Maps.{maps}
use Rattle.tlb_model.specs.Entries.{Entry}
use Rattle.hart_access.specs.declared.accesses.Access.{Access}
use Rattle.hart_access.specs.AccessKinds.{kind_of}
use Rattle.hart_access.specs.Ways.{translated}
use Rattle.board_core.specs.History.{Event}
use Rattle.board_core.specs.Memory.{memory, satp}
use Rattle.board_core.specs.Opening.{Opening}
use Rattle.any_tlb.specs.Stale.{IsOtherThan, IsStale}
use Rattle.any_tlb.specs.Steady.{phys_of}

module _ (o : Opening) (past : List Event) (h va : ℕ) (access : Access) (event : Event) where
  pub stale-by : (entry : Entry) (walked : Result Leaf Cause) (agree : Bool) → walked ≡ maps (memory o past) (satp o past h) va (kind_of access) → event.translation ≡ Some entry
      → (IsTrue agree ↔ (translated entry.leaf va (kind_of access) ≡ phys_of walked va))
      → IsTrue (not agree) ↔ IsStale o past h event (record { va = va; access = access })
  stale-by entry walked true is uses answers =
      let same : translated entry.leaf va (kind_of access)
      ≡ phys_of (maps (memory o past) (satp o past h) va (kind_of access)) va = answers.0 refl ∙ ap (λ (r : Result Leaf Cause). phys_of r va) is in (
        λ never. cc,
        λ stale. absurd (subst (λ (e : Entry). IsOtherThan (memory o past) (satp o past h) va (kind_of access) e) (same_Some stale.entry entry (sym stale.uses ∙ uses)) stale.other same),
      )
  stale-by entry walked false is uses answers = (
    λ so. record {
      entry = entry;
      uses = uses;
      other = λ same. let agrees = answers.1 (same ∙ ap (λ (r : Result Leaf Cause). phys_of r va) (sym is)) in cc;
    },
    λ stale. refl,
  )

  pub stale-by-none : event.translation ≡ None → IsTrue false ↔ IsStale o past h event (record { va = va; access = access })
  stale-by-none none = (λ never. cc, λ stale. let uses = sym none ∙ stale.uses in cc)
