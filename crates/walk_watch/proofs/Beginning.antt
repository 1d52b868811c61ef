-- The satps of a history's log are those by which walks may begin.
use Rattle.std.proofs.Common.{◌≡◌, ◌↔◌, ℕ, Bool, true, false, not, List, [], ◌∷◌, ◌++◌, refl, sym, ap, subst, ◌∙◌, inl, inr, Option, Some, None}
use Rattle.std.specs.Prelude.{◌⊎◌, ◌==◌, ◌&&◌, filter, if◌then◌else◌}
use Rattle.std.proofs.lemmas.Bool.{and_parts, eq-eqb, eqb-true, ne_eqb, not-true}
use Rattle.rfence.specs.Applied as applied
use Rattle.rfence.specs.Applied.{Effect, Drops, Empties}
use Rattle.sv39.specs.Satp.{asid_of}
use Rattle.tlb_model.specs.declared.fence.Flush.{Flush}
use Rattle.board_core.specs.History.{Event}
use Rattle.board_core.specs.Memory.{satp}
use Rattle.board_core.specs.Opening.{Opening}
use Rattle.any_tlb.specs.Mixed.{MaySeeSatp, orders_pointers}
use Rattle.tlb_watch.specs.declared.effect.CacheEffect.{CacheEffect}
use Rattle.tlb_watch.specs.declared.effect.CacheEffect.TheVariants.{Nothing, Applied, Reset}
use Rattle.tlb_watch.specs.Effects.{effect_on}
use Rattle.tlb_watch.specs.Sets.{IsIn}
use Rattle.tlb_watch.proofs.Members.{in-cases, in-filter, in-left, in-right, out-filter}
use Rattle.walk_watch.specs.declared.former.FormerSatp.{FormerSatp}
use Rattle.walk_watch.specs.Logged.{IsFormerSatp, IsLogged, LoggedWalks, LogsEvent, is_ordered, is_same_satp, nothing_logged, satps_after, with_former}

-- the satps of walks that meet no G, or meet G
abbrev pub satps_of : (met : Bool) → LoggedWalks → List FormerSatp
satps_of false log = log.own
satps_of true log = log.global

same-satp : (a b : FormerSatp) → is_same_satp a b ≡ true → a ≡ b
same-satp a b is =
    let parts = and_parts (a.hart == b.hart) (a.satp == b.satp) is in
    let hart = eqb-true a.hart b.hart parts.0 in
    let register = eqb-true a.satp b.satp parts.1 in
    (λ i. record { hart = hart i; satp = register i })

-- the other satps, and one more
module _ (former : FormerSatp) (satps : List FormerSatp) where
  abbrev others : List FormerSatp
  others = filter (λ other. not (is_same_satp other former)) satps

  pub with-one : (x : FormerSatp) → IsIn (others ++ former ∷ []) x ↔ (IsIn satps x ⊎ (former ≡ x))
  with-one x = (
    (λ there. to (in-cases others (former ∷ []) x there)),
    from,
  )
    where
      to : IsIn others x ⊎ IsIn (former ∷ []) x → IsIn satps x ⊎ (former ≡ x)
      to (inl there) = inl (out-filter (λ other. not (is_same_satp other former)) satps x there).0
      to (inr (inl same)) = inr same
      to (inr (inr none)) = absurd none

      by_test : IsIn satps x → (b : Bool) → is_same_satp x former ≡ b → IsIn (others ++ former ∷ []) x
      by_test there true is = in-right others (former ∷ []) x (inl (sym (same-satp x former is)))
      by_test there false is = in-left others (former ∷ []) x (in-filter (λ other. not (is_same_satp other former)) satps x (ap not is) there)

      from : IsIn satps x ⊎ (former ≡ x) → IsIn (others ++ former ∷ []) x
      from (inl there) = by_test there (is_same_satp x former) refl
      from (inr same) = in-right others (former ∷ []) x (inl same)

module _ (met : Bool) (o : Opening) (h value : ℕ) where
  abbrev it : FormerSatp
  it = record { hart = h; satp = value }

  -- whether an effect orders it
  abbrev ordered : Effect Flush → Bool
  ordered done = orders_pointers met (asid_of value) done

  abbrev May : List Event → Type 0
  May past = MaySeeSatp o past h met value

  module _ (event : Event) (past : List Event) (satps : List FormerSatp) (c : May past ↔ ((satp o past h ≡ value) ⊎ IsIn satps it)) where
    module _ (former : Option FormerSatp) (says : IsFormerSatp (satp o past) (satp o (event ∷ past)) former) where
      abbrev more : List FormerSatp
      more = with_former former satps

      -- what was noted is the present one, or was noted before
      noted-was : IsIn more it → May past
      noted-was = by_former former says
        where
          by_former : (former : Option FormerSatp) → IsFormerSatp (satp o past) (satp o (event ∷ past)) former → IsIn (with_former former satps) it → May past
          by_former None says there = c.1 (inr there)
          by_former (Some one) says there = by_side ((with-one one satps it).0 there)
            where
              by_side : IsIn satps it ⊎ (one ≡ it) → May past
              by_side (inl old) = c.1 (inr old)
              by_side (inr same) =
                  c.1 (inl (ap (satp o past) (sym (ap (λ (f : FormerSatp). f.hart) same)) ∙ sym says.0 ∙ ap (λ (f : FormerSatp). f.satp) same))

      -- and the other way round, unless it is the new one
      was-noted : May past → (satp o (event ∷ past) h ≡ value) ⊎ IsIn more it
      was-noted may = by_former former says (c.0 may)
        where
          by_former : (former : Option FormerSatp) → IsFormerSatp (satp o past) (satp o (event ∷ past)) former → (satp o past h ≡ value) ⊎ IsIn satps it
              → (satp o (event ∷ past) h ≡ value) ⊎ IsIn (with_former former satps) it
          by_former None says (inl now) = inl (says h ∙ now)
          by_former None says (inr old) = inr old
          by_former (Some one) says (inr old) = inr ((with-one one satps it).1 (inl old))
          by_former (Some one) says (inl now) = by_hart (one.hart == h) refl
            where
              by_hart : (b : Bool) → (one.hart == h) ≡ b → (satp o (event ∷ past) h ≡ value) ⊎ IsIn (with_former (Some one) satps) it
              by_hart true here =
                  let own = eqb-true one.hart h here in
                  let register : one.satp ≡ value = says.0 ∙ ap (satp o past) own ∙ now in
                  let same : one ≡ it = (λ i. record { hart = own i; satp = register i }) in
                  inr ((with-one one satps it).1 (inr same))
              by_hart false there = inl (says.1 h (λ same. let e : true ≡ false = sym (eq-eqb one.hart h same) ∙ there in cc) ∙ now)

      abbrev After : Effect Flush → List FormerSatp → Type 0
      After done satps =
          ((satp o (event ∷ past) h ≡ value) ⊎ (May past × (ordered done ≡ false))) ↔ ((satp o (event ∷ past) h ≡ value) ⊎ IsIn satps it)

      nothing-on : After applied.Nothing more
      nothing-on = (
        (λ may. elim may [
          | inl now ↦ inl now
          | inr before ↦ was-noted before.0
        ]),
        (λ there. elim there [
          | inl now ↦ inl now
          | inr noted ↦ inr (noted-was noted, refl)
        ]),
      )

      module _ (x : ℕ) (flush : Flush) where
        abbrev spared : List FormerSatp
        spared = filter (λ former. not (is_ordered met x flush former)) more

        -- the fence orders it by its effect at the hart
        tells : ordered (effect_on (Applied x flush) h) ≡ is_ordered met x flush it
        tells = by_test (x == h) refl
          where
            turned : (b : Bool) → (x == h) ≡ b → (h == x) ≡ b
            turned true is = eq-eqb h x (sym (eqb-true x h is))
            turned false is = ne_eqb h x (λ same. let e : true ≡ false = sym (eq-eqb x h (sym same)) ∙ is in cc)

            by_test : (b : Bool) → (x == h) ≡ b → ordered (if b then Drops flush else applied.Nothing) ≡ is_ordered met x flush it
            by_test true is = ap (λ (b : Bool). b && ordered (Drops flush)) (sym (turned true is))
            by_test false is = ap (λ (b : Bool). b && ordered (Drops flush)) (sym (turned false is))

        fence-on : After (effect_on (Applied x flush) h) spared
        fence-on = (
          (λ may. elim may [
            | inl now ↦ inl now
            | inr before ↦ put before.1 (was-noted before.0)
          ]),
          (λ there. elim there [
            | inl now ↦ inl now
            | inr kept ↦
                let out = out-filter (λ former. not (is_ordered met x flush former)) more it kept in
                inr (noted-was out.0, tells ∙ not-true (is_ordered met x flush it) out.1)
          ]),
        )
          where
            put : ordered (effect_on (Applied x flush) h) ≡ false → (satp o (event ∷ past) h ≡ value) ⊎ IsIn more it → (satp o (event ∷ past) h ≡ value) ⊎ IsIn spared it
            put left (inl now) = inl now
            put left (inr noted) = inr (in-filter (λ former. not (is_ordered met x flush former)) more it (ap not (sym tells ∙ left)) noted)

    reset-on : ((satp o (event ∷ past) h ≡ value) ⊎ (May past × (ordered Empties ≡ false))) ↔ ((satp o (event ∷ past) h ≡ value) ⊎ IsIn [] it)
    reset-on = (
      (λ may. elim may [
        | inl now ↦ inl now
        | inr before ↦ let e : true ≡ false = before.1 in absurd (cc)
      ]),
      (λ there. elim there [
        | inl now ↦ inl now
        | inr none ↦ absurd none
      ]),
    )

    effect-on : (effect : CacheEffect) (former : Option FormerSatp) → ((effect ≡ Reset → ⊥) → IsFormerSatp (satp o past) (satp o (event ∷ past)) former)
        → ((satp o (event ∷ past) h ≡ value) ⊎ (May past × (ordered (effect_on effect h) ≡ false))) ↔ ((satp o (event ∷ past) h ≡ value) ⊎ IsIn (satps_after met effect former satps) it)
    effect-on Nothing former says = nothing-on former (says (λ e. cc))
    effect-on (Applied x flush) former says = fence-on former (says (λ e. cc)) x flush
    effect-on Reset former says = reset-on

  first-satps : satps_of met nothing_logged ≡ []
  first-satps = by_met met
    where
      by_met : (met : Bool) → satps_of met nothing_logged ≡ []
      by_met false = refl
      by_met true = refl

  pub begun : (past : List Event) (log : LoggedWalks) → IsLogged o past log → May past ↔ ((satp o past h ≡ value) ⊎ IsIn (satps_of met log) it)
  begun [] log logged =
      subst (λ (satps : List FormerSatp). (satp o [] h ≡ value) ↔ ((satp o [] h ≡ value) ⊎ IsIn satps it)) (sym (ap (satps_of met) logged ∙ first-satps)) (
        (λ now. inl now),
        (λ there. elim there [
          | inl now ↦ now
          | inr none ↦ absurd none
        ]),
      )
  begun (event ∷ past) log logged =
      let before = logged.0 in
      let f = logged.2 in
      subst (λ (satps : List FormerSatp). May (event ∷ past) ↔ ((satp o (event ∷ past) h ≡ value) ⊎ IsIn satps it)) (sym (grown met f))
      (subst (λ (done : Effect Flush). ((satp o (event ∷ past) h ≡ value) ⊎ (May past × (ordered done ≡ false)))
      ↔ ((satp o (event ∷ past) h ≡ value) ⊎ IsIn (satps_after met f.effect f.former (satps_of met before)) it)) (f.does h)
      (effect-on event past (satps_of met before) (begun past before logged.1) f.effect f.former f.satps))
    where
      grown : (met : Bool) → (f : LogsEvent o past event logged.0 log) → satps_of met log ≡ satps_after met f.effect f.former (satps_of met logged.0)
      grown false f = f.own
      grown true f = f.global
