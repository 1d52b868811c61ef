-- The log of a history decides which accesses are firm, and which are lenient.
use Rattle.std.proofs.Common.{◌≡◌, ◌↔◌, ℕ, zero, suc, Bool, true, false, List, [], replicate, refl, sym, ap, subst, inl, inr, Result, Ok, Err}
use Rattle.std.specs.Prelude.{◌⊎◌, ◌==◌, ◌&&◌, ◌||◌, slice_index_or}
use Rattle.std.specs.List.{Contains, list_all}
use Rattle.sv39.specs.declared.cause.Cause.{Cause}
use Rattle.sv39.specs.declared.cause.Kind.{Kind}
use Rattle.sv39.specs.declared.page.Leaf.{Leaf}
use Rattle.sv39.specs.Causes.{page_fault}
use Rattle.sv39.specs.Leaves.{by_right}
use Rattle.sv39.specs.Maps.{maps}
use Rattle.sv39.specs.Pages.{levels_from}
use Rattle.sv39.specs.Paging.{scheme}
use Rattle.sv39.specs.Satp.{asid_of, is_valid, paging_of, root_address, translates}
use Rattle.tlb_model.specs.declared.caches.Caches.{Caches}
use Rattle.tlb_model.specs.Entries.{Entry}
use Rattle.hart_access.specs.Translations.{IsTranslated}
use Rattle.board_terms.specs.declared.config.Config.{Config}
use Rattle.board_core.specs.History.{Event}
use Rattle.board_core.specs.Memory.{memory, satp}
use Rattle.board_core.specs.Opening.{Opening, no_caches, opening_at}
use Rattle.any_tlb.specs.Fenced.{LivedSince}
use Rattle.any_tlb.specs.Firm.{IsFirm, IsLenient, IsMapped}
use Rattle.any_tlb.specs.Mixed.{Kept, MayGive, MaySeeEnd, MaySeeSatp, MaySeeWord, Mixed, MixedFrom, MixedWalk, Now, orders_pointers}
use Rattle.any_tlb.specs.Steady.{phys_of}
use Rattle.any_tlb.proofs.Kept.{possible_is_mixed}
use Rattle.tlb_watch.specs.Deciding.{is_translated}
use Rattle.tlb_watch.specs.Sets.{IsIn}
use Rattle.tlb_watch.proofs.Deciding.{translated-so}
use Rattle.tlb_watch.proofs.Members.{contained}
use Rattle.walk_watch.specs.declared.former.FormerSatp.{FormerSatp}
use Rattle.walk_watch.specs.declared.seeking.Sought.{Sought}
use Rattle.walk_watch.specs.declared.wanted.Wanted.{Wanted}
use Rattle.walk_watch.specs.Logged.{IsLogged, LoggedWalks}
use Rattle.walk_watch.specs.Inside.Fits.{fits_from, former_fits, is_counted, is_mapped, satp_fits, satps_fit, spot_of, walks_fit, wanted_by}
use Rattle.walk_watch.proofs.Beginning.{begun, satps_of}
use Rattle.walk_watch.proofs.Fitting.{Fits, all-so, and-so, from-so, number-so, or-so, own-so, unless-so}
use Rattle.walk_watch.proofs.Seeing.{found-seen}

module _ (o : Opening) (past : List Event) (log : LoggedWalks) (logged : IsLogged o past log) (w : Wanted) where
  abbrev present : ℕ
  present = satp o past w.hart

  -- what a walk by a satp gives the access, by words that the hart may see
  abbrev Walks : (met : Bool) → (register : ℕ) → Result Leaf Cause → Type 0
  Walks met register result =
      MixedFrom (MaySeeWord o past w.hart (orders_pointers met (asid_of register))) (MaySeeEnd o past w.hart w.va met (asid_of register)) w.va w.kind
      (root_address register) false (levels_from (scheme (paging_of register)).root) met result

  -- walks by the satp count
  abbrev Counts : (met : Bool) → (register : ℕ) → Type 0
  Counts met register = (translates register ≡ true) × ((is_valid register w.va ≡ true) × ((met ≡ true) ⊎ (asid_of register ≡ asid_of present)))

  counts-so : (met : Bool) (register : ℕ) → (is_counted met present w.va register ≡ true) ↔ Counts met register
  counts-so met register =
      and-so (translates register) (is_valid register w.va && (met || (asid_of register == asid_of present))) _ _ (own-so (translates register))
      (and-so (is_valid register w.va) (met || (asid_of register == asid_of present)) _ _ (own-so (is_valid register w.va))
      (or-so met (asid_of register == asid_of present) _ _ (own-so met) (number-so (asid_of register) (asid_of present))))

  -- all that they give fits
  abbrev AllFit : (met : Bool) → (register : ℕ) → Type 0
  AllFit met register = Counts met register → (result : Result Leaf Cause) → Walks met register result → Fits w result

  satp-so : (met : Bool) (register : ℕ) → (satp_fits w met log.notes (memory o past) present register ≡ true) ↔ AllFit met register
  satp-so met register =
      let s : Sought = record { wanted = w; met = met; asid = asid_of register } in
      unless-so (is_counted met present w.va register)
      (fits_from s log.notes (memory o past) (levels_from (scheme (paging_of register)).root) (root_address register) false) _ _ (counts-so met register)
      (from-so s log.notes (memory o past) (MaySeeWord o past w.hart (orders_pointers met (asid_of register))) (MaySeeEnd o past w.hart w.va met (asid_of register))
      (λ level pa x. found-seen o (spot_of s level pa) past log logged x) (levels_from (scheme (paging_of register)).root) (root_address register) false)

  former-so : (met : Bool) (former : FormerSatp) → (former_fits w met log.notes (memory o past) present former ≡ true) ↔ (former.hart ≡ w.hart → AllFit met former.satp)
  former-so met former =
      unless-so (former.hart == w.hart) (satp_fits w met log.notes (memory o past) present former.satp) _ _ (number-so former.hart w.hart) (satp-so met former.satp)

  -- for each satp by which walks may begin
  abbrev EachFits : (met : Bool) → Type 0
  EachFits met = (register : ℕ) → MaySeeSatp o past w.hart met register → AllFit met register

  satps-so : (met : Bool) → (satps_fit w met log.notes (memory o past) present (satps_of met log) ≡ true) ↔ EachFits met
  satps-so met =
      let parts = and-so (satp_fits w met log.notes (memory o past) present present) (list_all (former_fits w met log.notes (memory o past) present) (satps_of met log)) _ _
      (satp-so met present) (all-so (former_fits w met log.notes (memory o past) present) (satps_of met log)) in (
        (λ is register sees. to (parts.0 is) register ((begun met o w.hart register past log logged).0 sees)),
        (λ each. parts.1 (
          each present ((begun met o w.hart present past log logged).1 (inl refl)),
          λ former there. (former-so met former).1 (λ own. each former.satp ((begun met o w.hart former.satp past log logged).1 (inr (at-hart former own there)))),
        )),
      )
    where
      at-hart : (former : FormerSatp) → former.hart ≡ w.hart → IsIn (satps_of met log) former → IsIn (satps_of met log) (record { hart = w.hart; satp = former.satp })
      at-hart former own there = subst (λ (h : ℕ). IsIn (satps_of met log) (record { hart = h; satp = former.satp })) own there

      to : AllFit met present × ((former : FormerSatp) → IsIn (satps_of met log) former → former_fits w met log.notes (memory o past) present former ≡ true)
          → (register : ℕ) → (satp o past w.hart ≡ register) ⊎ IsIn (satps_of met log) (record { hart = w.hart; satp = register }) → AllFit met register
      to both register (inl now) = subst (AllFit met) now both.0
      to both register (inr there) =
          let former : FormerSatp = record { hart = w.hart; satp = register } in
          (former-so met former).0 (both.1 former there) refl

  -- all that walks may give
  abbrev WalksFit : Type 0
  WalksFit = IsTranslated present w.va → (result : Result Leaf Cause) → MixedWalk o past w.hart w.va w.kind result → Fits w result

  pub walks-so : (walks_fit log (memory o past) present w ≡ true) ↔ WalksFit
  walks-so =
      let own = satps-so false in
      let global = satps-so true in
      let both = unless-so (is_translated present w.va)
      (satps_fit w false log.notes (memory o past) present log.own && satps_fit w true log.notes (memory o past) present log.global) _ _ (translated-so present w.va)
      (and-so (satps_fit w false log.notes (memory o past) present log.own) (satps_fit w true log.notes (memory o past) present log.global) _ _ own global) in (
        (λ is translated result walk. by_met (both.0 is translated) result walk walk.met refl),
        (λ all. both.1 (λ translated. (each all translated false, each all translated true))),
      )
    where
      of : (met : Bool) → EachFits met → (result : Result Leaf Cause) (walk : MixedWalk o past w.hart w.va w.kind result) → walk.met ≡ met → Fits w result
      of met fits result walk is =
          fits walk.by_satp (subst (λ (b : Bool). MaySeeSatp o past w.hart b walk.by_satp) is walk.sees)
          (walk.mode, (walk.valid, subst (λ (b : Bool). (b ≡ true) ⊎ (asid_of walk.by_satp ≡ asid_of (satp o past w.hart))) is walk.space)) result
          (subst (λ (b : Bool). Walks b walk.by_satp result) is walk.walk)

      by_met : EachFits false × EachFits true → (result : Result Leaf Cause) (walk : MixedWalk o past w.hart w.va w.kind result) → (b : Bool) → walk.met ≡ b → Fits w result
      by_met fits result walk false is = of false fits.0 result walk is
      by_met fits result walk true is = of true fits.1 result walk is

      each : WalksFit → IsTranslated present w.va → (met : Bool) → EachFits met
      each all translated met register sees counts result walk =
          all translated result (record { by_satp = register; met = met; sees = sees; space = counts.1.1; mode = counts.0; valid = counts.1.0; walk = walk })

-- ---- at a first opening

of-many : {A : Type 0} (n k : ℕ) (x : A) → slice_index_or (replicate n x) k x ≡ x
of-many zero k x = refl
of-many (suc n) zero x = refl
of-many (suc n) (suc k) x = of-many n k x

never-lived : (c : Config) (past : List Event) (h : ℕ) (entry : Entry) → LivedSince (opening_at c) past h entry → ⊥
never-lived c past h entry lived =
    contained [] lived.lived.fill
    (subst (λ (k : Caches). Contains k.tlb.live lived.lived.fill) (of-many c.harts h no_caches) lived.lived.lived)

module _ (c : Config) (past : List Event) (h va : ℕ) (kind : Kind) where
  abbrev o : Opening
  o = opening_at c

  abbrev walked : Result Leaf Cause
  walked = maps (memory o past) (satp o past h) va kind

  -- what a TLB may give, it gives now, or walks do
  given-by : (result : Result Leaf Cause) → MayGive o past h va kind result → (result ≡ walked) ⊎ MixedWalk o past h va kind result
  given-by result (Now is) = inl is
  given-by result (Mixed walk) = inr walk
  given-by result (Kept entry possible match is) = by_source (possible_is_mixed o past h va kind entry possible match)
    where
      by_source : MixedWalk o past h va kind (by_right kind entry.leaf) ⊎ LivedSince o past h entry → (result ≡ walked) ⊎ MixedWalk o past h va kind result
      by_source (inl walk) = inr (subst (MixedWalk o past h va kind) (sym is) walk)
      by_source (inr lived) = absurd (never-lived c past h entry lived)

  module _ (log : LoggedWalks) (logged : IsLogged o past log) where
    -- firm

    abbrev strict : Wanted
    strict = wanted_by h va kind false walked

    strictly : (result : Result Leaf Cause) → Fits strict result → phys_of result va ≡ phys_of walked va
    strictly result (inl same) = same
    strictly result (inr fault) = let e : false ≡ true = fault.0 in absurd (cc)

    pub firm-so : (walks_fit log (memory o past) (satp o past h) strict ≡ true) ↔ IsFirm o past h va kind
    firm-so =
        let decides = walks-so o past log logged strict in (
          (λ is translated result may. by_side (decides.0 is translated) result (given-by result may)),
          (λ firm. decides.1 (λ translated result walk. inl (firm translated result (Mixed walk)))),
        )
      where
        by_side : ((result : Result Leaf Cause) → MixedWalk o past h va kind result → Fits strict result) → (result : Result Leaf Cause)
            → (result ≡ walked) ⊎ MixedWalk o past h va kind result → phys_of result va ≡ phys_of walked va
        by_side fits result (inl is) = ap (λ (r : Result Leaf Cause). phys_of r va) is
        by_side fits result (inr walk) = strictly result (fits result walk)

    -- lenient

    abbrev mild : Wanted
    mild = wanted_by h va kind true walked

    abbrev Lenient : Result Leaf Cause → Type 0
    Lenient result = (phys_of result va ≡ phys_of walked va) ⊎ ((result ≡ Err (page_fault kind)) × IsMapped o past h va kind)

    mapped-by : (found : Result Leaf Cause) → walked ≡ found → is_mapped found ≡ true → IsMapped o past h va kind
    mapped-by (Ok leaf) is mapped = record { leaf = leaf; gives = is }
    mapped-by (Err cause) is mapped = let e : false ≡ true = mapped in absurd (cc)

    fault-of : (result : Result Leaf Cause) (cause : Cause) → phys_of result va ≡ Err cause → result ≡ Err cause
    fault-of (Ok leaf) cause is = cc
    fault-of (Err other) cause is = let same : other ≡ cause = cc in ap (λ (e : Cause). let r : Result Leaf Cause = Err e in r) same

    mildly : (result : Result Leaf Cause) → Fits mild result → Lenient result
    mildly result (inl same) = inl same
    mildly result (inr fault) = inr (fault-of result (page_fault kind) fault.1, mapped-by walked refl fault.0)

    back : (result : Result Leaf Cause) → Lenient result → Fits mild result
    back result (inl same) = inl same
    back result (inr fault) = inr (ap is_mapped fault.1.gives, ap (λ (r : Result Leaf Cause). phys_of r va) fault.0)

    pub lenient-so : (walks_fit log (memory o past) (satp o past h) mild ≡ true) ↔ IsLenient o past h va kind
    lenient-so =
        let decides = walks-so o past log logged mild in (
          (λ is translated result may. by_side (decides.0 is translated) result (given-by result may)),
          (λ lenient. decides.1 (λ translated result walk. back result (lenient translated result (Mixed walk)))),
        )
      where
        by_side : ((result : Result Leaf Cause) → MixedWalk o past h va kind result → Fits mild result) → (result : Result Leaf Cause)
            → (result ≡ walked) ⊎ MixedWalk o past h va kind result → Lenient result
        by_side fits result (inl is) = inl (ap (λ (r : Result Leaf Cause). phys_of r va) is)
        by_side fits result (inr walk) = mildly result (fits result walk)
