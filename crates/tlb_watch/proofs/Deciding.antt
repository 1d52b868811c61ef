-- The tests of steady accesses say what they are named for.
use Rattle.std.proofs.Common.{◌≡◌, ◌↔◌, ℕ, Bool, true, false, not, List, [], ◌∷◌, refl, sym, subst, ap, ◌∙◌, inl, inr}
use Rattle.std.specs.Prelude.{◌&&◌, ◌||◌, ◌==◌, ◌%◌, Option, Result, Ok, Err}
use Rattle.std.specs.Bool.{Decides}
use Rattle.std.specs.List.{All, Contains, list_all}
use Rattle.std.proofs.lemmas.Bool.{eq-eqb, eqb-true}
use Rattle.std.proofs.lemmas.List.Elements.{All-cons, All-head, All-nil, All-tail}
use Rattle.sv39.specs.contracts.cause.CausePartialEq.TheImpl as causes
use Rattle.sv39.specs.declared.cause.Cause.{Cause}
use Rattle.sv39.specs.declared.cause.Cause.TheVariants.{InstructionAddressMisaligned, InstructionAccessFault, LoadAddressMisaligned, LoadAccessFault, StoreAddressMisaligned, StoreAccessFault, InstructionPageFault, LoadPageFault, StorePageFault}
use Rattle.sv39.specs.declared.cause.Kind.{Kind}
use Rattle.sv39.specs.Maps.{maps}
use Rattle.sv39.specs.Satp.{is_valid, translates}
use Rattle.tlb_model.specs.Entries.{Entry, matches}
use Rattle.hart_access.specs.Translations.{IsTranslated}
use Rattle.hart_access.specs.Ways.{translated}
use Rattle.board_core.specs.History.{Event}
use Rattle.board_core.specs.Memory.{address_by, memory, satp}
use Rattle.board_core.specs.Opening.{Opening}
use Rattle.any_tlb.specs.Steady.{IsSteady, phys_of}
use Rattle.any_tlb.specs.Watch.{AgreesWithTables, WatchedAgree}
use Rattle.tlb_watch.specs.declared.hart_address.HartAddress.{HartAddress}
use Rattle.tlb_watch.specs.Deciding.{agrees_with_tables, all_agree, gives_the_same, is_address, is_same_result, is_steady_by, is_steady_in, is_translated}
use Rattle.tlb_watch.specs.Sets.{IsIn}
use Rattle.tlb_watch.specs.Tracked.{IsTracking, addresses_of}
use Rattle.tlb_watch.specs.Watched.{WatchTheSame, WatchedAddress, watch_of}
use Rattle.tlb_watch.proofs.Members.{contained}
use Rattle.tlb_watch.proofs.Tracking.{decided-like}

-- ---- results

causes-decide : (x y : Cause) → Decides (causes.ghosts.eq x y) (x ≡ y)
causes-decide InstructionAddressMisaligned InstructionAddressMisaligned = ((λ e. refl), (λ e. refl))
causes-decide InstructionAccessFault InstructionAccessFault = ((λ e. refl), (λ e. refl))
causes-decide LoadAddressMisaligned LoadAddressMisaligned = ((λ e. refl), (λ e. refl))
causes-decide LoadAccessFault LoadAccessFault = ((λ e. refl), (λ e. refl))
causes-decide StoreAddressMisaligned StoreAddressMisaligned = ((λ e. refl), (λ e. refl))
causes-decide StoreAccessFault StoreAccessFault = ((λ e. refl), (λ e. refl))
causes-decide InstructionPageFault InstructionPageFault = ((λ e. refl), (λ e. refl))
causes-decide LoadPageFault LoadPageFault = ((λ e. refl), (λ e. refl))
causes-decide StorePageFault StorePageFault = ((λ e. refl), (λ e. refl))
causes-decide x y = ((λ e. absurd cc), (λ e. absurd cc))

pub results-decide : (a b : Result ℕ Cause) → (is_same_result a b ≡ true) ↔ (a ≡ b)
results-decide (Ok pa) (Ok other) = (
  (λ e. ap (λ n. let r : Result ℕ Cause = Ok n in r) (eqb-true pa other e)),
  (λ same. let numbers : pa ≡ other = cc in eq-eqb pa other numbers),
)
results-decide (Ok pa) (Err cause) = ((λ e. absurd cc), (λ same. absurd cc))
results-decide (Err cause) (Ok pa) = ((λ e. absurd cc), (λ same. absurd cc))
results-decide (Err cause) (Err other) = (
  (λ e. ap (λ x. let r : Result ℕ Cause = Err x in r) ((causes-decide cause other).0 e)),
  (λ same. let fault : cause ≡ other = cc in (causes-decide cause other).1 fault),
)

-- ---- tests of tests

-- two tests of one thing say the same
pub alike : (a b : Bool) (P : Type 0) → (a ≡ true) ↔ P → (b ≡ true) ↔ P → a ≡ b
alike true true P one other = refl
alike false false P one other = refl
alike true false P one other = let e = other.1 (one.0 refl) in cc
alike false true P one other = let e = one.1 (other.0 refl) in cc

if-so : (b : Bool) (c : Bool) (If Then : Type 0) → (b ≡ true) ↔ If → (c ≡ true) ↔ Then → ((not b || c) ≡ true) ↔ (If → Then)
if-so true c If Then one other = ((λ e so. other.0 e), (λ follows. other.1 (follows (one.0 refl))))
if-so false c If Then one other = ((λ e so. let no = one.1 so in absurd cc), (λ follows. refl))

both-so : (b c : Bool) → (b && c) ≡ true → (b ≡ true) × (c ≡ true)
both-so true true e = (refl, refl)
both-so true false e = cc
both-so false c e = cc

and-so : (b c : Bool) → b ≡ true → c ≡ true → (b && c) ≡ true
and-so true true one other = refl
and-so true false one other = cc
and-so false c one other = cc

all-so : {A : Type 0} (test : A → Bool) (P : A → Type 0) → ((x : A) → (test x ≡ true) ↔ P x) → (xs : List A) → (list_all test xs ≡ true) ↔ All P xs
all-so test P decides [] = ((λ e. All-nil P), (λ all. refl))
all-so test P decides (x ∷ xs) =
    let rest = all-so test P decides xs in (
      (λ e. let parts = both-so (test x) (list_all test xs) e in All-cons P x xs ((decides x).0 parts.0) (rest.0 parts.1)),
      (λ all. and-so (test x) (list_all test xs) ((decides x).1 (All-head P x xs all)) (rest.1 (All-tail P x xs all))),
    )

-- ---- what satp translates, and what entries give

pub translated-so : (satp va : ℕ) → (is_translated satp va ≡ true) ↔ IsTranslated satp va
translated-so satp va = (
  (λ e.
      let first = both-so (va % 8 == 0) _ e in
      let second = both-so (translates satp) (is_valid satp va) first.1 in
      record { aligned = eqb-true (va % 8) 0 first.0; mode = second.0; valid = second.1 }),
  (λ is. and-so (va % 8 == 0) _ (eq-eqb (va % 8) 0 is.aligned) (and-so (translates satp) (is_valid satp va) is.mode is.valid)),
)

module _ (memory_now : ℕ → Option ℕ) (n va : ℕ) (kind : Kind) where
  agrees-so : (entry : Entry) → (agrees_with_tables memory_now n va kind entry ≡ true) ↔ AgreesWithTables memory_now n va kind entry
  agrees-so entry =
      if-so (matches (address_by n va) entry) (gives_the_same memory_now n va kind entry) _ _ ((λ e. e), (λ e. e))
      (results-decide (translated entry.leaf va kind) (phys_of (maps memory_now n va kind) va))

  pub all-agree-so : (entries : List Entry) → (all_agree memory_now n va kind entries ≡ true) ↔ (IsTranslated n va → All (AgreesWithTables memory_now n va kind) entries)
  all-agree-so entries =
      if-so (is_translated n va) (list_all (agrees_with_tables memory_now n va kind) entries) _ _ (translated-so n va)
      (all-so (agrees_with_tables memory_now n va kind) (AgreesWithTables memory_now n va kind) agrees-so entries)

-- ---- watches

address-so : (a b : HartAddress) → (is_address a b ≡ true) ↔ (a ≡ b)
address-so a b = (
  (λ e.
      let parts = both-so (a.hart == b.hart) (a.address == b.address) e in
      let hart = eqb-true a.hart b.hart parts.0 in
      let address = eqb-true a.address b.address parts.1 in
      (λ i. record { hart = hart i; address = address i })),
  (λ same. and-so (a.hart == b.hart) (a.address == b.address) (eq-eqb a.hart b.hart (ap (λ (x : HartAddress). x.hart) same)) (eq-eqb a.address b.address (ap (λ (x : HartAddress). x.address) same))),
)

module _ (o : Opening) (past : List Event) (at : HartAddress) (kind : Kind)
    (decides : WatchedAgree o past at.hart at.address kind ↔ IsSteady o past at.hart at.address kind) where
  abbrev Like : WatchedAddress → Type 0
  Like w = WatchTheSame w (watch_of o past w.at)

  abbrev test : WatchedAddress → Bool
  test = is_steady_by at (memory o past) (satp o past at.hart) kind

  one-so : (w : WatchedAddress) → Like w → w.at ≡ at → (all_agree (memory o past) (satp o past at.hart) w.at.address kind w.entries ≡ true) ↔ IsSteady o past at.hart at.address kind
  one-so w like same =
      decided-like o past w at (memory o past) (satp o past at.hart) kind (all_agree (memory o past) (satp o past at.hart) w.at.address kind w.entries) like same refl refl decides
      (all-agree-so (memory o past) (satp o past at.hart) w.at.address kind w.entries)

  all-there : (watches : List WatchedAddress) → All Like watches → IsSteady o past at.hart at.address kind → list_all test watches ≡ true
  all-there [] like steady = refl
  all-there (w ∷ watches) like steady =
      and-so (test w) (list_all test watches) (by_test (is_address w.at at) refl) (all-there watches (All-tail Like w watches like) steady)
    where
      by_test : (b : Bool) → is_address w.at at ≡ b → (not b || all_agree (memory o past) (satp o past at.hart) w.at.address kind w.entries) ≡ true
      by_test true is = (one-so w (All-head Like w watches like) ((address-so w.at at).0 is)).1 steady
      by_test false is = refl

  found : (watches : List WatchedAddress) → All Like watches → IsIn (addresses_of watches) at → list_all test watches ≡ true → IsSteady o past at.hart at.address kind
  found [] like there steady = absurd there
  found (w ∷ watches) like (inl same) steady =
      let parts = both-so (test w) (list_all test watches) steady in
      let own : is_address w.at at ≡ true = (address-so w.at at).1 same in
      let agree : (not true || all_agree (memory o past) (satp o past at.hart) w.at.address kind w.entries) ≡ true =
      ap (λ (b : Bool). not b || all_agree (memory o past) (satp o past at.hart) w.at.address kind w.entries) (sym own) ∙ parts.0 in
      (one-so w (All-head Like w watches like) same).0 agree
  found (w ∷ watches) like (inr there) steady =
      let parts = both-so (test w) (list_all test watches) steady in
      found watches (All-tail Like w watches like) there parts.1

  pub watches-so : (addresses : List HartAddress) (watches : List WatchedAddress) → IsTracking o past addresses watches → Contains addresses at
      → (is_steady_in watches at (memory o past) (satp o past at.hart) kind ≡ true) ↔ IsSteady o past at.hart at.address kind
  watches-so addresses watches tracks there = (
    (λ steady. found watches tracks.each (contained (addresses_of watches) at (subst (λ (l : List HartAddress). Contains l at) (sym tracks.are) there)) steady),
    (λ steady. all-there watches tracks.each steady),
  )
