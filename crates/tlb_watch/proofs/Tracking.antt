-- What a tracker has after one event more.
use Rattle.std.proofs.Common.{◌≡◌, ◌↔◌, ℕ, zero, suc, ◌<◌, ◌≤◌, Bool, List, [], ◌∷◌, ◌++◌, length, map, replicate, refl, sym, subst, ap, ◌∙◌}
use Rattle.std.specs.Prelude.{IsTrue, Option, slice_index_or}
use Rattle.std.specs.List.{All, AllWithin, AllZip, Contains}
use Rattle.std.proofs.lemmas.List.Elements.{All-cons, All-contains, All-from_all_within, All-head, All-map, All-nil, All-tail, AllWithin-upto}
use Rattle.rfence.specs.Applied.{Effect}
use Rattle.sv39.specs.declared.cause.Kind.{Kind}
use Rattle.hart_access.specs.Translations.{IsTranslated}
use Rattle.tlb_model.specs.declared.cache.Numbered.{Numbered}
use Rattle.tlb_model.specs.declared.caches.Caches.{Caches}
use Rattle.tlb_model.specs.declared.fence.Flush.{Flush}
use Rattle.tlb_model.specs.Entries.{Entry}
use Rattle.board_terms.specs.declared.config.Config.{Config}
use Rattle.board_core.specs.History.{Event}
use Rattle.board_core.specs.Memory.{memory, satp}
use Rattle.board_core.specs.Opening.{Opening, no_caches, opening_at}
use Rattle.any_tlb.specs.declared.watcher.Walking.TheVariants.{Had}
use Rattle.any_tlb.specs.Effects.{effect_at}
use Rattle.any_tlb.specs.Steady.{IsSteady}
use Rattle.any_tlb.specs.Watch.{AgreesWithTables, WatchedAgree, given_by, watched}
use Rattle.tlb_watch.specs.declared.effect.CacheEffect.{CacheEffect}
use Rattle.tlb_watch.specs.declared.hart_address.HartAddress.{HartAddress}
use Rattle.tlb_watch.specs.Effects.{effect_on}
use Rattle.tlb_watch.specs.Sets.{HaveSameMembers}
use Rattle.tlb_watch.specs.Tracked.{Follows, IsTracking, addresses_of, first_watch, satp_in}
use Rattle.tlb_watch.specs.Watched.{WatchTheSame, WatchedAddress, after_event, watch_of}
use Rattle.tlb_watch.proofs.Giving.{like-after, like-on, like-self}
use Rattle.tlb_watch.proofs.Members.{all-same, same-turned}

-- ---- one event more

module _ (o : Opening) (event : Event) (past : List Event) (effect : CacheEffect) (satps : List ℕ) (does : (h : ℕ) → effect_on effect h ≡ effect_at o past event h)
    (have : (h : ℕ) → h < o.config.harts → satp_in satps h ≡ satp o (event ∷ past) h) where
  one-more : (before after : WatchedAddress) → before.at.hart < o.config.harts → WatchTheSame before (watch_of o past before.at)
      → Follows effect (memory o (event ∷ past)) satps before after → WatchTheSame after (watch_of o (event ∷ past) after.at)
  one-more before after present like follows =
      let h = before.at.hart in
      let changed : WatchedAddress → WatchedAddress = after_event (effect_on effect h) (memory o (event ∷ past)) (satp_in satps h) in
      let on = like-on after (changed before) (changed (watch_of o past before.at)) follows
      (like-after (effect_on effect h) (memory o (event ∷ past)) (satp_in satps h) before (watch_of o past before.at) like) in
      let is : changed (watch_of o past before.at) ≡ watch_of o (event ∷ past) before.at =
      ap (λ (done : Effect Flush). after_event done (memory o (event ∷ past)) (satp_in satps h) (watch_of o past before.at)) (does h)
      ∙ ap (λ (n : ℕ). after_event (effect_at o past event h) (memory o (event ∷ past)) n (watch_of o past before.at)) (have h present) in
      let reached : WatchTheSame after (watch_of o (event ∷ past) before.at) = subst (λ (w : WatchedAddress). WatchTheSame after w) is on in
      subst (λ (at : HartAddress). WatchTheSame after (watch_of o (event ∷ past) at)) (sym follows.at) reached

  all-more : (before after : List WatchedAddress) → All (λ (at : HartAddress). at.hart < o.config.harts) (addresses_of before)
      → All (λ (w : WatchedAddress). WatchTheSame w (watch_of o past w.at)) before → AllZip (Follows effect (memory o (event ∷ past)) satps) before after
      → All (λ (w : WatchedAddress). WatchTheSame w (watch_of o (event ∷ past) w.at)) after
  all-more [] [] present like follows = All-nil (λ (w : WatchedAddress). WatchTheSame w (watch_of o (event ∷ past) w.at))
  all-more [] (a ∷ after) present like follows = absurd follows
  all-more (b ∷ before) [] present like follows = absurd follows
  all-more (b ∷ before) (a ∷ after) present like follows =
      let Present : HartAddress → Type 0 = λ at. at.hart < o.config.harts in
      let Like : WatchedAddress → Type 0 = λ w. WatchTheSame w (watch_of o past w.at) in
      All-cons (λ (w : WatchedAddress). WatchTheSame w (watch_of o (event ∷ past) w.at)) a after
      (one-more b a (All-head Present b.at (addresses_of before) present) (All-head Like b before like) follows.0)
      (all-more before after (All-tail Present b.at (addresses_of before) present) (All-tail Like b before like) follows.1)

same-addresses : (effect : CacheEffect) (memory : ℕ → Option ℕ) (satps : List ℕ) (before after : List WatchedAddress) → AllZip (Follows effect memory satps) before after → addresses_of after ≡ addresses_of before
same-addresses effect memory satps [] [] follows = refl
same-addresses effect memory satps [] (a ∷ after) follows = absurd follows
same-addresses effect memory satps (b ∷ before) [] follows = absurd follows
same-addresses effect memory satps (b ∷ before) (a ∷ after) follows =
    ap (λ (at : HartAddress). at ∷ addresses_of after) follows.0.at ∙ ap (λ (rest : List HartAddress). b.at ∷ rest) (same-addresses effect memory satps before after follows.1)

pub tracked-more : (o : Opening) (event : Event) (past : List Event) (addresses : List HartAddress) (effect : CacheEffect) (satps : List ℕ) (before after : List WatchedAddress)
    → ((h : ℕ) → effect_on effect h ≡ effect_at o past event h) → ((h : ℕ) → h < o.config.harts → satp_in satps h ≡ satp o (event ∷ past) h)
    → IsTracking o past addresses before → AllZip (Follows effect (memory o (event ∷ past)) satps) before after → IsTracking o (event ∷ past) addresses after
tracked-more o event past addresses effect satps before after does have tracks follows = record {
  are = same-addresses effect (memory o (event ∷ past)) satps before after follows ∙ tracks.are;
  present = tracks.present;
  each = all-more o event past effect satps does have before after
      (subst (λ (l : List HartAddress). All (λ (at : HartAddress). at.hart < o.config.harts) l) (sym tracks.are) tracks.present) tracks.each follows;
}

-- ---- at a first opening

of-many : {A : Type 0} (n k : ℕ) (x : A) → slice_index_or (replicate n x) k x ≡ x
of-many zero k x = refl
of-many (suc n) zero x = refl
of-many (suc n) (suc k) x = of-many n k x

first-like : (c : Config) (at : HartAddress) → WatchTheSame (first_watch at) (watch_of (opening_at c) [] at)
first-like c at =
    let bare : 0 ≡ satp (opening_at c) [] at.hart = sym (of-many c.harts at.hart 0) in
    let empty : no_caches ≡ slice_index_or (replicate c.harts no_caches) at.hart no_caches = sym (of-many c.harts at.hart no_caches) in
    subst (λ (n : ℕ). WatchTheSame (first_watch at) (record { at = at; walks = Had n ∷ []; entries = map (λ (x : Numbered Entry). x.item) (slice_index_or (replicate c.harts no_caches) at.hart no_caches).tlb.live ++ given_by (memory (opening_at c) []) at.address [] (Had n ∷ []) }))
    bare
    (subst (λ (k : Caches). WatchTheSame (first_watch at) (record { at = at; walks = Had 0 ∷ []; entries = map (λ (x : Numbered Entry). x.item) k.tlb.live ++ given_by (memory (opening_at c) []) at.address [] (Had 0 ∷ []) }))
    empty (like-self (first_watch at)))

pub tracked-first : (c : Config) (addresses : List HartAddress) → All (λ (at : HartAddress). at.hart < c.harts) addresses → IsTracking (opening_at c) [] addresses (map first_watch addresses)
tracked-first c addresses present = record { are = same addresses; present = present; each = like addresses }
  where
    same : (addresses : List HartAddress) → addresses_of (map first_watch addresses) ≡ addresses
    same [] = refl
    same (at ∷ addresses) = ap (λ (rest : List HartAddress). at ∷ rest) (same addresses)

    like : (addresses : List HartAddress) → All (λ (w : WatchedAddress). WatchTheSame w (watch_of (opening_at c) [] w.at)) (map first_watch addresses)
    like [] = All-nil (λ (w : WatchedAddress). WatchTheSame w (watch_of (opening_at c) [] w.at))
    like (at ∷ addresses) = All-cons (λ (w : WatchedAddress). WatchTheSame w (watch_of (opening_at c) [] w.at)) (first_watch at) (map first_watch addresses) (first-like c at) (like addresses)

-- ---- what a watch says

pub decided-like : (o : Opening) (past : List Event) (w : WatchedAddress) (at : HartAddress) (now : ℕ → Option ℕ) (n : ℕ) (kind : Kind) (says : Bool)
    → WatchTheSame w (watch_of o past w.at) → w.at ≡ at → now ≡ memory o past → n ≡ satp o past at.hart
    → (WatchedAgree o past at.hart at.address kind ↔ IsSteady o past at.hart at.address kind)
    → (IsTrue says ↔ (IsTranslated n w.at.address → All (AgreesWithTables now n w.at.address kind) w.entries))
    → IsTrue says ↔ IsSteady o past at.hart at.address kind
decided-like o past w at now n kind says like same ram register decides answered =
    let members : HaveSameMembers w.entries (watched o past at.hart at.address) = subst (λ (at : HartAddress). HaveSameMembers w.entries (watched o past at.hart at.address)) same like.entries in
    let Agrees : Entry → Type 0 = AgreesWithTables (memory o past) (satp o past at.hart) at.address kind in
    let answer : IsTrue says ↔ (IsTranslated (satp o past at.hart) at.address → All Agrees w.entries) =
    subst (λ (n : ℕ). IsTrue says ↔ (IsTranslated n at.address → All (AgreesWithTables (memory o past) n at.address kind) w.entries)) register
    (subst (λ (m : ℕ → Option ℕ). IsTrue says ↔ (IsTranslated n at.address → All (AgreesWithTables m n at.address kind) w.entries)) ram
    (subst (λ (at : HartAddress). IsTrue says ↔ (IsTranslated n at.address → All (AgreesWithTables now n at.address kind) w.entries)) same answered)) in (
      λ holds. decides.0 (λ translated. all-same Agrees (watched o past at.hart at.address) w.entries (same-turned w.entries (watched o past at.hart at.address) members) (answer.0 holds translated)),
      λ steady. answer.1 (λ translated. all-same Agrees w.entries (watched o past at.hart at.address) members (decides.1 steady translated)),
    )

pub decided : (o : Opening) (past : List Event) (addresses : List HartAddress) (watches : List WatchedAddress) (w : WatchedAddress) (at : HartAddress) (now : ℕ → Option ℕ) (n : ℕ) (kind : Kind) (says : Bool)
    → IsTracking o past addresses watches → Contains watches w → w.at ≡ at → now ≡ memory o past → n ≡ satp o past at.hart
    → (WatchedAgree o past at.hart at.address kind ↔ IsSteady o past at.hart at.address kind)
    → (IsTrue says ↔ (IsTranslated n w.at.address → All (AgreesWithTables now n w.at.address kind) w.entries))
    → IsTrue says ↔ IsSteady o past at.hart at.address kind
decided o past addresses watches w at now n kind says tracks there same ram register decides answered =
    decided-like o past w at now n kind says (All-contains (λ (w : WatchedAddress). WatchTheSame w (watch_of o past w.at)) watches w tracks.each there) same ram register decides answered

pub unwatched : (o : Opening) (past : List Event) (addresses : List HartAddress) (watches : List WatchedAddress) (at : HartAddress) → IsTracking o past addresses watches
    → (Contains (addresses_of watches) at → ⊥) → Contains addresses at → ⊥
unwatched o past addresses watches at tracks none there = none (subst (λ (l : List HartAddress). Contains l at) (sym tracks.are) there)

pub nowhere : (watches : List WatchedAddress) (at : HartAddress) (i : ℕ) → length watches ≤ i → AllWithin (λ (w : WatchedAddress). w.at ≡ at → ⊥) watches 0 i
    → Contains (addresses_of watches) at → ⊥
nowhere watches at i past none there =
    let Other : WatchedAddress → Type 0 = λ w. w.at ≡ at → ⊥ in
    let all : All Other watches = All-from_all_within Other watches (AllWithin-upto Other watches 0 i (length watches) past none) in
    All-contains (λ (a : HartAddress). a ≡ at → ⊥) (addresses_of watches) at (All-map (λ (a : HartAddress). a ≡ at → ⊥) (λ (w : WatchedAddress). w.at) watches all) there refl
