-- Events after which what is watched is like before.
use Rattle.std.proofs.Common.{◌≡◌, ℕ, List, [], ◌∷◌, ◌++◌, refl, sym, ap, subst, ◌∙◌, inl, inr}
use Rattle.std.specs.Prelude.{◌⊎◌, Option}
use Rattle.std.proofs.lemmas.List.Elements.{All-weaker}
use Rattle.tlb_model.specs.Entries.{Entry}
use Rattle.board_core.specs.History.{Event}
use Rattle.board_core.specs.Memory.{memory, satp}
use Rattle.board_core.specs.Opening.{Opening}
use Rattle.any_tlb.specs.declared.watcher.Walking.{Walking}
use Rattle.any_tlb.specs.declared.watcher.Walking.TheVariants.{Had}
use Rattle.any_tlb.specs.Effects.{effect_at}
use Rattle.any_tlb.specs.Quiet.{HasNoEffect}
use Rattle.any_tlb.specs.Watch.{given_by, given_for, logged, spared, walks_of, watched}
use Rattle.tlb_watch.specs.declared.hart_address.HartAddress.{HartAddress}
use Rattle.tlb_watch.specs.Sets.{HaveSameMembers, IsIn}
use Rattle.tlb_watch.specs.Tracked.{IsTracking}
use Rattle.tlb_watch.specs.Watched.{GiveTheSame, WatchTheSame, WatchedAddress, watch_of}
use Rattle.tlb_watch.proofs.Giving.{given-on, like-on}
use Rattle.tlb_watch.proofs.Lists.{filter-all}
use Rattle.tlb_watch.proofs.Members.{in-cases, in-left, in-right}

module _ {A : Type 0} where
  -- what comes once more is there already
  again : (xs more : List A) → ((x : A) → IsIn more x → IsIn xs x) → HaveSameMembers xs (xs ++ more)
  again xs more within x = (λ there. in-left xs more x there, λ there. by_side (in-cases xs more x there))
    where
      by_side : IsIn xs x ⊎ IsIn more x → IsIn xs x
      by_side (inl there) = there
      by_side (inr there) = within x there

-- a hart's walks end with its satp
ends-with : (o : Opening) (past : List Event) (h : ℕ) → (front : List Walking) × (walks_of o past h ≡ front ++ Had (satp o past h) ∷ [])
ends-with o [] h = ([], refl)
ends-with o (event ∷ past) h = (logged (effect_at o past event h) (walks_of o past h), refl)

-- what the walks give is watched
given-watched : (o : Opening) (past : List Event) (h va : ℕ) (entry : Entry) → IsIn (given_by (memory o past) va [] (walks_of o past h)) entry → IsIn (watched o past h va) entry
given-watched o [] h va entry there = in-right _ (given_by (memory o []) va [] (walks_of o [] h)) entry there
given-watched o (event ∷ past) h va entry there = in-right _ (given_by (memory o (event ∷ past)) va [] (walks_of o (event ∷ past) h)) entry there

module _ (o : Opening) (event : Event) (past : List Event) (h : ℕ) (quiet : HasNoEffect o event past h) where
  -- the hart has its satp once more
  walks-on : walks_of o (event ∷ past) h ≡ walks_of o past h ++ Had (satp o past h) ∷ []
  walks-on = (λ i. logged (quiet.effect i) (walks_of o past h) ++ Had (quiet.satp i) ∷ [])

  given-more : (m : ℕ → Option ℕ) (va : ℕ) → given_by m va [] (walks_of o (event ∷ past) h) ≡ given_by m va [] (walks_of o past h) ++ given_for m (satp o past h) va
  given-more m va = ap (given_by m va []) walks-on ∙ given-on m va [] (walks_of o past h) (Had (satp o past h) ∷ [])

  given-before : (m : ℕ → Option ℕ) (va : ℕ) (entry : Entry) → IsIn (given_for m (satp o past h) va) entry → IsIn (given_by m va [] (walks_of o past h)) entry
  given-before m va entry there =
      let ends = ends-with o past h in
      let is : given_by m va [] (walks_of o past h) ≡ given_by m va [] ends.0 ++ given_for m (satp o past h) va =
      ap (given_by m va []) ends.1 ∙ given-on m va [] ends.0 (Had (satp o past h) ∷ []) in
      subst (λ (l : List Entry). IsIn l entry) (sym is) (in-right (given_by m va [] ends.0) (given_for m (satp o past h) va) entry there)

  walks-like : GiveTheSame (walks_of o past h) (walks_of o (event ∷ past) h)
  walks-like m va =
      subst (HaveSameMembers (given_by m va [] (walks_of o past h))) (sym (given-more m va))
      (again (given_by m va [] (walks_of o past h)) (given_for m (satp o past h) va) (given-before m va))

  entries-like : (va : ℕ) → HaveSameMembers (watched o past h va) (watched o (event ∷ past) h va)
  entries-like va =
      let given : (m : ℕ → Option ℕ) → List Entry = λ m. given_by m va [] (walks_of o (event ∷ past) h) in
      let kept : watched o past h va ≡ spared (effect_at o past event h) (watched o past h va) =
      filter-all (watched o past h va) ∙ (λ i. spared (sym quiet.effect i) (watched o past h va)) in
      let is : watched o past h va ++ given (memory o past) ≡ watched o (event ∷ past) h va = (λ i. kept i ++ given (sym quiet.memory i)) in
      subst (HaveSameMembers (watched o past h va)) is
      (again (watched o past h va) (given (memory o past)) (λ entry there. given-watched o past h va entry ((walks-like (memory o past) va entry).1 there)))

pub tracked-quiet : (o : Opening) (event : Event) (past : List Event) (addresses : List HartAddress) (watches : List WatchedAddress) → ((h : ℕ) → HasNoEffect o event past h)
    → IsTracking o past addresses watches → IsTracking o (event ∷ past) addresses watches
tracked-quiet o event past addresses watches quiet tracks = record {
  are = tracks.are;
  present = tracks.present;
  each = All-weaker (λ (w : WatchedAddress). WatchTheSame w (watch_of o past w.at)) (λ (w : WatchedAddress). WatchTheSame w (watch_of o (event ∷ past) w.at))
      (λ w like. like-on w (watch_of o past w.at) (watch_of o (event ∷ past) w.at) like (record {
        at = refl;
        walks = walks-like o event past w.at.hart (quiet w.at.hart);
        entries = entries-like o event past w.at.hart (quiet w.at.hart) w.at.address;
      })) watches tracks.each;
}
