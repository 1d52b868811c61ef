-- What a write of one hart does to the set of the interruptible harts.
use Rattle.std.proofs.Common.{◌≡◌, ◌≢◌, ℕ, zero, suc, ◌∷◌, ◌<◌, ◌≤◌, true, false, List, [], length, set, map, replicate, refl, sym, ap, ◌∙◌, arith, inl, inr}
use Rattle.std.specs.Prelude.{◌||◌, ◌&&◌, not, if◌then◌else◌}
use Rattle.std.specs.List.{range_with_len}
use Rattle.std.proofs.lemmas.Bool.Decides.{eqb_tells, leb_tells}
use Rattle.std.proofs.lemmas.List.{get_or-map, get_or-replicate, get_or-set_other, get_or-set_same, get_or_past, length-map, length-replicate, length-set, map-set}
use Rattle.hart_mask.specs.Ids.{with_id, without_id}
use Rattle.hart_mask.proofs.Sets.{ids_where-none, with_id-by, without_id-by}
use Rattle.hsm.specs.declared.hart.EntryPoint.{EntryPoint}
use Rattle.hsm.specs.declared.phase.Phase.{Phase}
use Rattle.hsm.specs.declared.phase.Phase.TheVariants.{Stopped}
use Rattle.hsm.specs.Harts.{Hart, resting, starting}
use Rattle.hsm.specs.Interruptible.{interruptible_ids}
use Rattle.hsm.specs.Inside.Phases.{AreKept, hart_of}
use Rattle.hsm.specs.States.{is_interruptible}
use Rattle.hsm.specs.Transitions.{hart_at, hart_at_opening, opening}

module _ (harts : List Hart) (h : ℕ) (hart : Hart) (inside : h < length harts) where
  at-written : (i : ℕ) → i ≡ h → hart_at (set harts h hart) i ≡ hart
  at-written i same = ap (hart_at (set harts h hart)) same ∙ get_or-set_same harts h hart resting inside

  at-others : (i : ℕ) → i ≢ h → hart_at (set harts h hart) i ≡ hart_at harts i
  at-others i other = get_or-set_other harts h i hart resting other

  -- a hart that comes to an interruptible state is in the set, and the others are in it as they were
  interruptible-with : is_interruptible hart.state ≡ true → with_id (interruptible_ids harts) h ≡ interruptible_ids (set harts h hart)
  interruptible-with is = with_id-by _ _ h (λ i _. elim (eqb_tells i h) [
    | inl same ↦
        ap (λ b. b || is_interruptible (hart_at harts i).state) same.0
        ∙ sym is
        ∙ sym (ap (λ (at : Hart). is_interruptible at.state) (at-written i same.1))
    | inr other ↦
        ap (λ b. b || is_interruptible (hart_at harts i).state) other.0
        ∙ sym (ap (λ (at : Hart). is_interruptible at.state) (at-others i other.1))
  ])

  -- one that comes to another state is out of it
  interruptible-without : is_interruptible hart.state ≡ false → without_id (interruptible_ids harts) h ≡ interruptible_ids (set harts h hart)
  interruptible-without isn't = without_id-by _ _ h (λ i _. elim (eqb_tells i h) [
    | inl same ↦
        ap (λ b. not b && is_interruptible (hart_at harts i).state) same.0
        ∙ sym isn't
        ∙ sym (ap (λ (at : Hart). is_interruptible at.state) (at-written i same.1))
    | inr other ↦
        ap (λ b. not b && is_interruptible (hart_at harts i).state) other.0
        ∙ sym (ap (λ (at : Hart). is_interruptible at.state) (at-others i other.1))
  ])

module _ (phases : List Phase) (h : ℕ) (phase : Phase) (ids : List ℕ) (kept : AreKept (map hart_of phases) ids) (inside : h < length (map hart_of phases)) where
  within : length (map hart_of (set phases h phase)) ≤ 128
  within = omega (arith, kept.limit, length-map phases hart_of, length-map (set phases h phase) hart_of, length-set phases h phase)

  pub AreKept-with : (new : List ℕ) → new ≡ with_id ids h → is_interruptible (hart_of phase).state ≡ true
      → AreKept (map hart_of (set phases h phase)) new
  AreKept-with new put is = record {
    limit = within;
    interruptible =
        put
        ∙ ap (λ before. with_id before h) kept.interruptible
        ∙ interruptible-with (map hart_of phases) h (hart_of phase) inside is
        ∙ sym (ap interruptible_ids (map-set hart_of phases h phase));
  }

  pub AreKept-without : (new : List ℕ) → new ≡ without_id ids h → is_interruptible (hart_of phase).state ≡ false
      → AreKept (map hart_of (set phases h phase)) new
  AreKept-without new put isn't = record {
    limit = within;
    interruptible =
        put
        ∙ ap (λ before. without_id before h) kept.interruptible
        ∙ interruptible-without (map hart_of phases) h (hart_of phase) inside isn't
        ∙ sym (ap interruptible_ids (map-set hart_of phases h phase));
  }

module _ (harts boot_hart : ℕ) (boot : EntryPoint) where
  hart_at_opening-not : (h : ℕ) → is_interruptible (hart_at_opening boot_hart boot h).state ≡ false
  hart_at_opening-not h = elim (eqb_tells h boot_hart) [
    | inl same ↦ ap (λ b. is_interruptible (if b then starting boot else resting).state) same.0
    | inr other ↦ ap (λ b. is_interruptible (if b then starting boot else resting).state) other.0
  ]

  -- at the opening no hart is interruptible
  pub none-at-opening : interruptible_ids (opening harts boot_hart boot) ≡ []
  none-at-opening = ids_where-none _ (λ i _. elim (leb_tells (length (range_with_len 0 harts)) i) [
    | inl past ↦
        ap (λ (at : Hart). is_interruptible at.state)
        (get_or_past (opening harts boot_hart boot) i resting (omega (arith, past.1, length-map (range_with_len 0 harts) (hart_at_opening boot_hart boot))))
    | inr there ↦
        ap (λ (at : Hart). is_interruptible at.state) (get_or-map (hart_at_opening boot_hart boot) (range_with_len 0 harts) i 0 resting there.1)
        ∙ hart_at_opening-not _
  ])

map-replicate : {A B : Type 0} (f : A → B) (a : A) (n : ℕ) → map f (replicate n a) ≡ replicate n (f a)
map-replicate f a zero = refl
map-replicate f a (suc n) = ap (λ rest. f a ∷ rest) (map-replicate f a n)

-- so many harts that are all STOPPED, and none in the set
none-at-rest : (n : ℕ) → interruptible_ids (replicate n resting) ≡ []
none-at-rest n = ids_where-none _ (λ i _. elim (leb_tells n i) [
  | inl past ↦ ap (λ (at : Hart). is_interruptible at.state) (get_or_past (replicate n resting) i resting (omega (arith, past.1, length-replicate n resting)))
  | inr there ↦ ap (λ (at : Hart). is_interruptible at.state) (get_or-replicate n i resting resting there.1)
])

pub rests : (phases fresh : List Phase) → fresh ≡ replicate (length phases) Stopped → map hart_of fresh ≡ replicate (length (map hart_of phases)) resting
rests phases fresh is = ap (map hart_of) is ∙ map-replicate hart_of Stopped (length phases) ∙ ap (λ n. replicate n resting) (sym (length-map phases hart_of))

pub AreKept-none : (phases fresh : List Phase) (ids new : List ℕ) → AreKept (map hart_of phases) ids → fresh ≡ replicate (length phases) Stopped → new ≡ []
    → AreKept (map hart_of fresh) new
AreKept-none phases fresh ids new kept is none = record {
  limit = omega (arith, kept.limit, length-map phases hart_of, ap length is, length-replicate (length phases) Stopped, length-map fresh hart_of);
  interruptible = none ∙ sym (none-at-rest (length (map hart_of phases))) ∙ ap interruptible_ids (sym (rests phases fresh is));
}
