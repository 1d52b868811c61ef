-- What is kept of an access, after one event more.
use Rattle.std.proofs.Common.{◌≡◌, ◌↔◌, ℕ, ◌==◌, ◌||◌, ◌&&◌, not, Bool, true, false, List, [], ◌∷◌, refl, sym, ap, subst, ◌∙◌, inl, inr, if◌then◌else◌}
use Rattle.std.specs.Prelude.{◌⊎◌, filter}
use Rattle.std.proofs.lemmas.List.Folds.{list_any-append}
use Rattle.tlb_model.specs.declared.fence.Fence.{Fence}
use Rattle.board_core.specs.History.{Event}
use Rattle.board_core.specs.Opening.{Opening}
use Rattle.access_marks.specs.declared.call_step.CallStep.{CallStep}
use Rattle.access_marks.specs.declared.call_step.CallStep.TheVariants.{Asked, Polled, Dropped, Other}
use Rattle.access_marks.specs.declared.entry_use.EntryUse.{EntryUse}
use Rattle.access_marks.specs.declared.use_watch.UseWatch.{UseWatch}
use Rattle.access_marks.specs.Inside.Missing.{Asks, HasAsked, HasMissed, IsOther, IsWatch, asking_after, call_step, is_among, is_of_use, missed_after, with_hart}
use Rattle.std.proofs.lemmas.Bool.{eq-eqb, eqb-true}

or-true : (b : Bool) → (b || true) ≡ true
or-true true = refl
or-true false = refl

or-false : (b : Bool) → (b || false) ≡ b
or-false true = refl
or-false false = refl

-- ---- harts with one more

kept-among : (x y : ℕ) → (x == y) ≡ false → (harts : List ℕ) → is_among (filter (λ z. not (z == x)) harts) y ≡ is_among harts y
kept-among x y apart [] = refl
kept-among x y apart (z ∷ harts) = by_test (z == x) refl (kept-among x y apart harts)
  where
    by_test : (b : Bool) → (z == x) ≡ b → is_among (filter (λ z. not (z == x)) harts) y ≡ is_among harts y
        → is_among (if not b then z ∷ filter (λ z. not (z == x)) harts else filter (λ z. not (z == x)) harts) y ≡ ((z == y) || is_among harts y)
    by_test true is rest =
        rest ∙ ap (λ (b : Bool). b || is_among harts y) (sym (ap (λ (n : ℕ). n == y) (eqb-true z x is) ∙ apart))
    by_test false is rest = ap (λ (b : Bool). (z == y) || b) rest

pub among-with : (x y : ℕ) (harts : List ℕ) → is_among (with_hart x harts) y ≡ (is_among harts y || (x == y))
among-with x y harts = list_any-append (λ z. z == y) (filter (λ z. not (z == x)) harts) (x ∷ []) ∙ by_test (x == y) refl
  where
    by_test : (b : Bool) → (x == y) ≡ b → (is_among (filter (λ z. not (z == x)) harts) y || (b || false)) ≡ (is_among harts y || b)
    by_test true is = or-true (is_among (filter (λ z. not (z == x)) harts) y) ∙ sym (or-true (is_among harts y))
    by_test false is = ap (λ (b : Bool). b || false) (kept-among x y is harts)

-- ---- a step

both : (a b : Bool) → (a && b) ≡ true → (a ≡ true) × (b ≡ true)
both true true is = (refl, refl)
both true false is = cc
both false b is = cc

module _ (of : EntryUse) (was : Bool) (Was : Type 0) (harts : List ℕ) (HasAsked : ℕ → Type 0) (others : (was ≡ true) ↔ Was) (asking : (x : ℕ) → (is_among harts x ≡ true) ↔ HasAsked x) where
  asked-one : (y : ℕ) (fence : Fence) (x : ℕ) (b : Bool) → (was && is_of_use fence of) ≡ b
      → (is_among (if b then with_hart y harts else harts) x ≡ true) ↔ ((Asks (Asked y fence) of x × Was) ⊎ (HasAsked x × (Asked y fence ≡ Dropped → ⊥)))
  asked-one y fence x true is =
      let so = both was (is_of_use fence of) is in (
        λ among. by_test (y == x) refl (sym (among-with y x harts) ∙ among),
        λ had. among-with y x harts ∙ from had,
      )
    where
      by_test : (b : Bool) → (y == x) ≡ b → (is_among harts x || b) ≡ true → (Asks (Asked y fence) of x × Was) ⊎ (HasAsked x × (Asked y fence ≡ Dropped → ⊥))
      by_test true same among =
          let so = both was (is_of_use fence of) is in
          inl ((fence, ap (λ (n : ℕ). let step : CallStep = Asked n fence in step) (eqb-true y x same), so.1), others.0 so.0)
      by_test false apart among = inr ((asking x).0 (sym (or-false (is_among harts x)) ∙ among), λ bad. cc)

      from : (Asks (Asked y fence) of x × Was) ⊎ (HasAsked x × (Asked y fence ≡ Dropped → ⊥)) → (is_among harts x || (y == x)) ≡ true
      from (inl ((other, same, covers), w)) =
          let here : y ≡ x = cc in
          ap (λ (b : Bool). is_among harts x || b) (eq-eqb y x here) ∙ or-true (is_among harts x)
      from (inr (had, kept)) = ap (λ (b : Bool). b || (y == x)) ((asking x).1 had)
  asked-one y fence x false is = (λ among. inr ((asking x).0 among, λ bad. cc), from)
    where
      from : (Asks (Asked y fence) of x × Was) ⊎ (HasAsked x × (Asked y fence ≡ Dropped → ⊥)) → is_among harts x ≡ true
      from (inl ((other, same, covers), w)) =
          let here : fence ≡ other = cc in
          let was_so = others.1 w in
          let fits : is_of_use fence of ≡ true = ap (λ (f : Fence). is_of_use f of) here ∙ covers in
          let yes : (was && is_of_use fence of) ≡ true = (λ i. was_so i && fits i) in
          absurd (let no = sym yes ∙ is in cc)
      from (inr (had, kept)) = (asking x).1 had

  pub asking-step : (step : CallStep) (x : ℕ) → (is_among (asking_after step of was harts) x ≡ true) ↔ ((Asks step of x × Was) ⊎ (HasAsked x × (step ≡ Dropped → ⊥)))
  asking-step (Asked y fence) x = asked-one y fence x (was && is_of_use fence of) refl
  asking-step (Polled y) x = (λ among. inr ((asking x).0 among, λ bad. cc), from)
    where
      from : (Asks (Polled y) of x × Was) ⊎ (HasAsked x × (Polled y ≡ Dropped → ⊥)) → is_among harts x ≡ true
      from (inl ((other, same, covers), w)) = cc
      from (inr (had, kept)) = (asking x).1 had
  asking-step Dropped x = (λ among. cc, from)
    where
      from : (Asks Dropped of x × Was) ⊎ (HasAsked x × ((let d : CallStep = Dropped in d) ≡ Dropped → ⊥)) → is_among [] x ≡ true
      from (inl ((other, same, covers), w)) = cc
      from (inr (had, kept)) = absurd (kept refl)
  asking-step Other x = (λ among. inr ((asking x).0 among, λ bad. cc), from)
    where
      from : (Asks Other of x × Was) ⊎ (HasAsked x × ((let d : CallStep = Other in d) ≡ Dropped → ⊥)) → is_among harts x ≡ true
      from (inl ((other, same, covers), w)) = cc
      from (inr (had, kept)) = (asking x).1 had

  module _ (missed : Bool) (HasMissed : Type 0) (tells : (missed ≡ true) ↔ HasMissed) where
    polled : (y : ℕ) (b : Bool) → missed ≡ b → ((b || is_among harts y) ≡ true) ↔ (HasMissed ⊎ ((x : ℕ) × (Polled y ≡ Polled x) × HasAsked x))
    polled y true is = (λ so. inl (tells.0 is), λ had. refl)
    polled y false is = (λ so. inr (y, refl, (asking y).0 so), from)
      where
        from : HasMissed ⊎ ((x : ℕ) × (Polled y ≡ Polled x) × HasAsked x) → is_among harts y ≡ true
        from (inl had) = absurd (let no = sym (tells.1 had) ∙ is in cc)
        from (inr (x, same, had)) =
            let here : x ≡ y = cc in
            ap (is_among harts) (sym here) ∙ (asking x).1 had

    pub missed-step : (step : CallStep) → (missed_after step harts missed ≡ true) ↔ (HasMissed ⊎ ((x : ℕ) × (step ≡ Polled x) × HasAsked x))
    missed-step (Asked y fence) = (λ so. inl (tells.0 so), from)
      where
        from : HasMissed ⊎ ((x : ℕ) × (Asked y fence ≡ Polled x) × HasAsked x) → missed ≡ true
        from (inl had) = tells.1 had
        from (inr (x, same, had)) = cc
    missed-step (Polled y) = polled y missed refl
    missed-step Dropped = (λ so. inl (tells.0 so), from)
      where
        from : HasMissed ⊎ ((x : ℕ) × ((let d : CallStep = Dropped in d) ≡ Polled x) × HasAsked x) → missed ≡ true
        from (inl had) = tells.1 had
        from (inr (x, same, had)) = cc
    missed-step Other = (λ so. inl (tells.0 so), from)
      where
        from : HasMissed ⊎ ((x : ℕ) × ((let d : CallStep = Other in d) ≡ Polled x) × HasAsked x) → missed ≡ true
        from (inl had) = tells.1 had
        from (inr (x, same, had)) = cc

-- ---- and a look at the page tables

seen : (other : Bool) (Now : Type 0) (asks : List ℕ) (x : ℕ) (Had : Type 0) → (other ≡ true) ↔ Now → (is_among asks x ≡ true) ↔ Had → (is_among (if other then asks else []) x ≡ true) ↔ (Now × Had)
seen true Now asks x Had tells among = (λ so. (tells.0 refl, among.0 so), λ had. among.1 had.1)
seen false Now asks x Had tells among = (λ so. cc, λ had. absurd (let e = tells.1 had.0 in cc))

missed-seen : (other : Bool) (Now : Type 0) (missed : Bool) (Had : Type 0) → (other ≡ true) ↔ Now → (missed ≡ true) ↔ Had → ((if other then missed else false) ≡ true) ↔ (Now × Had)
missed-seen true Now missed Had tells is = (λ so. (tells.0 refl, is.0 so), λ had. is.1 had.1)
missed-seen false Now missed Had tells is = (λ so. cc, λ had. absurd (let e = tells.1 had.0 in cc))

pub watch-more : (o : Opening) (event : Event) (past : List Event) (step : CallStep) (old new : UseWatch) → step ≡ call_step o event → IsWatch o past old → new.of ≡ old.of
    → (new.is_other ≡ true) ↔ IsOther o (event ∷ past) old.of
    → new.asking.items ≡ (if new.is_other then asking_after step old.of old.is_other old.asking.items else [])
    → new.is_missed ≡ (if new.is_other then missed_after step old.asking.items old.is_missed else false)
    → IsWatch o (event ∷ past) new
watch-more o event past step old new is was same other asking missed = record {
  other = subst (λ (of : EntryUse). (new.is_other ≡ true) ↔ IsOther o (event ∷ past) of) (sym same) other;
  asking = λ x.
      subst (λ (of : EntryUse). (is_among new.asking.items x ≡ true) ↔ HasAsked o (event ∷ past) of x) (sym same)
      (subst (λ (asks : List ℕ). (is_among asks x ≡ true) ↔ HasAsked o (event ∷ past) old.of x) (sym asking)
      (subst (λ (s : CallStep). (is_among (if new.is_other then asking_after step old.of old.is_other old.asking.items else []) x ≡ true)
      ↔ (IsOther o (event ∷ past) old.of × ((Asks s old.of x × IsOther o past old.of) ⊎ (HasAsked o past old.of x × (s ≡ Dropped → ⊥))))) is
      (seen new.is_other (IsOther o (event ∷ past) old.of) (asking_after step old.of old.is_other old.asking.items) x _ other
      (asking-step old.of old.is_other (IsOther o past old.of) old.asking.items (HasAsked o past old.of) was.other was.asking step x))));
  missed =
      subst (λ (of : EntryUse). (new.is_missed ≡ true) ↔ HasMissed o (event ∷ past) of) (sym same)
      (subst (λ (b : Bool). (b ≡ true) ↔ HasMissed o (event ∷ past) old.of) (sym missed)
      (subst (λ (s : CallStep). ((if new.is_other then missed_after step old.asking.items old.is_missed else false) ≡ true)
      ↔ (IsOther o (event ∷ past) old.of × (HasMissed o past old.of ⊎ ((x : ℕ) × (s ≡ Polled x) × HasAsked o past old.of x)))) is
      (missed-seen new.is_other (IsOther o (event ∷ past) old.of) (missed_after step old.asking.items old.is_missed) _ other
      (missed-step old.of old.is_other (IsOther o past old.of) old.asking.items (HasAsked o past old.of) was.other was.asking old.is_missed (HasMissed o past old.of) was.missed step))));
}

pub watch-first : (o : Opening) (w : UseWatch) → (w.is_other ≡ true) ↔ IsOther o [] w.of → w.asking.items ≡ [] → w.is_missed ≡ false → IsWatch o [] w
watch-first o w other asking missed = record {
  other = other;
  asking = λ x. (λ among. absurd (let e = ap (λ (asks : List ℕ). is_among asks x) (sym asking) ∙ among in cc), λ had. absurd had);
  missed = (λ so. absurd (let e = sym missed ∙ so in cc), λ had. absurd had);
}
