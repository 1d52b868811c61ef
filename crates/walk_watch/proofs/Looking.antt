-- What shows is what may be seen, one note more.
use Rattle.std.proofs.Common.{◌≡◌, ℕ, Bool, true, false, List, [], ◌∷◌, refl, sym, ap, subst, ◌∙◌, inl, inr, Option}
use Rattle.std.specs.Prelude.{◌⊎◌, ◌==◌, ◌||◌, if◌then◌else◌}
use Rattle.rfence.specs.Applied.{Drops}
use Rattle.sv39.specs.Maps.{is_some_pointer}
use Rattle.tlb_model.specs.declared.fence.Flush.{Flush}
use Rattle.any_tlb.specs.Mixed.{orders_ends, orders_pointers}
use Rattle.walk_watch.specs.declared.former.FormerWord.{FormerWord}
use Rattle.walk_watch.specs.declared.former.WalkNote.{WalkNote}
use Rattle.walk_watch.specs.declared.former.WalkNote.TheVariants.{Was, Fence}
use Rattle.walk_watch.specs.declared.sight.Sight.{Sight}
use Rattle.walk_watch.specs.declared.sight.Spot.{Spot}
use Rattle.walk_watch.specs.Inside.Sights.{back, fenced, stood, unseen}
use Rattle.walk_watch.proofs.Showing.{Shows, cons-from, cons-to, none-shows}

-- a sight of a word that not all fences order
abbrev pub at : Option ℕ → (free shows : Bool) → Sight
at m free shows = record { word = m; free = free; over = false; shows = shows }

-- a word may be seen: as a pointer, or as the end of a walk, which has turned or, where that is free, not
abbrev pub Seen : Spot → (P E T : Option ℕ → Type 0) → (free : Bool) → Option ℕ → Type 0
Seen spot P E T free x =
    ((is_some_pointer spot.level x ≡ true) × P x) ⊎ ((is_some_pointer spot.level x ≡ false) × (T x ⊎ ((free ≡ true) × E x)))

-- The notes show what may be seen, where word m stands now: P as pointers, E as ends, and T as ends that turned.
pub record Tells (spot : Spot) (notes : List WalkNote) (m : Option ℕ) (P E T : Option ℕ → Type 0) : Type 0 where
  pub now-pointer : P m
  pub now-end : E m
  pub to : (free shows : Bool) (x : Option ℕ) → Shows spot (at m free shows) notes x → Seen spot P E T free x
  pub from-pointer : (free shows : Bool) (x : Option ℕ) → is_some_pointer spot.level x ≡ true → P x → (m ≡ x) ⊎ Shows spot (at m free shows) notes x
  pub from-end : (shows : Bool) (x : Option ℕ) → is_some_pointer spot.level x ≡ false → E x → (m ≡ x) ⊎ Shows spot (at m true shows) notes x
  pub from-turned : (free shows : Bool) (x : Option ℕ) → is_some_pointer spot.level x ≡ false → T x → Shows spot (at m free shows) notes x
  pub turns : is_some_pointer spot.level m ≡ true → (x : Option ℕ) → is_some_pointer spot.level x ≡ false → E x → T x

-- what may be seen after an event, where word m stands then
abbrev pub Next : Option ℕ → (ordered : Bool) → (Option ℕ → Type 0) → Option ℕ → Type 0
Next m ordered Q x = (m ≡ x) ⊎ (Q x × (ordered ≡ false))

abbrev pub Turn : Spot → Option ℕ → (ordered : Bool) → (E T : Option ℕ → Type 0) → Option ℕ → Type 0
Turn spot m ordered E T x = (T x ⊎ (E x × (is_some_pointer spot.level m ≡ true))) × (ordered ≡ false)

now-only : (m x : Option ℕ) (Q : Option ℕ → Type 0) → Next m true Q x → m ≡ x
now-only m x Q (inl same) = same
now-only m x Q (inr before) = let e : true ≡ false = before.1 in cc

apart : (spot : Spot) (m x : Option ℕ) → is_some_pointer spot.level m ≡ true → is_some_pointer spot.level x ≡ false → m ≡ x → ⊥
apart spot m x is other same = let e : true ≡ false = sym is ∙ ap (is_some_pointer spot.level) same ∙ other in cc

or-left : (a b : Bool) → a ≡ true → (a || b) ≡ true
or-left true b is = refl
or-left false b is = cc

or-right : (a b : Bool) → b ≡ true → (a || b) ≡ true
or-right true b is = refl
or-right false b is = is

or-other : (a b : Bool) → b ≡ false → (a || b) ≡ true → a ≡ true
or-other true b other is = refl
or-other false b other is = let e : true ≡ false = sym is ∙ other in cc

-- ---- no event, and a reset

pub told-first : (spot : Spot) (m : Option ℕ) → Tells spot [] m (λ x. m ≡ x) (λ x. m ≡ x) (λ x. ⊥)
told-first spot m = record {
  now-pointer = refl;
  now-end = refl;
  to = λ free shows x seen. absurd seen;
  from-pointer = λ free shows x is sees. inl sees;
  from-end = λ shows x is sees. inl sees;
  from-turned = λ free shows x is turned. turned;
  turns = λ is x other sees. apart spot m x is other sees;
}

pub told-reset : (spot : Spot) (m : Option ℕ) (P E T : Option ℕ → Type 0) → Tells spot [] m (Next m true P) (Next m true E) (Turn spot m true E T)
told-reset spot m P E T = record {
  now-pointer = inl refl;
  now-end = inl refl;
  to = λ free shows x seen. absurd seen;
  from-pointer = λ free shows x is sees. inl (now-only m x P sees);
  from-end = λ shows x is sees. inl (now-only m x E sees);
  from-turned = λ free shows x is turned. let e : true ≡ false = turned.1 in absurd (cc);
  turns = λ is x other sees. absurd (apart spot m x is other (now-only m x E sees));
}

-- ---- a note that says nothing of the place

pub told-on : (spot : Spot) (note : WalkNote) (notes : List WalkNote) (m : Option ℕ) (P E T : Option ℕ → Type 0) → ((free shows : Bool) → back spot (at m free shows) note ≡ at m free false)
    → Tells spot notes m P E T → Tells spot (note ∷ notes) m P E T
told-on spot note notes m P E T is c = record {
  now-pointer = c.now-pointer;
  now-end = c.now-end;
  to = λ free shows x seen. elim (cons-to spot (at m free shows) (at m free false) note notes x (is free shows) seen) [
    | inl none ↦ absurd (let e : false ≡ true = none.0 in cc)
    | inr later ↦ c.to free false x later
  ];
  from-pointer = λ free shows x points sees. put free shows x (c.from-pointer free false x points sees);
  from-end = λ shows x other sees. put true shows x (c.from-end false x other sees);
  from-turned = λ free shows x other turned. cons-from spot (at m free shows) (at m free false) note notes x (is free shows) (inr (c.from-turned free false x other turned));
  turns = c.turns;
}
  where
    put : (free shows : Bool) (x : Option ℕ) → (m ≡ x) ⊎ Shows spot (at m free false) notes x → (m ≡ x) ⊎ Shows spot (at m free shows) (note ∷ notes) x
    put free shows x (inl same) = inl same
    put free shows x (inr later) = inr (cons-from spot (at m free shows) (at m free false) note notes x (is free shows) (inr later))

-- ---- an event that changes no word there

module _ (spot : Spot) (notes : List WalkNote) (m : Option ℕ) (P E T : Option ℕ → Type 0) (c : Tells spot notes m P E T) where
  wider : (free : Bool) (x : Option ℕ) → Seen spot P E T free x → Seen spot (Next m false P) (Next m false E) (Turn spot m false E T) free x
  wider free x (inl pointer) = inl (pointer.0, inr (pointer.1, refl))
  wider free x (inr end) = inr (end.0, by_end end.1)
    where
      by_end : T x ⊎ ((free ≡ true) × E x) → Turn spot m false E T x ⊎ ((free ≡ true) × Next m false E x)
      by_end (inl turned) = inl (inl turned, refl)
      by_end (inr sees) = inr (sees.0, inr (sees.1, refl))

  pub told-kept : Tells spot notes m (Next m false P) (Next m false E) (Turn spot m false E T)
  told-kept = record {
    now-pointer = inl refl;
    now-end = inl refl;
    to = λ free shows x seen. wider free x (c.to free shows x seen);
    from-pointer = λ free shows x points sees. elim sees [
      | inl same ↦ inl same
      | inr before ↦ c.from-pointer free shows x points before.0
    ];
    from-end = λ shows x other sees. elim sees [
      | inl same ↦ inl same
      | inr before ↦ c.from-end shows x other before.0
    ];
    from-turned = λ free shows x other turned. c.from-turned free shows x other (elim turned.0 [
      | inl before ↦ before
      | inr sees ↦ c.turns sees.1 x other sees.0
    ]);
    turns = λ is x other sees. elim sees [
      | inl same ↦ absurd (apart spot m x is other same)
      | inr before ↦ (inr (before.0, is), refl)
    ];
  }

-- ---- a change of the word there

module _ (spot : Spot) (notes : List WalkNote) (m : Option ℕ) (P E T : Option ℕ → Type 0) (c : Tells spot notes m P E T) (former : FormerWord)
    (here : (former.at == spot.at) ≡ true) (was : former.word ≡ m) (new : Option ℕ) where
  -- whether the former word is the end of walks, behind the change
  abbrev freed : Bool → Bool
  freed free = free || is_some_pointer spot.level new

  abbrev showing : Bool → Bool
  showing free = freed free || is_some_pointer spot.level m

  back-is : (free shows : Bool) → back spot (at new free shows) (Was former) ≡ at m (freed free) (showing free)
  back-is free shows =
      ap (λ (b : Bool). if b then stood spot (at new free shows) former.word else unseen (at new free shows)) here
      ∙ ap (λ (w : Option ℕ). stood spot (at new free shows) w) was

  put : (free shows : Bool) (x : Option ℕ) → ((showing free ≡ true) × (m ≡ x)) ⊎ Shows spot (at m (freed free) (showing free)) notes x → Shows spot (at new free shows) (Was former ∷ notes) x
  put free shows x seen = cons-from spot (at new free shows) (at m (freed free) (showing free)) (Was former) notes x (back-is free shows) seen

  end-on : (free : Bool) (x : Option ℕ) → freed free ≡ true → E x → Turn spot new false E T x ⊎ ((free ≡ true) × Next new false E x)
  end-on true x is sees = inr (refl, inr (sees, refl))
  end-on false x is sees = inl (inr (sees, is), refl)

  one-to : (free : Bool) (x : Option ℕ) → showing free ≡ true → m ≡ x → Seen spot (Next new false P) (Next new false E) (Turn spot new false E T) free x
  one-to free x shows same = by_test (is_some_pointer spot.level x) refl
    where
      by_test : (b : Bool) → is_some_pointer spot.level x ≡ b → Seen spot (Next new false P) (Next new false E) (Turn spot new false E T) free x
      by_test true is = inl (is, inr (subst P same c.now-pointer, refl))
      by_test false is =
          inr (is, end-on free x (or-other (freed free) (is_some_pointer spot.level m) (ap (is_some_pointer spot.level) same ∙ is) shows) (subst E same c.now-end))

  later-to : (free : Bool) (x : Option ℕ) → Seen spot P E T (freed free) x → Seen spot (Next new false P) (Next new false E) (Turn spot new false E T) free x
  later-to free x (inl pointer) = inl (pointer.0, inr (pointer.1, refl))
  later-to free x (inr end) = inr (end.0, by_end end.1)
    where
      by_end : T x ⊎ ((freed free ≡ true) × E x) → Turn spot new false E T x ⊎ ((free ≡ true) × Next new false E x)
      by_end (inl turned) = inl (inl turned, refl)
      by_end (inr sees) = end-on free x sees.0 sees.1

  -- an end that is free behind the change
  end-from : (free shows : Bool) (x : Option ℕ) → freed free ≡ true → is_some_pointer spot.level x ≡ false → E x → Shows spot (at new free shows) (Was former ∷ notes) x
  end-from free shows x is other sees = by_side (subst (λ (b : Bool). (m ≡ x) ⊎ Shows spot (at m b (showing free)) notes x) (sym is) (c.from-end (showing free) x other sees))
    where
      by_side : (m ≡ x) ⊎ Shows spot (at m (freed free) (showing free)) notes x → Shows spot (at new free shows) (Was former ∷ notes) x
      by_side (inl same) = put free shows x (inl (or-left (freed free) (is_some_pointer spot.level m) is, same))
      by_side (inr later) = put free shows x (inr later)

  pointer-from : (free shows : Bool) (x : Option ℕ) → is_some_pointer spot.level x ≡ true → P x → Shows spot (at new free shows) (Was former ∷ notes) x
  pointer-from free shows x points sees = by_side (c.from-pointer (freed free) (showing free) x points sees)
    where
      by_side : (m ≡ x) ⊎ Shows spot (at m (freed free) (showing free)) notes x → Shows spot (at new free shows) (Was former ∷ notes) x
      by_side (inl same) = put free shows x (inl (or-right (freed free) (is_some_pointer spot.level m) (ap (is_some_pointer spot.level) same ∙ points), same))
      by_side (inr later) = put free shows x (inr later)

  pub told-change : Tells spot (Was former ∷ notes) new (Next new false P) (Next new false E) (Turn spot new false E T)
  told-change = record {
    now-pointer = inl refl;
    now-end = inl refl;
    to = λ free shows x seen. elim (cons-to spot (at new free shows) (at m (freed free) (showing free)) (Was former) notes x (back-is free shows) seen) [
      | inl now ↦ one-to free x now.0 now.1
      | inr later ↦ later-to free x (c.to (freed free) (showing free) x later)
    ];
    from-pointer = λ free shows x points sees. elim sees [
      | inl same ↦ inl same
      | inr before ↦ inr (pointer-from free shows x points before.0)
    ];
    from-end = λ shows x other sees. elim sees [
      | inl same ↦ inl same
      | inr before ↦ inr (end-from true shows x refl other before.0)
    ];
    from-turned = λ free shows x other turned. elim turned.0 [
      | inl before ↦ put free shows x (inr (c.from-turned (freed free) (showing free) x other before))
      | inr sees ↦ end-from free shows x (or-right free (is_some_pointer spot.level new) sees.1) other sees.0
    ];
    turns = λ is x other sees. elim sees [
      | inl same ↦ absurd (apart spot new x is other same)
      | inr before ↦ (inr (before.0, is), refl)
    ];
  }

-- ---- a fence at the walks' hart

module _ (spot : Spot) (notes : List WalkNote) (m : Option ℕ) (P E T : Option ℕ → Type 0)
    (c : Tells spot notes m (Next m false P) (Next m false E) (Turn spot m false E T)) (x : ℕ) (flush : Flush) (here : (x == spot.walkers.hart) ≡ true) where
  abbrev behind : Sight → (pointers ends : Bool) → Sight
  behind s pointers ends =
      if pointers
      then record { word = s.word; free = s.free; over = true; shows = false }
      else if ends
      then record { word = s.word; free = is_some_pointer spot.level s.word; over = s.over; shows = false }
      else unseen s

  module _ (pointers ends : Bool) (p-is : orders_pointers spot.walkers.met spot.walkers.asid (Drops flush) ≡ pointers)
      (e-is : orders_ends spot.walkers.va spot.level spot.walkers.met spot.walkers.asid (Drops flush) ≡ ends) where
    behind-is : (s : Sight) → back spot s (Fence x flush) ≡ behind s pointers ends
    behind-is s = ap (λ (b : Bool). if b then fenced spot s flush else unseen s) here ∙ (λ i. behind s (p-is i) (e-is i))

  -- of pointers
  all-ordered : orders_pointers spot.walkers.met spot.walkers.asid (Drops flush) ≡ true → orders_ends spot.walkers.va spot.level spot.walkers.met spot.walkers.asid (Drops flush) ≡ true
      → Tells spot (Fence x flush ∷ notes) m (Next m true P) (Next m true E) (Turn spot m true E T)
  all-ordered p-is e-is = record {
    now-pointer = inl refl;
    now-end = inl refl;
    to = λ free shows y seen. elim (cons-to spot (at m free shows) (behind (at m free shows) true true) (Fence x flush) notes y (behind-is true true p-is e-is (at m free shows)) seen) [
      | inl none ↦ absurd (let e : false ≡ true = none.0 in cc)
      | inr later ↦ absurd (none-shows spot notes (behind (at m free shows) true true) y refl later)
    ];
    from-pointer = λ free shows y points sees. inl (now-only m y P sees);
    from-end = λ shows y other sees. inl (now-only m y E sees);
    from-turned = λ free shows y other turned. let e : true ≡ false = turned.1 in absurd (cc);
    turns = λ is y other sees. absurd (apart spot m y is other (now-only m y E sees));
  }

  -- of the ends of walks
  ends-ordered : orders_pointers spot.walkers.met spot.walkers.asid (Drops flush) ≡ false → orders_ends spot.walkers.va spot.level spot.walkers.met spot.walkers.asid (Drops flush) ≡ true
      → Tells spot (Fence x flush ∷ notes) m (Next m false P) (Next m true E) (Turn spot m false E T)
  ends-ordered p-is e-is = record {
    now-pointer = inl refl;
    now-end = inl refl;
    to = λ free shows y seen. elim (cons-to spot (at m free shows) (at m (is_some_pointer spot.level m) false) (Fence x flush) notes y (behind-is false true p-is e-is (at m free shows)) seen) [
      | inl none ↦ absurd (let e : false ≡ true = none.0 in cc)
      | inr later ↦ left free y (c.to (is_some_pointer spot.level m) false y later)
    ];
    from-pointer = λ free shows y points sees. elim (c.from-pointer (is_some_pointer spot.level m) false y points sees) [
      | inl same ↦ inl same
      | inr later ↦ inr (cons-from spot (at m free shows) (at m (is_some_pointer spot.level m) false) (Fence x flush) notes y (behind-is false true p-is e-is (at m free shows)) (inr later))
    ];
    from-end = λ shows y other sees. inl (now-only m y E sees);
    from-turned = λ free shows y other turned.
        cons-from spot (at m free shows) (at m (is_some_pointer spot.level m) false) (Fence x flush) notes y (behind-is false true p-is e-is (at m free shows))
        (inr (c.from-turned (is_some_pointer spot.level m) false y other turned));
    turns = λ is y other sees. absurd (apart spot m y is other (now-only m y E sees));
  }
    where
      left : (free : Bool) (y : Option ℕ) → Seen spot (Next m false P) (Next m false E) (Turn spot m false E T) (is_some_pointer spot.level m) y
          → Seen spot (Next m false P) (Next m true E) (Turn spot m false E T) free y
      left free y (inl pointer) = inl pointer
      left free y (inr end) = inr (
        end.0,
        inl (elim end.1 [
          | inl turned ↦ turned
          | inr sees ↦ c.turns sees.0 y end.0 sees.1
        ]),
      )

  pub told-fence : (pointers ends : Bool) → orders_pointers spot.walkers.met spot.walkers.asid (Drops flush) ≡ pointers → orders_ends spot.walkers.va spot.level spot.walkers.met spot.walkers.asid (Drops flush) ≡ ends
      → (pointers ≡ true → ends ≡ true) → Tells spot (Fence x flush ∷ notes) m (Next m pointers P) (Next m ends E) (Turn spot m pointers E T)
  told-fence true true p-is e-is both = all-ordered p-is e-is
  told-fence true false p-is e-is both = let e : false ≡ true = both refl in absurd (cc)
  told-fence false true p-is e-is both = ends-ordered p-is e-is
  told-fence false false p-is e-is both =
      told-on spot (Fence x flush) notes m (Next m false P) (Next m false E) (Turn spot m false E T) (λ free shows. behind-is false false p-is e-is (at m free shows)) c
