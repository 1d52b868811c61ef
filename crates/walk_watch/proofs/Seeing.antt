-- The notes of a history show the words that walks may see.
use Rattle.std.proofs.Common.{◌≡◌, ◌↔◌, ℕ, Bool, true, false, List, [], ◌∷◌, refl, sym, ap, subst, ◌∙◌, inl, inr, Option, Some, None}
use Rattle.std.specs.Prelude.{◌⊎◌, ◌==◌, ◌&&◌, if◌then◌else◌, is_none}
use Rattle.std.proofs.lemmas.Bool.{and_parts, eq-eqb, eqb-true}
use Rattle.rfence.specs.Applied as applied
use Rattle.rfence.specs.Applied.{Effect, Drops, Empties}
use Rattle.sv39.specs.declared.page.Level.{Level}
use Rattle.sv39.specs.Maps.{is_some_pointer}
use Rattle.tlb_model.specs.declared.fence.Fence.{Fence as FenceOf}
use Rattle.tlb_model.specs.declared.fence.Flush.{Flush}
use Rattle.tlb_model.specs.declared.fence.Flush.TheVariants.{Words, Entries}
use Rattle.tlb_model.specs.declared.fence.Range.{Range}
use Rattle.board_core.specs.History.{Event}
use Rattle.board_core.specs.Memory.{memory}
use Rattle.board_core.specs.Opening.{Opening}
use Rattle.any_tlb.specs.Mixed.{MaySeeEnd, MaySeeTurned, MaySeeWord, is_of_walk, orders_ends, orders_pointers, reaches_page}
use Rattle.any_tlb.proofs.Seen.{seen-now}
use Rattle.tlb_watch.specs.declared.effect.CacheEffect.{CacheEffect}
use Rattle.tlb_watch.specs.declared.effect.CacheEffect.TheVariants.{Nothing, Applied, Reset}
use Rattle.tlb_watch.specs.Effects.{effect_on}
use Rattle.tlb_watch.specs.Sets.{IsIn}
use Rattle.walk_watch.specs.declared.former.FormerWord.{FormerWord}
use Rattle.walk_watch.specs.declared.former.WalkNote.{WalkNote}
use Rattle.walk_watch.specs.declared.former.WalkNote.TheVariants.{Was, Fence}
use Rattle.walk_watch.specs.declared.sight.Spot.{Spot}
use Rattle.walk_watch.specs.Logged.{IsFormerWord, IsLogged, LoggedWalks, notes_after, with_word}
use Rattle.walk_watch.specs.Inside.Sights.{fenced, first, stood, unseen, words_seen}
use Rattle.walk_watch.proofs.Looking.{Next, Seen, Tells, Turn, at, told-change, told-fence, told-first, told-kept, told-on, told-reset}
use Rattle.walk_watch.proofs.Showing.{Shows, seen-shows}

-- what orders pointers orders the ends of walks
ends-too : (met : Bool) (asid va : ℕ) (level : Level) (flush : Flush) → orders_pointers met asid (Drops flush) ≡ true → orders_ends va level met asid (Drops flush) ≡ true
ends-too met asid va level Words is = is
ends-too met asid va level (Entries fence) is = by_range fence.range (and_parts (is_none fence.range) (is_of_walk fence.asid met asid) is)
  where
    by_range : (range : Option Range) → (is_none range ≡ true) × (is_of_walk fence.asid met asid ≡ true) → (reaches_page range level va && is_of_walk fence.asid met asid) ≡ true
    by_range None parts = parts.1
    by_range (Some range) parts = let e : false ≡ true = parts.0 in cc

module _ (o : Opening) (spot : Spot) where
  abbrev P : List Event → Option ℕ → Type 0
  P past x = MaySeeWord o past spot.walkers.hart (orders_pointers spot.walkers.met spot.walkers.asid) spot.at x

  abbrev E : List Event → Option ℕ → Type 0
  E past x = MaySeeWord o past spot.walkers.hart (orders_ends spot.walkers.va spot.level spot.walkers.met spot.walkers.asid) spot.at x

  abbrev T : List Event → Option ℕ → Type 0
  T past x = MaySeeTurned o past spot.walkers.hart spot.walkers.va spot.walkers.met spot.walkers.asid spot.level spot.at x

  -- what is told after an event with an effect
  abbrev After : List Event → Effect Flush → Option ℕ → List WalkNote → Type 0
  After past done m notes =
      Tells spot notes m (Next m (orders_pointers spot.walkers.met spot.walkers.asid done) (P past)) (Next m (orders_ends spot.walkers.va spot.level spot.walkers.met spot.walkers.asid done) (E past))
      (Turn spot m (orders_pointers spot.walkers.met spot.walkers.asid done) (E past) (T past))

  module _ (event : Event) (past : List Event) (notes : List WalkNote) (c : Tells spot notes (memory o past spot.at) (P past) (E past) (T past)) where
    abbrev new : Option ℕ
    new = memory o (event ∷ past) spot.at

    -- the word there is as before
    same-on : new ≡ memory o past spot.at → After past applied.Nothing new notes
    same-on same = subst (λ (m : Option ℕ). After past applied.Nothing m notes) (sym same) (told-kept spot notes (memory o past spot.at) (P past) (E past) (T past) c)

    word-on : (word : Option FormerWord) → IsFormerWord (memory o past) (memory o (event ∷ past)) word → After past applied.Nothing new (with_word word notes)
    word-on None says = same-on (says spot.at)
    word-on (Some former) says = by_test (former.at == spot.at) refl
      where
        by_test : (b : Bool) → (former.at == spot.at) ≡ b → After past applied.Nothing new (Was former ∷ notes)
        by_test true here =
            told-change spot notes (memory o past spot.at) (P past) (E past) (T past) c former here (says.0 ∙ ap (memory o past) (eqb-true former.at spot.at here)) new
        by_test false there =
            told-on spot (Was former) notes new (Next new false (P past)) (Next new false (E past)) (Turn spot new false (E past) (T past))
            (λ free shows. ap (λ (b : Bool). if b then stood spot (at new free shows) former.word else unseen (at new free shows)) there)
            (same-on (says.1 spot.at (λ same. let e : true ≡ false = sym (eq-eqb former.at spot.at same) ∙ there in cc)))

    -- a fence of translations at hart x
    fence-on : (x : ℕ) (fence : FenceOf) (later : List WalkNote) → After past applied.Nothing new later
        → After past (effect_on (Applied x (Entries fence)) spot.walkers.hart) new (Fence x (Entries fence) ∷ later)
    fence-on x fence later told = by_test (x == spot.walkers.hart) refl
      where
        by_test : (b : Bool) → (x == spot.walkers.hart) ≡ b → After past (if b then Drops (Entries fence) else applied.Nothing) new (Fence x (Entries fence) ∷ later)
        by_test true here =
            told-fence spot later new (P past) (E past) (T past) told x (Entries fence) here
            (orders_pointers spot.walkers.met spot.walkers.asid (Drops (Entries fence))) (orders_ends spot.walkers.va spot.level spot.walkers.met spot.walkers.asid (Drops (Entries fence))) refl refl
            (ends-too spot.walkers.met spot.walkers.asid spot.walkers.va spot.level (Entries fence))
        by_test false there =
            told-on spot (Fence x (Entries fence)) later new (Next new false (P past)) (Next new false (E past)) (Turn spot new false (E past) (T past))
            (λ free shows. ap (λ (b : Bool). if b then fenced spot (at new free shows) (Entries fence) else unseen (at new free shows)) there) told

    words-on : (x : ℕ) (later : List WalkNote) → After past applied.Nothing new later → After past (effect_on (Applied x Words) spot.walkers.hart) new later
    words-on x later told = by_test (x == spot.walkers.hart)
      where
        by_test : (b : Bool) → After past (if b then Drops Words else applied.Nothing) new later
        by_test true = told
        by_test false = told

    effect-on : (effect : CacheEffect) (word : Option FormerWord) → ((effect ≡ Reset → ⊥) → IsFormerWord (memory o past) (memory o (event ∷ past)) word)
        → After past (effect_on effect spot.walkers.hart) new (notes_after effect word notes)
    effect-on Nothing word says = word-on word (says (λ e. cc))
    effect-on (Applied x Words) word says = words-on x (with_word word notes) (word-on word (says (λ e. cc)))
    effect-on (Applied x (Entries fence)) word says = fence-on x fence (with_word word notes) (word-on word (says (λ e. cc)))
    effect-on Reset word says = told-reset spot new (P past) (E past) (T past)

  pub told : (past : List Event) (log : LoggedWalks) → IsLogged o past log → Tells spot log.notes (memory o past spot.at) (P past) (E past) (T past)
  told [] log logged =
      subst (λ (l : LoggedWalks). Tells spot l.notes (memory o [] spot.at) (P []) (E []) (T [])) (sym logged) (told-first spot (memory o [] spot.at))
  told (event ∷ past) log logged =
      let before = logged.0 in
      let f = logged.2 in
      let rest = told past before logged.1 in
      subst (λ (notes : List WalkNote). Tells spot notes (memory o (event ∷ past) spot.at) (P (event ∷ past)) (E (event ∷ past)) (T (event ∷ past))) (sym f.notes)
      (subst (λ (done : Effect Flush). After past done (memory o (event ∷ past) spot.at) (notes_after f.effect f.word before.notes)) (f.does spot.walkers.hart)
      (effect-on event past before.notes rest f.effect f.word f.words))

  -- a word may be seen, as a pointer or as the end of a walk; and the notes show which
  abbrev pub Sees : List Event → Option ℕ → Type 0
  Sees past x =
      ((is_some_pointer spot.level x ≡ true) × P past x)
      ⊎ ((is_some_pointer spot.level x ≡ false) × MaySeeEnd o past spot.walkers.hart spot.walkers.va spot.walkers.met spot.walkers.asid spot.level spot.at x)

  abbrev Told : List Event → LoggedWalks → Type 0
  Told past log = Tells spot log.notes (memory o past spot.at) (P past) (E past) (T past)

  -- the words that are found are those
  pub found-seen : (past : List Event) (log : LoggedWalks) → IsLogged o past log → (x : Option ℕ) → IsIn (words_seen spot log.notes (memory o past spot.at)) x ↔ Sees past x
  found-seen past log logged x =
      let m = memory o past spot.at in
      let tells = told past log logged in
      let shows = seen-shows spot log.notes (first m) (m ∷ []) x in (
        (λ there. to tells (shows.0 there)),
        (λ sees. shows.1 (from tells sees)),
      )
    where
      now : memory o past spot.at ≡ x → Sees past x
      now same = by_test (is_some_pointer spot.level x) refl
        where
          by_test : (b : Bool) → is_some_pointer spot.level x ≡ b → Sees past x
          by_test true is = inl (is, seen-now (λ past. memory o past spot.at) (orders_pointers spot.walkers.met spot.walkers.asid) o past spot.walkers.hart x same)
          by_test false is = inr (is, inl (seen-now (λ past. memory o past spot.at) (orders_ends spot.walkers.va spot.level spot.walkers.met spot.walkers.asid) o past spot.walkers.hart x same))

      later : Seen spot (P past) (E past) (T past) true x → Sees past x
      later (inl pointer) = inl pointer
      later (inr end) = inr (
        end.0,
        elim end.1 [
          | inl turned ↦ inr turned
          | inr sees ↦ inl sees.1
        ],
      )

      to : Told past log → IsIn (memory o past spot.at ∷ []) x ⊎ Shows spot (first (memory o past spot.at)) log.notes x → Sees past x
      to tells (inl (inl same)) = now same
      to tells (inl (inr none)) = absurd none
      to tells (inr seen) = later (tells.to true true x seen)

      put : (memory o past spot.at ≡ x) ⊎ Shows spot (first (memory o past spot.at)) log.notes x → IsIn (memory o past spot.at ∷ []) x ⊎ Shows spot (first (memory o past spot.at)) log.notes x
      put (inl same) = inl (inl same)
      put (inr seen) = inr seen

      from : Told past log → Sees past x → IsIn (memory o past spot.at ∷ []) x ⊎ Shows spot (first (memory o past spot.at)) log.notes x
      from tells (inl pointer) = put (tells.from-pointer true true x pointer.0 pointer.1)
      from tells (inr end) = by_end end.1
        where
          by_end : MaySeeEnd o past spot.walkers.hart spot.walkers.va spot.walkers.met spot.walkers.asid spot.level spot.at x
              → IsIn (memory o past spot.at ∷ []) x ⊎ Shows spot (first (memory o past spot.at)) log.notes x
          by_end (inl sees) = put (tells.from-end true x end.0 sees)
          by_end (inr turned) = inr (tells.from-turned true true x end.0 turned)
