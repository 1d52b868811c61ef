-- The starts that are pending at an opening, hart by hart.
use Rattle.std.proofs.Common.{◌≡◌, ℕ, ◌+◌, ◌<◌, ◌≤◌, suc, zero, Bool, true, false, List, [], ◌∷◌, ◌++◌, refl, sym, ap, ◌∙◌, arith, inl, inr}
use Rattle.std.specs.Prelude.{Option, Some, None, filter, find, if◌then◌else◌, is_some}
use Rattle.std.specs.List.{filter_map, range_with_len}
use Rattle.std.specs.Option.{option_to_list}
use Rattle.std.proofs.lemmas.Bool.{cases_lt, eq-eqb, ne_eqb}
use Rattle.std.proofs.lemmas.Bool.Decides.{eqb_tells}
use Rattle.std.proofs.lemmas.List.{get_or_past}
use Rattle.hsm.specs.declared.hart.HartState.{HartState}
use Rattle.hsm.specs.declared.hart.HartState.TheVariants.{Started, Stopped, StartPending, StopPending, Suspended, SuspendPending, ResumePending}
use Rattle.hsm.specs.declared.hart.EntryPoint.{EntryPoint}
use Rattle.hsm.specs.Harts.{Hart, resting}
use Rattle.hsm.specs.States.{is_start_pending}
use Rattle.hsm.specs.Transitions.{hart_at}
use Rattle.board_rules.specs.Opening.{IsOpening, Opening}
use Rattle.board_rules.specs.Starts.{Start, is_of, last_start, pending, start_in, starts_opened}

-- ---- a start of each of some harts, or none

module _ (f : ℕ → Option Start) (own : (i : ℕ) (start : Start) → f i ≡ Some start → start.hart ≡ i) (h : ℕ) where
  none-of : (a n : ℕ) → ((i : ℕ) → a ≤ i → i < a + n → h ≡ i → ⊥) → filter (is_of h) (filter_map f (range_with_len a n)) ≡ []
  none-of a zero others = refl
  none-of a (suc n) others = by_start (f a) refl (none-of (a + 1) n (λ i low high. others i (omega arith) (omega arith)))
    where
      by_start : (start : Option Start) → f a ≡ start → filter (is_of h) (filter_map f (range_with_len (a + 1) n)) ≡ []
          → filter (is_of h) (filter_map f (a ∷ range_with_len (a + 1) n)) ≡ []
      by_start None is rest = rw is rest
      by_start (Some start) is rest = rw (is, ne_eqb h start.hart (λ e. others a (omega arith) (omega arith) (e ∙ own a start is))) rest

  one-of : (a n : ℕ) → a ≤ h → h < a + n → filter (is_of h) (filter_map f (range_with_len a n)) ≡ option_to_list (f h)
  one-of a zero low high = absurd (omega arith)
  one-of a (suc n) low high = elim (eqb_tells h a) [
    | inl here ↦ by_own (f a) refl here.1 (none-of (a + 1) n (λ i above below same. absurd (let e = here.1 in omega arith)))
    | inr other ↦ let far = other.1 in by_other (f a) refl far (one-of (a + 1) n (omega arith) (omega arith))
  ]
    where
      by_own : (start : Option Start) → f a ≡ start → h ≡ a → filter (is_of h) (filter_map f (range_with_len (a + 1) n)) ≡ []
          → filter (is_of h) (filter_map f (a ∷ range_with_len (a + 1) n)) ≡ option_to_list (f h)
      by_own None is here rest = rw (is, ap f here ∙ is) rest
      by_own (Some start) is here rest = rw (is, ap f here ∙ is, eq-eqb h start.hart (here ∙ sym (own a start is))) (ap (λ starts. start ∷ starts) rest)

      by_other : (start : Option Start) → f a ≡ start → (h ≡ a → ⊥) → filter (is_of h) (filter_map f (range_with_len (a + 1) n)) ≡ option_to_list (f h)
          → filter (is_of h) (filter_map f (a ∷ range_with_len (a + 1) n)) ≡ option_to_list (f h)
      by_other None is far rest = rw is rest
      by_other (Some start) is far rest = rw (is, ne_eqb h start.hart (λ e. far (e ∙ own a start is))) rest

-- the first that passes is the first of those that pass
find-filter : {A : Type 0} (p : A → Bool) (xs : List A) (found : Option A) → filter p xs ≡ option_to_list found → find p xs ≡ found
find-filter p [] None is = refl
find-filter p [] (Some y) is = cc
find-filter p (x ∷ xs) found is = by_test (p x) refl found is (find-filter p xs found)
  where
    by_test : (b : Bool) → p x ≡ b → (found : Option _) → filter p (x ∷ xs) ≡ option_to_list found → (filter p xs ≡ option_to_list found → find p xs ≡ found) → find p (x ∷ xs) ≡ found
    by_test true here None is later = let some : x ∷ filter p xs ≡ [] = rw here at is in cc
    by_test true here (Some y) is later = let first : x ∷ filter p xs ≡ y ∷ [] = rw here at is in rw here (let same : x ≡ y = cc in ap (λ z. Some z) same)
    by_test false here found is later = rw here (later (rw here at is))

-- ---- the pending starts of an opening

-- a hart's own start is of it
own-start : (h : ℕ) (s : HartState) (kept : Option EntryPoint) (start : Start) → start_in h s kept ≡ Some start → start.hart ≡ h
own-start h StartPending (Some kept) start is = ap hart_in (sym is)
  where
    hart_in : Option Start → ℕ
    hart_in None = h
    hart_in (Some start) = start.hart
own-start h StartPending None start is = cc
own-start h Started kept start is = cc
own-start h Stopped kept start is = cc
own-start h StopPending kept start is = cc
own-start h Suspended kept start is = cc
own-start h SuspendPending kept start is = cc
own-start h ResumePending kept start is = cc

module _ (o : Opening) (opens : IsOpening o) where
  start_of : ℕ → Option Start
  start_of h = start_in h (hart_at o.harts h).state (hart_at o.harts h).kept

  pub opened-inside : (h : ℕ) → h < o.config.harts → filter (is_of h) (starts_opened o) ≡ option_to_list (start_in h (hart_at o.harts h).state (hart_at o.harts h).kept)
  unfolding start_of
  opened-inside h inside = one-of start_of (λ i start is. own-start i _ _ start is) h 0 o.config.harts (omega arith) (omega arith)

  pub opened-outside : (h : ℕ) → o.config.harts ≤ h → filter (is_of h) (starts_opened o) ≡ []
  unfolding start_of
  opened-outside h outside = none-of start_of (λ i start is. own-start i _ _ start is) h 0 o.config.harts (λ i low high same. absurd (omega arith))

  -- a hart that isn't there rests
  pub rests-outside : (h : ℕ) → o.config.harts ≤ h → hart_at o.harts h ≡ resting
  rests-outside h outside = get_or_past o.harts h resting (let many = opens.harts in omega arith)

  -- the last start of a hart whose start is pending
  pub found-inside : (h : ℕ) → h < o.config.harts → find (is_of h) (starts_opened o) ≡ start_in h (hart_at o.harts h).state (hart_at o.harts h).kept
  found-inside h inside = find-filter (is_of h) (starts_opened o) _ (opened-inside h inside)

  -- the starts of a hart at the opening are its pending one, if any
  pub entered-at_opening : (h : ℕ) → filter (is_of h) (starts_opened o) ≡ option_to_list (pending o [] h) ++ []
  entered-at_opening h = elim (cases_lt h o.config.harts) [
    | inl near ↦ opened-inside h near ∙ by_state (hart_at o.harts h).state refl (hart_at o.harts h).kept refl (opens.starts h) (found-inside h near)
    | inr far ↦ opened-outside h far ∙ sym (ap (λ (hart : Hart). option_to_list (if is_start_pending hart.state then Some (last_start o [] h) else None) ++ []) (rests-outside h far))
  ]
    where
      by_state : (s : HartState) → (hart_at o.harts h).state ≡ s → (kept : Option EntryPoint) → (hart_at o.harts h).kept ≡ kept
          → ((hart_at o.harts h).state ≡ StartPending → is_some (hart_at o.harts h).kept ≡ true)
          → find (is_of h) (starts_opened o) ≡ start_in h (hart_at o.harts h).state (hart_at o.harts h).kept
          → option_to_list (start_in h (hart_at o.harts h).state (hart_at o.harts h).kept) ≡ option_to_list (pending o [] h) ++ []
      by_state StartPending at (Some kept) keeps some found = rw (found, at, keeps) refl
      by_state StartPending at None keeps some found = absurd (let kept = some at in let none = ap is_some keeps in cc)
      by_state Started at kept keeps some found = rw at refl
      by_state Stopped at kept keeps some found = rw at refl
      by_state StopPending at kept keeps some found = rw at refl
      by_state Suspended at kept keeps some found = rw at refl
      by_state SuspendPending at kept keeps some found = rw at refl
      by_state ResumePending at kept keeps some found = rw at refl
