-- The opening that a history leaves is one that a board can open with, and what the definitions say of it.
use Rattle.std.proofs.Common.{◌≡◌, ℕ, ◌+◌, ◌-◌, ◌*◌, ◌^◌, ◌/◌, ◌<◌, ◌≤◌, suc, zero, Bool, true, List, [], length, refl, sym, ap, ◌∙◌, arith, inl, inr, get_or, subst}
use Rattle.std.specs.Prelude.{Option, Some, None, find, is_some, slice_get, unwrap_or, if◌then◌else◌}
use Rattle.std.specs.List.{cons_option, filter_map, range_with_len}
use Rattle.std.proofs.lemmas.Bool.{cases_lt}
use Rattle.std.proofs.lemmas.List.{get_or_past, same_lists}
use Rattle.std.proofs.lemmas.Option.{slice_get-get_or}
use Rattle.std.specs.List.{All}
use Rattle.std.proofs.lemmas.List.Elements.{All-nil, All-same}
use Rattle.std.proofs.lemmas.List.FromFn.{get_or-map-range_with_len, length-map-range_with_len}
use Rattle.hart_mask.specs.Ids.{has, ids_where}
use Rattle.hart_mask.proofs.Sets.{has-ids_where, ids_where-agree}
use Rattle.hsm.specs.declared.hart.HartState.{HartState}
use Rattle.hsm.specs.declared.hart.HartState.TheVariants.{Started, Stopped, StartPending, StopPending, Suspended, SuspendPending, ResumePending}
use Rattle.hsm.specs.declared.hart.EntryPoint.{EntryPoint}
use Rattle.hsm.specs.Harts.{Hart, resting}
use Rattle.hsm.specs.States.{is_interruptible, is_start_pending}
use Rattle.hsm.specs.Transitions.{hart_at}
use Rattle.sv39.specs.declared.ram.TheConstants.{PAGE_WORDS, RAM_START}
use Rattle.sv39.specs.Memory.{IsRam, pages_of, word_in}
use Rattle.sv39.proofs.Words.{StandsAt, word_in-place}
use Rattle.rfence.specs.Opening as fence_openings
use Rattle.rfence.specs.declared.opened.FenceCall.{FenceCall}
use Rattle.rfence.specs.Calls as calls
use Rattle.rfence.proofs.Seams.{called-after, opens-right, waited-after}
use Rattle.tlb_model.specs.Acts.{cache_after}
use Rattle.tlb_model.specs.declared.fence.Flush.{Flush}
use Rattle.tlb_model.specs.Entries.{Entry, covers_entry}
use Rattle.tlb_model.specs.Words.{covers_word}
use Rattle.tlb_model.proofs.Living.{goes_on, live-early}
use Rattle.tlb_model.specs.declared.cache.Numbered.{Numbered}
use Rattle.tlb_model.specs.declared.word.FetchWord.{FetchWord}
use Rattle.tlb_model.specs.declared.caches.Caches.{Caches}
use Rattle.board_rules.specs.Cuts.{IsHeld, IsKept, opening_of, words_of}
use Rattle.board_rules.specs.Fences.{turns}
use Rattle.board_rules.specs.History.{Event}
use Rattle.board_rules.specs.Interrupts.{deadline}
use Rattle.board_rules.specs.Memory.{caches_of, memory, satp, tlb_acts, word_acts}
use Rattle.board_rules.specs.Opening.{IsOpening, Opening, no_caches, place_after, tlb_at, words_at}
use Rattle.board_rules.specs.Starts.{Start, boot_start, entries, hart_of, is_of, kept_in, last_start, pending, start_in, starts, starts_opened}
use Rattle.board_rules.specs.States.{state}
use Rattle.board_rules.specs.Suspends.{resume_point}
use Rattle.board_rules.proofs.Counting.{starts-counted}
use Rattle.board_rules.proofs.InCalls.{inside-started}
use Rattle.board_rules.proofs.Interruptible.{waits-interruptible}
use Rattle.board_rules.proofs.Lengths.{entered-before-le, length-entries-le, length-tlb_acts, length-turns, length-word_acts, next-le}
use Rattle.board_rules.proofs.Opened.{found-inside}
use Rattle.board_rules.proofs.Beginning.{legal-opens}

module _ (o : Opening) (past : List Event) (held : IsHeld o past) where
  pub opened : IsOpening o
  opened = legal-opens o past held.legal

  -- a hart of the new opening
  pub hart-cut : (h : ℕ) → h < o.config.harts → hart_at (opening_of o past).harts h ≡ hart_of o past h
  hart-cut h inside = get_or-map-range_with_len (hart_of o past) 0 o.config.harts h h resting inside (omega arith)

  pub hart-past : (h : ℕ) → o.config.harts ≤ h → hart_at (opening_of o past).harts h ≡ resting
  hart-past h far = get_or_past (opening_of o past).harts h resting (omega (arith, length-map-range_with_len (hart_of o past) 0 o.config.harts))

  pub caches-cut : (h : ℕ) → h < o.config.harts → get_or (opening_of o past).caches h no_caches ≡ caches_of o past h
  caches-cut h inside = get_or-map-range_with_len (caches_of o past) 0 o.config.harts h h no_caches inside (omega arith)

  caches-past : (h : ℕ) → o.config.harts ≤ h → get_or (opening_of o past).caches h no_caches ≡ no_caches
  caches-past h far = get_or_past (opening_of o past).caches h no_caches (omega (arith, length-map-range_with_len (caches_of o past) 0 o.config.harts))

  pub places-cut : fence_openings.place_after o.fences (turns o past) ≡ place_after o past
  places-cut = omega (arith, opened.places, length-turns o past)

  starts-kept : (s : HartState) (start : Start) (resume : Option EntryPoint) → s ≡ StartPending → is_some (kept_in s start resume) ≡ true
  starts-kept s start resume is = ap (λ (t : HartState). is_some (kept_in t start resume)) is

  by_call : (h : ℕ) (call : Option (FenceCall Flush)) → calls.open_call o.fences (turns o past) h ≡ call → is_some (calls.open_call o.fences (turns o past) h) ≡ true → state o past h ≡ Started
  by_call h None is inside = absurd (let none = sym (ap is_some is) ∙ inside in cc)
  by_call h (Some call) is inside = inside-started o past held.legal h call is

  dated-entries : (h : ℕ) → All (λ (x : Numbered Entry). x.date < place_after o past) (tlb_at (opening_of o past) h).live
  dated-entries h = elim (cases_lt h o.config.harts) [
    | inl near ↦
        All-same (λ (x : Numbered Entry). x.date < place_after o past) (tlb_at (opening_of o past) h).live (caches_of o past h).tlb.live (ap (λ (caches : Caches). caches.tlb.live) (caches-cut h near))
        (subst (λ n. All (λ (x : Numbered Entry). x.date < o.places + n) (caches_of o past h).tlb.live) (length-tlb_acts o past h)
        (live-early o.places (tlb_at o h) covers_entry (tlb_acts o past h) (opened.entries_dated h)))
    | inr far ↦ All-same (λ (x : Numbered Entry). x.date < place_after o past) (tlb_at (opening_of o past) h).live [] (ap (λ (caches : Caches). caches.tlb.live) (caches-past h far))
        (All-nil (λ (x : Numbered Entry). x.date < place_after o past))
  ]

  dated-words : (h : ℕ) → All (λ (x : Numbered FetchWord). x.date < place_after o past) (words_at (opening_of o past) h).live
  dated-words h = elim (cases_lt h o.config.harts) [
    | inl near ↦
        All-same (λ (x : Numbered FetchWord). x.date < place_after o past) (words_at (opening_of o past) h).live (caches_of o past h).words.live
        (ap (λ (caches : Caches). caches.words.live) (caches-cut h near))
        (subst (λ n. All (λ (x : Numbered FetchWord). x.date < o.places + n) (caches_of o past h).words.live) (length-word_acts o past h)
        (live-early o.places (words_at o h) covers_word (word_acts o past h) (opened.words_dated h)))
    | inr far ↦ All-same (λ (x : Numbered FetchWord). x.date < place_after o past) (words_at (opening_of o past) h).live [] (ap (λ (caches : Caches). caches.words.live) (caches-past h far))
        (All-nil (λ (x : Numbered FetchWord). x.date < place_after o past))
  ]

  pub opens-cut : IsOpening (opening_of o past)
  opens-cut = record {
    harts = length-map-range_with_len (hart_of o past) 0 o.config.harts;
    starts = λ h pends. elim (cases_lt h o.config.harts) [
      | inl near ↦
          ap (λ (hart : Hart). is_some hart.kept) (hart-cut h near)
          ∙ starts-kept (state o past h) (last_start o past h) _ (sym (ap (λ (hart : Hart). hart.state) (hart-cut h near)) ∙ pends)
      | inr far ↦ absurd (let s = sym (ap (λ (hart : Hart). hart.state) (hart-past h far)) ∙ pends in cc)
    ];
    deadlines = length-map-range_with_len (deadline o past) 0 o.config.harts;
    satps = length-map-range_with_len (satp o past) 0 o.config.harts;
    caches = length-map-range_with_len (caches_of o past) 0 o.config.harts;
    fences = opens-right o.fences o.config.harts (turns o past) held.right;
    places = places-cut;
    waits = λ h some. elim (cases_lt h o.config.harts) [
      | inl near ↦
          ap (λ (hart : Hart). is_interruptible hart.state) (hart-cut h near)
          ∙ waits-interruptible o past held.right held.legal h (omega (arith, some, ap length (waited-after o.fences o.config.harts (turns o past) held.right h)))
      | inr far ↦ absurd (let none = ap length ((opens-right o.fences o.config.harts (turns o past) held.right).within h far) in omega (arith, some, none))
    ];
    calls = λ h inside. elim (cases_lt h o.config.harts) [
      | inl near ↦ ap (λ (hart : Hart). hart.state) (hart-cut h near)
          ∙ by_call h (calls.open_call o.fences (turns o past) h) refl (sym (ap is_some (called-after o.fences o.config.harts (turns o past) held.right h)) ∙ inside)
      | inr far ↦ absurd (let none = sym (ap is_some ((opens-right o.fences o.config.harts (turns o past) held.right).callers h far)) ∙ inside in cc)
    ];
    entries_dated = λ h. dated-entries h;
    words_dated = λ h. dated-words h;
    entries_few = λ h. elim (cases_lt h o.config.harts) [
      | inl near ↦
          let next = ap (λ (caches : Caches). caches.tlb.next) (caches-cut h near) in
          let few = next-le o.places (tlb_at o h) (tlb_acts o past h) in
          let before = opened.entries_few h in
          omega (arith, few, length-tlb_acts o past h)
      | inr far ↦ let next = ap (λ (caches : Caches). caches.tlb.next) (caches-past h far) in omega arith
    ];
    words_few = λ h. elim (cases_lt h o.config.harts) [
      | inl near ↦
          let next = ap (λ (caches : Caches). caches.words.next) (caches-cut h near) in
          let few = next-le o.places (words_at o h) (word_acts o past h) in
          let before = opened.words_few h in
          omega (arith, few, length-word_acts o past h)
      | inr far ↦ let next = ap (λ (caches : Caches). caches.words.next) (caches-past h far) in omega arith
    ];
    entered_few = omega (arith, length-entries-le o past, entered-before-le o past, opened.entered_few);
  }

  -- ---- what the definitions say of it

  pub harts-cut : (h : ℕ) → h < o.config.harts → hart_of (opening_of o past) [] h ≡ hart_of o past h
  harts-cut h inside = by_state (state o past h) refl (hart-cut h inside) (found-inside (opening_of o past) opens-cut h inside)
    where
      as_kept : Hart → Hart
      as_kept hart = record { state = hart.state; kept = kept_in hart.state (last_start (opening_of o past) [] h) hart.kept }

      again : (s : HartState) → state o past h ≡ s
          → last_start (opening_of o past) [] h ≡ unwrap_or (start_in h (state o past h) (hart_of o past h).kept) (boot_start o.config)
          → as_kept (hart_of o past h) ≡ hart_of o past h
      again StartPending at last = ap (λ (start : Start). (let hart : Hart = record { state = state o past h; kept = kept_in (state o past h) start (hart_of o past h).kept } in hart)) last
          ∙ (rw at refl)
      again Started at last = rw at refl
      again Stopped at last = rw at refl
      again StopPending at last = rw at refl
      again Suspended at last = rw at refl
      again SuspendPending at last = rw at refl
      again ResumePending at last = rw at refl

      by_state : (s : HartState) → state o past h ≡ s → hart_at (opening_of o past).harts h ≡ hart_of o past h
          → find (is_of h) (starts_opened (opening_of o past)) ≡ start_in h (hart_at (opening_of o past).harts h).state (hart_at (opening_of o past).harts h).kept
          → hart_of (opening_of o past) [] h ≡ hart_of o past h
      by_state s at is found =
          let last : last_start (opening_of o past) [] h ≡ unwrap_or (start_in h (state o past h) (kept_in (state o past h) (last_start o past h) _)) (boot_start o.config) =
          ap (λ one. unwrap_or one (boot_start o.config)) (found ∙ ap (λ (hart : Hart). start_in h hart.state hart.kept) is) in
          ap as_kept is ∙ again s at last

  pub deadlines-cut : (h : ℕ) → h < o.config.harts → deadline (opening_of o past) [] h ≡ deadline o past h
  deadlines-cut h inside = get_or-map-range_with_len (deadline o past) 0 o.config.harts h h None inside (omega arith)

  pub satps-cut : (h : ℕ) → h < o.config.harts → satp (opening_of o past) [] h ≡ satp o past h
  satps-cut h inside = get_or-map-range_with_len (satp o past) 0 o.config.harts h h 0 inside (omega arith)

  -- ---- sets of harts, kept as lists of ids

  pub sets-cut : (p : ℕ → Bool) → ids_where p ≡ ids_where (has (ids_where p))
  sets-cut p = ids_where-agree p (has (ids_where p)) (λ h below. sym (has-ids_where p h below))

  -- ---- caches

  pub caches_of-cut : (h : ℕ) → h < o.config.harts → caches_of (opening_of o past) [] h ≡ caches_of o past h
  caches_of-cut h inside =
      let entries = ap (λ n. cache_after (o.places + n) (caches_of o past h).tlb covers_entry []) (sym (length-tlb_acts o past h))
      ∙ goes_on o.places (tlb_at o h) covers_entry [] (tlb_acts o past h) in
      let words = ap (λ n. cache_after (o.places + n) (caches_of o past h).words covers_word []) (sym (length-word_acts o past h))
      ∙ goes_on o.places (words_at o h) covers_word [] (word_acts o past h) in
      ap (λ (caches : Caches). (let made : Caches = record { tlb = cache_after (place_after o past) caches.tlb covers_entry []; words = cache_after (place_after o past) caches.words covers_word [] }
      in made)) (caches-cut h inside)
      ∙ (λ i. record { tlb = entries i; words = words i })

  -- ---- the RAM

  pub words-again : (ram : List ℕ) → IsRam ram → pages_of ram ≡ o.config.pages → words_of o.config.pages (word_in ram) ≡ ram
  words-again ram is pages =
      let n = PAGE_WORDS * o.config.pages in
      let f : ℕ → ℕ = λ i. unwrap_or (word_in ram (RAM_START + 8 * i)) 0 in
      let long : n ≡ length ram = omega (arith, is.whole, pages) in
      same_lists _ ram (length-map-range_with_len f 0 n ∙ long) (λ t d inside.
      let below : t < n = omega (arith, length-map-range_with_len f 0 n) in
      get_or-map-range_with_len f 0 n t t d below (omega arith) ∙ word-again ram t d is (omega (arith, long, below)))
    where
      word-again : (ram : List ℕ) (t d : ℕ) → IsRam ram → t < length ram → unwrap_or (word_in ram (RAM_START + 8 * t)) 0 ≡ get_or ram t d
      word-again ram t d is inside =
          let place : (RAM_START + 8 * t - RAM_START) / 8 ≡ t = omega arith in
          let stands : StandsAt ram (RAM_START + 8 * t) =
          record { start = omega arith; limit = omega (arith, is.whole, is.limit); aligned = omega arith; within = omega arith } in
          ap (λ w. unwrap_or w 0) (word_in-place ram (RAM_START + 8 * t) stands ∙ ap (slice_get ram) place ∙ slice_get-get_or ram t d inside)

  pub memory-cut : memory (opening_of o past) [] ≡ memory o past
  memory-cut =
      ap (λ (m : ℕ → Option ℕ). word_in (words_of o.config.pages m)) (sym held.words)
      ∙ ap word_in (words-again held.ram held.is_ram held.pages) ∙ held.words

  -- ---- counts

  pub starts-agree : (f g : ℕ → Option Start) (a n : ℕ) → ((h : ℕ) → a ≤ h → h < a + n → is_some (f h) ≡ is_some (g h))
      → length (filter_map f (range_with_len a n)) ≡ length (filter_map g (range_with_len a n))
  starts-agree f g a zero same = refl
  starts-agree f g a (suc n) same = by_starts (f a) (g a) (same a (omega arith) (omega arith)) (starts-agree f g (a + 1) n (λ h above below. same h (omega arith) (omega arith)))
    where
      by_starts : (x y : Option Start) → is_some x ≡ is_some y → length (filter_map f (range_with_len (a + 1) n)) ≡ length (filter_map g (range_with_len (a + 1) n))
          → length (cons_option x (filter_map f (range_with_len (a + 1) n))) ≡ length (cons_option y (filter_map g (range_with_len (a + 1) n)))
      by_starts None None e rest = rest
      by_starts None (Some y) e rest = cc
      by_starts (Some x) None e rest = cc
      by_starts (Some x) (Some y) e rest = ap suc rest

  pub pending-cut : (h : ℕ) → h < o.config.harts → is_some (start_in h (hart_at (opening_of o past).harts h).state (hart_at (opening_of o past).harts h).kept) ≡ is_some (pending o past h)
  pending-cut h inside = ap (λ (hart : Hart). is_some (start_in h hart.state hart.kept)) (hart-cut h inside) ∙ by_state (state o past h)
    where
      by_state : (s : HartState) → is_some (start_in h s (kept_in s (last_start o past h) (resume_point o past h))) ≡ is_some (if is_start_pending s then Some (last_start o past h) else None)
      by_state StartPending = refl
      by_state Started = refl
      by_state Stopped = refl
      by_state StopPending = refl
      by_state Suspended = refl
      by_state SuspendPending = refl
      by_state ResumePending = refl

  pub starts-cut : length (starts_opened (opening_of o past)) + length (entries o past) ≡ length (starts o past)
  starts-cut =
      let same = starts-agree (λ h. start_in h (hart_at (opening_of o past).harts h).state (hart_at (opening_of o past).harts h).kept) (pending o past) 0 o.config.harts
      (λ h above below. pending-cut h (omega arith)) in
      omega (arith, same, starts-counted o past held.boot_hart_is_there held.legal)

-- it is kept where few enough events were accepted
pub kept-cut : (o : Opening) (past : List Event) → IsHeld o past → IsKept o past → place_after o past ≤ 2 ^ 56 - 1000000 → IsKept (opening_of o past) []
kept-cut o past held kept early = record {
  good = kept.good;
  opened = record { cuts = suc kept.opened.cuts; opens = (o, past, kept.opened.opens, kept.legal, refl) };
  legal = opens-cut o past held;
  within = omega arith;
  early = early;
}
