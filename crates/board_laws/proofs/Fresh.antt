-- What accesses use and answer after a fence.
use Rattle.std.proofs.Common.{◌≡◌, ℕ, ◌<◌, ◌≤◌, Bool, true, false, List, [], ◌∷◌, subst, refl, sym, ap, ◌∙◌, arith, Option, Some, None, Ok, inl, inr}
use Rattle.std.specs.Prelude.{◌⊎◌, ◌+◌, find, if◌then◌else◌, option_map, unwrap_or}
use Rattle.std.specs.List.{All, Contains}
use Rattle.std.proofs.lemmas.Bool.{both_ways, cases_lt, eqb-true}
use Rattle.std.proofs.lemmas.List.Elements.{All-contains, All-head, All-tail}
use Rattle.sv39.specs.Maps.{maps}
use Rattle.sv39.specs.Pages.{size}
use Rattle.sv39.specs.Satp.{asid_of}
use Rattle.tlb_model.specs.declared.fence.Fence.{Fence}
use Rattle.tlb_model.specs.declared.fence.Flush.{Flush}
use Rattle.tlb_model.specs.declared.fence.Flush.TheVariants.{Words, Entries}
use Rattle.tlb_model.specs.declared.word.FetchWord.{FetchWord}
use Rattle.tlb_model.specs.declared.cache.Numbered.{Numbered}
use Rattle.tlb_model.specs.Entries.{Entry, covers_entry, matches}
use Rattle.tlb_model.specs.Words.{covers_word, is_at}
use Rattle.hart_access.specs.declared.accesses.Access.TheVariants as accesses
use Rattle.hart_access.specs.Accesses as whole
use Rattle.hart_access.specs.AccessKinds.{kind_of}
use Rattle.hart_access.specs.Translations.{Fills, Hits}
use Rattle.hart_access.specs.Ways.{phys_at}
use Rattle.hart_access.proofs.Used.{is_used, word_filled}
use Rattle.board_core.specs.Cuts.{IsOpened}
use Rattle.board_core.specs.Opening.{IsOpening, Opening, place_after, tlb_at, words_at}
use Rattle.board_core.specs.Accesses.{cached, hit}
use Rattle.board_core.specs.History.{Event, Reach}
use Rattle.board_core.specs.Memory.{memory, satp}
use Rattle.board_core.specs.Replies.{IsLegal}
use Rattle.board_laws.specs.Fresh.{FencedAccess, FencedFetch, GivenAfter, StoodAfter}
use Rattle.board_laws.specs.Fences.{ByCall, Itself, Reached}
use Rattle.board_laws.specs.Limits.{with_limit}
use Rattle.board_laws.specs.Lives.{EntryWasFilled, WordWasFilled, live_entries, live_words}
use Rattle.board_laws.specs.Places.{past_at}
use Rattle.board_laws.proofs.Gone.{struck-within}
use Rattle.board_laws.proofs.Reached.{fenced_is_gone, fences_strike}
use Rattle.board_laws.proofs.Leaves.{covers-matched, matched, same-leaf}
use Rattle.board_core.proofs.Beginning.{is-good}
use Rattle.board_laws.proofs.Openings.{IsPage, is-page, opened-pages}
use Rattle.board_laws.proofs.Lives.{Fetched, fetched, lives_from_its_date, used-reach}
use Rattle.board_laws.proofs.Places.{accesses-later, length-past_at, legal-with, opening-of, past_at-again, within}

-- what a search finds is in the list
record Found {A B : Type 0} (P Q : A → Type 0) (p : A → Bool) (f : A → B) (y : B) : Type 0 where
  x : A
  first_holds : P x
  second_holds : Q x
  passes : p x ≡ true
  gives : f x ≡ y

found : {A B : Type 0} (P Q : A → Type 0) (p : A → Bool) (f : A → B) (y : B) (xs : List A) → All P xs → All Q xs → option_map f (find p xs) ≡ Some y → Found P Q p f y
found P Q p f y [] all both e = cc
found {A} {B} P Q p f y (x ∷ xs) all both e = by_test (p x) refl e (found P Q p f y xs (All-tail P x xs all) (All-tail Q x xs both))
  where
    by_test : (b : Bool) → p x ≡ b → option_map f (if b then Some x else find p xs) ≡ Some y → (option_map f (find p xs) ≡ Some y → Found P Q p f y) → Found P Q p f y
    by_test true is e later = record { x = x; first_holds = All-head P x xs all; second_holds = All-head Q x xs both; passes = is; gives = cc }
    by_test false is e later = later e

-- a fence that has reached a hart was asked after the opening
asked-since : (o : Opening) (past : List Event) (t a : ℕ) (flush : Flush) → Reached o past t a flush → o.places ≤ a
asked-since o past t a flush (Itself x) = x.happened.since
asked-since o past t a flush (ByCall x asks succeeded) = asks.happened.since

module _ (o : Opening) (past : List Event) (limit t a p : ℕ) (opened : IsOpened (with_limit limit o)) (legal : IsLegal o past) where
  boot : o.config.boot_hart < o.config.harts
  boot = (is-good (with_limit limit o) opened).boot_hart_is_there

  -- an entry that was filled at a date after the fence was given there
  given-at : (fence : Fence) (reach : Reach) (entry : Entry) (x : FencedAccess o past t a p fence reach) (y : Numbered Entry)
      → EntryWasFilled o (past_at o past p) t y → y.item ≡ entry → a < y.date → entry.leaf.page ≤ reach.va → reach.va < entry.leaf.page + size entry.leaf.level
      → GivenAfter o past t a p reach.va entry.leaf
  given-at fence reach entry x y was gives later from before =
      let older = past_at o past p in
      let inside : p < place_after o past = within o past p x.event x.happened in
      let since = x.happened.since in
      let size = length-past_at o past p since (omega arith) in
      let dated = was.made.happened.since in
      let early : y.date < place_after o older = within o older y.date was.made.event was.made.happened in
      let again = past_at-again o past p y.date dated (omega arith) (omega arith) in
      let mapped = subst (λ (e : Entry). maps (memory o (past_at o older y.date)) (satp o (past_at o older y.date) t) was.reach.va (kind_of was.reach.access) ≡ Ok e.leaf) gives was.fills.mapped in
      record {
        place = y.date;
        after = later;
        upto = omega arith;
        there = was.reach;
        made = accesses-later o past p y.date t was.reach since (omega arith) was.made;
        gives = subst (λ (before : List Event). maps (memory o before) (satp o before t) reach.va (kind_of was.reach.access) ≡ Ok entry.leaf) again
            (same-leaf (memory o (past_at o older y.date)) (satp o (past_at o older y.date) t) was.reach.va reach.va (kind_of was.reach.access) entry.leaf mapped from before);
      }

  -- the entry that an access hits was given at its date, if the fence covers it
  given-hit : (fence : Fence) (reach : Reach) (entry : Entry) (x : FencedAccess o past t a p fence reach) → x.event.translation ≡ Some entry
      → Hits (satp o (past_at o past p) t) (hit o (past_at o past p) t) reach.va entry → GivenAfter o past t a p reach.va entry.leaf
  given-hit fence reach entry x translation hits =
      let older = past_at o past p in
      let older_legal = (legal-with o past p x.event legal x.happened).2 in
      let alive = lives_from_its_date o older t older_legal in
      let gone = fenced_is_gone o older t a (Entries fence) boot older_legal x.reached in
      let here = found (λ (y : Numbered Entry). EntryWasFilled o older t y ⊎ Contains (tlb_at o t).live y) (λ (y : Numbered Entry). y.date ≤ a → covers_entry (Entries fence) y.item ≡ false)
      (λ y. matches (record { va = reach.va; asid = asid_of (satp o older t) }) y.item) (λ y. y.item) entry (live_entries o older t) alive.entries gone.entries hits.hit in
      let match = matched entry reach.va (asid_of (satp o older t)) (subst (λ (e : Entry). matches (record { va = reach.va; asid = asid_of (satp o older t) }) e ≡ true) here.gives here.passes) in
      let page = subst (λ (e : Entry). IsPage e.leaf) here.gives (is-page o older t (opened-pages (with_limit limit o) opened t) here.x here.first_holds) in
      let covered = covers-matched fence entry reach.va (satp o older t) page.va match page.page x.page (x.space entry translation) in
      let later : a < here.x.date = elim (cases_lt a here.x.date) [
        | inl is ↦ is
        | inr early ↦ absurd (both_ways (covers_entry (Entries fence) entry) (ap (covers_entry (Entries fence)) (sym here.gives) ∙ here.second_holds early) covered)
      ] in
      elim here.first_holds [
        | inl was ↦ given-at fence reach entry x here.x was here.gives later match.from match.before
        | inr before ↦ absurd (before-fence here.x (opening-of o older older_legal) later (asked-since o older t a (Entries fence) x.reached) before)
      ]
    where
      -- what lived at the opening was filled before it
      before-fence : (y : Numbered Entry) → IsOpening o → a < y.date → o.places ≤ a → Contains (tlb_at o t).live y → ⊥
      before-fence y opens later since before =
          let dated = All-contains (λ (y : Numbered Entry). y.date < o.places) (tlb_at o t).live y (opens.entries_dated t) before in
          absurd (omega arith)

  -- and what it fills is given at its own place
  given-filled : (fence : Fence) (reach : Reach) (entry : Entry) (x : FencedAccess o past t a p fence reach)
      → Fills (memory o (past_at o past p)) (satp o (past_at o past p) t) (hit o (past_at o past p) t) reach.va reach.access entry → GivenAfter o past t a p reach.va entry.leaf
  given-filled fence reach entry x fills =
      let inside : p < place_after o past = within o past p x.event x.happened in
      let size = length-past_at o past p x.happened.since (omega arith) in
      let older_legal = (legal-with o past p x.event legal x.happened).2 in
      let later = struck-within o (past_at o past p) t a (Entries fence) (fences_strike o (past_at o past p) t a (Entries fence) boot older_legal x.reached) in
      record {
        place = p;
        after = omega arith;
        upto = omega arith;
        there = reach;
        made = record { event = x.event; happened = x.happened; by_hart = x.by_hart; access = x.access };
        gives = fills.mapped;
      }

-- the fence was asked before the access
pub after-fence : (o : Opening) (past : List Event) (t a p : ℕ) (fence : Fence) (reach : Reach) → o.config.boot_hart < o.config.harts → IsLegal o past → FencedAccess o past t a p fence reach → a < p
after-fence o past t a p fence reach boot legal x =
    let older_legal = (legal-with o past p x.event legal x.happened).2 in
    let inside = within o past p x.event x.happened in
    let size = length-past_at o past p x.happened.since (omega arith) in
    let later = struck-within o (past_at o past p) t a (Entries fence) (fences_strike o (past_at o past p) t a (Entries fence) boot older_legal x.reached) in
    omega arith

pub translations_are_fresh : (o : Opening) (past : List Event) (limit t a p : ℕ) (fence : Fence) (reach : Reach) (entry : Entry)
    → IsOpened (with_limit limit o) → IsLegal o past → (x : FencedAccess o past t a p fence reach) → x.event.translation ≡ Some entry → GivenAfter o past t a p reach.va entry.leaf
translations_are_fresh o past limit t a p fence reach entry opened legal x translation =
    let older = past_at o past p in
    let with_event = legal-with o past p x.event legal x.happened in
    let used_entry = sym (used-reach o older t x.event.actor x.event.op reach x.by_hart x.access) ∙ sym with_event.1 ∙ translation in
    elim ((is_used (memory o older) (satp o older t) (hit o older t) reach.va reach.access entry).0 used_entry) [
      | inl hits ↦ given-hit o past limit t a p opened legal fence reach entry x translation hits
      | inr fills ↦ given-filled o past limit t a p opened legal fence reach entry x fills
    ]

-- ---- fetched words

module _ (o : Opening) (past : List Event) (t a p va value : ℕ) (boot : o.config.boot_hart < o.config.harts) (legal : IsLegal o past) (x : FencedFetch o past t a p va value) where
  -- a cached word that was filled after the fence stood in the memory at its date
  stood-at : (pa : ℕ) (word : FetchWord) (y : Numbered FetchWord) → WordWasFilled o (past_at o past p) t y → y.item ≡ word → a < y.date → y.item.pa ≡ pa → StoodAfter o past a p pa word.word
  stood-at pa word y was gives later at_pa =
      let older = past_at o past p in
      let inside : p < place_after o past = within o past p x.event x.happened in
      let size = length-past_at o past p x.happened.since (omega arith) in
      let early : y.date < place_after o older = within o older y.date was.made.event was.made.happened in
      let again = past_at-again o past p y.date was.made.happened.since (omega arith) (omega arith) in
      record {
        place = y.date;
        after = later;
        upto = omega arith;
        stood = ap (λ (before : List Event). memory o before pa) (sym again) ∙ ap (memory o (past_at o older y.date)) (sym at_pa) ∙ was.fetches.word
            ∙ ap (λ (w : FetchWord). let n : Option ℕ = Some w.word in n) gives;
      }

  -- and what a fetch hits was filled after the fence
  stood-cached : (pa : ℕ) (word : FetchWord) → cached o (past_at o past p) t pa ≡ Some word → StoodAfter o past a p pa word.word
  stood-cached pa word hit_word =
      let older = past_at o past p in
      let older_legal = (legal-with o past p x.event legal x.happened).2 in
      let alive = lives_from_its_date o older t older_legal in
      let gone = fenced_is_gone o older t a Words boot older_legal x.reached in
      let here = found (λ (y : Numbered FetchWord). WordWasFilled o older t y ⊎ Contains (words_at o t).live y) (λ (y : Numbered FetchWord). y.date ≤ a → covers_word Words y.item ≡ false)
      (λ y. is_at pa y.item) (λ y. y.item) word (live_words o older t) alive.words gone.words hit_word in
      let later : a < here.x.date = elim (cases_lt a here.x.date) [
        | inl is ↦ is
        | inr early ↦ absurd (let no = here.second_holds early in cc)
      ] in
      elim here.first_holds [
        | inl was ↦ stood-at pa word here.x was here.gives later (eqb-true here.x.item.pa pa here.passes)
        | inr before ↦ absurd (before-fence here.x (opening-of o older older_legal) later (asked-since o older t a Words x.reached) before)
      ]
    where
      before-fence : (y : Numbered FetchWord) → IsOpening o → a < y.date → o.places ≤ a → Contains (words_at o t).live y → ⊥
      before-fence y opens later since before =
          let dated = All-contains (λ (y : Numbered FetchWord). y.date < o.places) (words_at o t).live y (opens.words_dated t) before in
          absurd (omega arith)

  -- and another one stands there at the fetch
  stands-now : Fetched o (past_at o past p) t va value x.event.translation → cached o (past_at o past p) t (phys_at x.event.translation va) ≡ None
      → StoodAfter o past a p (phys_at x.event.translation va) value
  stands-now got missed =
      let older = past_at o past p in
      let pa = phys_at x.event.translation va in
      let inside : p < place_after o past = within o past p x.event x.happened in
      let size = length-past_at o past p x.happened.since (omega arith) in
      let older_legal = (legal-with o past p x.event legal x.happened).2 in
      let later = struck-within o older t a Words (fences_strike o older t a Words boot older_legal x.reached) in
      let fills = (word_filled (memory o older) (satp o older t) (hit o older t) (cached o older t) va accesses.Fetch (record { pa = pa; word = unwrap_or (memory o older pa) 0 })).0
      (ap (λ place. whole.word_filling_by (memory o older) (cached o older t) place accesses.Fetch) got.place
      ∙ ap (λ found. whole.fetched_from found pa (unwrap_or (memory o older pa) 0)) missed) in
      let read = ap (λ found. whole.fetched_or found (unwrap_or (memory o older pa) 0)) (sym missed) ∙ got.read in
      record {
        place = p;
        after = omega arith;
        upto = omega arith;
        stood = fills.word ∙ ap (λ n. let v : Option ℕ = Some n in v) read;
      }

pub fetches_are_fresh : (o : Opening) (past : List Event) (t a p va value : ℕ) → o.config.boot_hart < o.config.harts → IsLegal o past → (x : FencedFetch o past t a p va value)
    → StoodAfter o past a p (phys_at x.event.translation va) value
fetches_are_fresh o past t a p va value boot legal x =
    let older = past_at o past p in
    let with_event = legal-with o past p x.event legal x.happened in
    let got = fetched o older t va value x.event.actor x.event.op x.event.reply x.event.translation x.by_hart x.fetch x.answer with_event.0 with_event.1 in
    by_cached (cached o older t (phys_at x.event.translation va)) refl got
  where
    by_cached : (found : Option FetchWord) → cached o (past_at o past p) t (phys_at x.event.translation va) ≡ found
        → Fetched o (past_at o past p) t va value x.event.translation → StoodAfter o past a p (phys_at x.event.translation va) value
    by_cached None missed got = stands-now o past t a p va value boot legal x got missed
    by_cached (Some word) hit_word got =
        let read : word.word ≡ value = ap (λ found. whole.fetched_or found (unwrap_or (memory o (past_at o past p) (phys_at x.event.translation va)) 0)) (sym hit_word) ∙ got.read in
        subst (StoodAfter o past a p (phys_at x.event.translation va)) read (stood-cached o past t a p va value boot legal x (phys_at x.event.translation va) word hit_word)
