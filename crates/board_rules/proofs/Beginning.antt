-- What the definitions say of a board's first opening.
use Rattle.std.proofs.Common.{◌≡◌, List, length, subst, ◌≢◌, ℕ, ◌+◌, ◌<◌, ◌≤◌, suc, zero, Bool, true, false, [], ◌∷◌, refl, sym, ap, ◌∙◌, arith, inl, inr}
use Rattle.std.specs.Prelude.{Option, Some, None, find, is_some, unwrap_or, ◌==◌, if◌then◌else◌}
use Rattle.std.specs.List.{cons_option, filter_map, range_with_len}
use Rattle.std.proofs.lemmas.Bool.{cases_lt}
use Rattle.std.proofs.lemmas.Bool.Decides.{eqb_tells}
use Rattle.std.proofs.lemmas.List.{get_or_past, length-replicate}
use Rattle.std.proofs.lemmas.List.FromFn.{get_or-map-range_with_len, length-map-range_with_len}
use Rattle.hsm.specs.declared.hart.HartState.TheVariants.{StartPending}
use Rattle.hsm.specs.declared.hart.EntryPoint.{EntryPoint}
use Rattle.hsm.specs.Harts.{Hart, resting, starting}
use Rattle.hsm.specs.Transitions.{hart_at, hart_at_opening}
use Rattle.rfence.proofs.Seams.{all-same, begins-right}
use Rattle.sv39.specs.Memory.{zero_memory}
use Rattle.sv39.proofs.Words.{word_in-zeros}
use Rattle.std.proofs.lemmas.List.Elements.{All-nil, All-same}
use Rattle.rfence.specs.declared.opened.FenceCall.{FenceCall}
use Rattle.rfence.specs.Opening.{Asked}
use Rattle.tlb_model.specs.declared.cache.Numbered.{Numbered}
use Rattle.tlb_model.specs.declared.fence.Flush.{Flush}
use Rattle.tlb_model.specs.declared.word.FetchWord.{FetchWord}
use Rattle.tlb_model.specs.declared.caches.Caches.{Caches}
use Rattle.tlb_model.specs.Acts.{cache_after}
use Rattle.tlb_model.specs.Entries.{Entry, covers_entry}
use Rattle.tlb_model.specs.Words.{covers_word}
use Rattle.board_terms.specs.declared.config.Config.{Config}
use Rattle.board_terms.specs.Limits.{IsGood}
use Rattle.board_rules.specs.History.{Event}
use Rattle.board_rules.specs.Interrupts.{deadline}
use Rattle.board_rules.specs.Memory.{caches_of, memory, satp}
use Rattle.board_rules.specs.Cuts.{IsOpened, OpensAfter}
use Rattle.board_rules.specs.Opening.{IsOpening, Opening, no_caches, opening_at, tlb_at, words_at}
use Rattle.board_rules.specs.Replies.{IsLegal}
use Rattle.board_rules.specs.Starts.{Start, boot_start, hart_of, is_of, kept_in, last_start, start_in, starts_opened}
use Rattle.board_rules.proofs.Opened.{found-inside}
use Rattle.board_rules.proofs.Tables.{eqb-other, eqb-same}

-- one start of some harts, and no other
module _ (f : ℕ → Option Start) (b : ℕ) (start : Start) (is : f b ≡ Some start) (others : (i : ℕ) → i ≢ b → f i ≡ None) where
  no-start : (a n : ℕ) → b < a → filter_map f (range_with_len a n) ≡ []
  no-start a zero past = refl
  no-start a (suc n) past = ap (λ one. cons_option one (filter_map f (range_with_len (a + 1) n))) (others a (λ e. absurd (omega arith))) ∙ no-start (a + 1) n (omega arith)

  one-start : (a n : ℕ) → a ≤ b → b < a + n → filter_map f (range_with_len a n) ≡ start ∷ []
  one-start a zero low high = absurd (omega arith)
  one-start a (suc n) low high = elim (eqb_tells a b) [
    | inl same ↦
        ap (λ i. cons_option (f i) (filter_map f (range_with_len (a + 1) n))) same.1
        ∙ ap (λ one. cons_option one (filter_map f (range_with_len (a + 1) n))) is
        ∙ ap (λ starts. start ∷ starts) (no-start (a + 1) n (let e = same.1 in omega arith))
    | inr other ↦
        ap (λ one. cons_option one (filter_map f (range_with_len (a + 1) n))) (others a other.1)
        ∙ one-start (a + 1) n (let e = other.1 in omega arith) (omega arith)
  ]

module _ (c : Config) (good : IsGood c) where
  abbrev boot : EntryPoint
  boot = record { addr = c.boot_addr; opaque = c.boot_opaque }

  -- the boot hart's start is pending, and the others are at rest, those that aren't there too
  pub hart-opened : (h : ℕ) → hart_at (opening_at c).harts h ≡ hart_at_opening c.boot_hart boot h
  hart-opened h = elim (cases_lt h c.harts) [
    | inl near ↦ get_or-map-range_with_len (hart_at_opening c.boot_hart boot) 0 c.harts h h resting near (omega arith)
    | inr far ↦
        get_or_past (opening_at c).harts h resting (omega (arith, length-map-range_with_len (hart_at_opening c.boot_hart boot) 0 c.harts))
        ∙ sym (rw (eqb-other h c.boot_hart (λ e. absurd (let there = good.boot_hart_is_there in omega arith))) refl)
  ]

  starts-with : (h : ℕ) → (hart_at_opening c.boot_hart boot h).state ≡ StartPending → is_some (hart_at_opening c.boot_hart boot h).kept ≡ true
  starts-with h = by_own (h == c.boot_hart)
    where
      by_own : (own : Bool) → (if own then starting boot else resting).state ≡ StartPending → is_some (if own then starting boot else resting).kept ≡ true
      by_own true is = refl
      by_own false is = cc

  -- a board can open so
  pub opens : IsOpening (opening_at c)
  opens = record {
    harts = length-map-range_with_len (hart_at_opening c.boot_hart boot) 0 c.harts;
    starts = λ h is. ap (λ (hart : Hart). is_some hart.kept) (hart-opened h) ∙ starts-with h (sym (ap (λ (hart : Hart). hart.state) (hart-opened h)) ∙ is);
    deadlines = length-replicate c.harts None;
    satps = length-replicate c.harts 0;
    caches = length-replicate c.harts no_caches;
    fences = begins-right c.harts good.at_most_128_harts;
    places = refl;
    waits = λ h some. absurd (let none : List (Asked Flush) = [] in let all = ap length (all-same c.harts h none) in omega arith);
    calls = λ h inside. absurd (let missing : Option (FenceCall Flush) = None in let none = sym (ap is_some (all-same c.harts h missing)) ∙ inside in cc);
    entries_dated = λ h. All-same (λ (x : Numbered Entry). x.date < 0) (tlb_at (opening_at c) h).live [] (ap (λ (caches : Caches). caches.tlb.live) (all-same c.harts h no_caches))
        (All-nil (λ (x : Numbered Entry). x.date < 0));
    words_dated = λ h. All-same (λ (x : Numbered FetchWord). x.date < 0) (words_at (opening_at c) h).live [] (ap (λ (caches : Caches). caches.words.live) (all-same c.harts h no_caches))
        (All-nil (λ (x : Numbered FetchWord). x.date < 0));
    entries_few = λ h. let none = ap (λ (caches : Caches). caches.tlb.next) (all-same c.harts h no_caches) in omega arith;
    words_few = λ h. let none = ap (λ (caches : Caches). caches.words.next) (all-same c.harts h no_caches) in omega arith;
    entered_few = omega arith;
  }

  -- a hart is as the firmware makes it
  pub opened_as : (h : ℕ) → hart_of (opening_at c) [] h ≡ hart_at_opening c.boot_hart boot h
  opened_as h = elim (eqb_tells h c.boot_hart) [
    | inl same ↦ by_hart (hart-opened h ∙ rw same.0 refl) (let there = good.boot_hart_is_there in let e = same.1 in found-inside (opening_at c) opens h (omega arith)) ∙ sym (rw same.0 refl)
    | inr other ↦ by_rest (hart-opened h ∙ rw other.0 refl) ∙ sym (rw other.0 refl)
  ]
    where
      as_kept : Hart → Hart
      as_kept hart = record { state = hart.state; kept = kept_in hart.state (last_start (opening_at c) [] h) hart.kept }

      by_hart : hart_at (opening_at c).harts h ≡ starting boot
          → find (is_of h) (starts_opened (opening_at c)) ≡ start_in h (hart_at (opening_at c).harts h).state (hart_at (opening_at c).harts h).kept
          → hart_of (opening_at c) [] h ≡ starting boot
      by_hart is found =
          let last = ap (λ one. unwrap_or one (boot_start c)) (found ∙ ap (λ (hart : Hart). start_in h hart.state hart.kept) is) in
          ap as_kept is ∙ ap (λ (start : Start). starting (record { addr = start.addr; opaque = start.opaque })) last

      by_rest : hart_at (opening_at c).harts h ≡ resting → hart_of (opening_at c) [] h ≡ resting
      by_rest is = ap as_kept is

  -- the boot hart's start is the only one
  pub starts-opened : starts_opened (opening_at c) ≡ boot_start c ∷ []
  starts-opened =
      one-start (λ h. start_in h (hart_at (opening_at c).harts h).state (hart_at (opening_at c).harts h).kept) c.boot_hart (boot_start c)
      (ap (λ (hart : Hart). start_in c.boot_hart hart.state hart.kept) (hart-opened c.boot_hart) ∙ rw (eqb-same c.boot_hart) refl)
      (λ i other. ap (λ (hart : Hart). start_in i hart.state hart.kept) (hart-opened i) ∙ rw (eqb-other i c.boot_hart other) refl)
      0 c.harts (omega arith) (let there = good.boot_hart_is_there in omega arith)

  pub satp-opened : (h : ℕ) → satp (opening_at c) [] h ≡ 0
  satp-opened h = all-same c.harts h 0

  pub deadline-opened : (h : ℕ) → deadline (opening_at c) [] h ≡ None
  deadline-opened h = all-same c.harts h None

  pub caches-opened : (h : ℕ) → caches_of (opening_at c) [] h ≡ no_caches
  caches-opened h = ap (λ (k : Caches). record { tlb = cache_after 0 k.tlb covers_entry []; words = cache_after 0 k.words covers_word [] }) (all-same c.harts h no_caches)

  pub memory-opened : memory (opening_at c) [] ≡ zero_memory c.pages
  memory-opened = word_in-zeros c.pages good.at_most_256_pages

good-after : (cuts : ℕ) (o : Opening) → OpensAfter cuts o → IsGood o.config
good-after zero o opens = opens.0
good-after (suc cuts) o opens = subst (λ (p : Opening). IsGood p.config) (sym opens.4) (good-after cuts opens.0 opens.2)

-- the numbers of a board are good
pub is-good : (o : Opening) → IsOpened o → IsGood o.config
is-good o opened = good-after opened.cuts o opened.opens

-- a legal history begins with an opening
pub legal-opens : (o : Opening) (past : List Event) → IsLegal o past → IsOpening o
legal-opens o [] legal = legal
legal-opens o (event ∷ past) legal = legal-opens o past legal.2
