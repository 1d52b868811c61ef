-- A new board's machine is its first opening.
use Rattle.std.proofs.Common.{◌≡◌, ℕ, ◌*◌, List, [], length, map, refl, sym, ◌∙◌, arith}
use Rattle.std.specs.Prelude.{Option, None, replicate}
use Rattle.std.proofs.lemmas.List.{length-replicate}
use Rattle.std.proofs.lemmas.List.FromFn.{length-range_with_len}
use Rattle.std.proofs.lemmas.Simd.{splat_is_map}
use Rattle.hart_mask.proofs.Sets.{ids_where-none}
use Rattle.hsm.specs.Transitions.{hart_at_opening}
use Rattle.interrupts.specs.Timing.{Timing}
use Rattle.rfence.specs.declared.opened.FenceCall.{FenceCall}
use Rattle.rfence.specs.Calls as calls
use Rattle.rfence.specs.Opening.{Asked, nothing_before}
use Rattle.rfence.specs.Cuts as fence_cuts
use Rattle.rfence.specs.Waiting as waits
use Rattle.rfence.proofs.Seams.{all-same}
use Rattle.sv39.specs.declared.ram.TheConstants.{PAGE_WORDS}
use Rattle.sv39.specs.Memory.{IsRam, pages_of, zero_words}
use Rattle.tlb_model.specs.declared.fence.Flush.{Flush}
use Rattle.board_terms.specs.declared.config.Config.{Config}
use Rattle.board_machine.specs.declared.machine.Machine.{Machine}
use Rattle.board_core.specs.Course.{harts_of}
use Rattle.board_core.specs.Csrs.{sie, sstatus_sie}
use Rattle.board_core.specs.Cuts.{words_of}
use Rattle.board_core.specs.Inside.Stands.{opening_in}
use Rattle.board_core.specs.Interrupts.{deadline, ssip}
use Rattle.board_terms.specs.Limits.{IsGood}
use Rattle.board_core.specs.Memory.{caches_of, memory, satp}
use Rattle.board_core.specs.Opening.{Opening, no_caches, opening_at}
use Rattle.board_core.specs.Inside.Stands.{IsKept, StandsFor}
use Rattle.board_core.specs.Starts.{hart_of}
use Rattle.board_core.proofs.Beginning.{caches-opened, deadline-opened, opened_as, opens, satp-opened}
use Rattle.board_core.proofs.Cutting.{words-again}
use Rattle.board_machine.proofs.CutStanding.{held-by, is-cut}
use Rattle.board_core.proofs.Tables.{tabulate-same}

module _ (c : Config) (good : IsGood c) where
  abbrev o : Opening
  o = opening_at c

  pub first-kept : IsKept (opening_at c) []
  first-kept = record {
    good = good;
    opened = record { cuts = 0; opens = (good, refl) };
    legal = opens c good;
    within = omega arith;
    early = omega arith;
  }

  -- the same value for each hart
  each : {A : Type 0} (x : A) (f : ℕ → A) → ((h : ℕ) → f h ≡ x) → map f (harts_of c) ≡ replicate c.harts x
  each x f same = sym (splat_is_map (harts_of c) c.harts x (length-range_with_len 0 c.harts) ∙ tabulate-same (λ j. x) f same (harts_of c))

  fences-first : fence_cuts.opening_after (nothing_before {F = Flush} c.harts) c.harts [] ≡ nothing_before c.harts
  fences-first =
      let none : List (Asked Flush) = [] in
      let missing : Option (FenceCall Flush) = None in
      let waiting = each none (waits.waiting (nothing_before c.harts) []) (λ t. all-same c.harts t none) in
      let called = each missing (calls.open_call (nothing_before c.harts) []) (λ h. all-same c.harts h missing) in
      λ i. record { first = 0; waiting = waiting i; calls = called i; asked = 0; applied = 0 }

  module _ (m : Machine) (ram : IsRam m.memory.ram) (stands : StandsFor (opening_at c) [] m) where
    words-first : words_of c.pages (memory (opening_at c) []) ≡ zero_words c.pages
    words-first =
        let zeros = zero_words c.pages in
        let many : length zeros ≡ PAGE_WORDS * c.pages = length-replicate (PAGE_WORDS * c.pages) 0 in
        let pages : pages_of zeros ≡ c.pages = omega (arith, many) in
        let is : IsRam zeros = record {
          whole = omega (arith, many, pages);
          some = omega (arith, pages, good.some_pages);
          limit = omega (arith, pages, good.at_most_256_pages);
        } in
        words-again (opening_at c) [] (held-by (opening_at c) [] m first-kept ram stands) zeros is pages

    pub first-in : opening_in c 0 m ≡ opening_at c
    first-in =
        let harts = sym (tabulate-same (hart_at_opening c.boot_hart (record { addr = c.boot_addr; opaque = c.boot_opaque })) (hart_of (opening_at c) []) (opened_as c good) (harts_of c)) in
        let deadlines = each None (deadline (opening_at c) []) (deadline-opened c good) in
        let satps = each 0 (satp (opening_at c) []) (satp-opened c good) in
        let caches = each no_caches (caches_of (opening_at c) []) (caches-opened c good) in
        let timers : (let timing : Timing = record { time = 0; deadlines = map (deadline (opening_at c) []) (harts_of c) } in timing) ≡ (opening_at c).timers =
        (λ i. record { time = 0; deadlines = deadlines i }) in
        is-cut (opening_at c) [] (held-by (opening_at c) [] m first-kept ram stands) m ram stands
        ∙ (λ i. record {
          config = c;
          places = 0;
          harts = harts i;
          sstatus_sie = ids_where-none (sstatus_sie (opening_at c) []) (λ j below. refl) i;
          ssie = ids_where-none (λ h. (sie (opening_at c) [] h).ssie) (λ j below. refl) i;
          stie = ids_where-none (λ h. (sie (opening_at c) [] h).stie) (λ j below. refl) i;
          ssip = ids_where-none (ssip (opening_at c) []) (λ j below. refl) i;
          timers = timers i;
          ram = words-first i;
          satps = satps i;
          caches = caches i;
          fences = fences-first i;
          entered = 0;
          last_reset = None;
        })
