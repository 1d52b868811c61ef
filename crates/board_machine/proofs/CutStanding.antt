-- A machine that stands for a history stands for the opening that the history leaves, and is it.
use Rattle.std.proofs.Common.{◌≡◌, ℕ, List, [], sym, ap, ◌∙◌, arith}
use Rattle.sv39.specs.Memory.{IsRam}
use Rattle.rfence.specs.Cuts as fence_cuts
use Rattle.rfence.proofs.Seams.{kept-is, opens-right, stands-after}
use Rattle.rfence.proofs.Tables.{tabulate-agree}
use Rattle.board_machine.specs.declared.machine.Machine.{Machine}
use Rattle.board_rules.specs.Csrs.{sie, sstatus_sie}
use Rattle.board_rules.specs.Cuts.{IsHeld, IsKept, opening_of, words_of}
use Rattle.board_rules.specs.Fences.{turns}
use Rattle.board_rules.specs.History.{Event}
use Rattle.board_rules.specs.Interrupts.{deadline, ssip}
use Rattle.board_rules.specs.Memory.{caches_of, satp}
use Rattle.board_rules.specs.Opening.{Opening, place_after}
use Rattle.board_machine.specs.Stands.{StandsFor}
use Rattle.board_rules.specs.Starts.{hart_of}
use Rattle.board_machine.specs.Stands.{opening_in}
use Rattle.board_rules.proofs.Cutting.{caches_of-cut, deadlines-cut, harts-cut, memory-cut, places-cut, satps-cut, sets-cut, starts-cut, words-again}

-- what a board knows of its course
pub held-by : (o : Opening) (past : List Event) (m : Machine) → IsKept o past → IsRam m.memory.ram → StandsFor o past m → IsHeld o past
held-by o past m kept ram stands = record {
  boot_hart_is_there = kept.good.boot_hart_is_there;
  legal = kept.legal;
  right = stands.fences.right;
  ram = m.memory.ram;
  is_ram = ram;
  pages = stands.memory.pages;
  words = stands.memory.ram;
}

module _ (o : Opening) (past : List Event) (held : IsHeld o past) where
  pub stands-cut : (m : Machine) → StandsFor o past m → StandsFor (opening_of o past) [] m
  stands-cut m stands = record {
    harts = record { each = stands.harts.each ∙ tabulate-agree (hart_of o past) (hart_of (opening_of o past) []) o.config.harts (λ h inside. sym (harts-cut o past held h inside)) };
    interrupts = record {
      csrs = record {
        sstatus_sie = stands.interrupts.csrs.sstatus_sie ∙ sets-cut o past held (sstatus_sie o past);
        ssie = stands.interrupts.csrs.ssie ∙ sets-cut o past held (λ h. (sie o past h).ssie);
        stie = stands.interrupts.csrs.stie ∙ sets-cut o past held (λ h. (sie o past h).stie);
      };
      ipis = record { ssip = stands.interrupts.ipis.ssip ∙ sets-cut o past held (ssip o past) };
      timers = record {
        time = stands.interrupts.timers.time;
        deadlines = stands.interrupts.timers.deadlines ∙ tabulate-agree (deadline o past) (deadline (opening_of o past) []) o.config.harts (λ h inside. sym (deadlines-cut o past held h inside));
      };
    };
    memory = record {
      pages = stands.memory.pages;
      ram = stands.memory.ram ∙ sym (memory-cut o past held);
      satps = stands.memory.satps ∙ tabulate-agree (satp o past) (satp (opening_of o past) []) o.config.harts (λ h inside. sym (satps-cut o past held h inside));
      caches = stands.memory.caches ∙ tabulate-agree (caches_of o past) (caches_of (opening_of o past) []) o.config.harts (λ h inside. sym (caches_of-cut o past held h inside));
    };
    fences = record {
      stands = stands-after o.fences o.config.harts (turns o past) held.right m.fences stands.fences.stands;
      right = opens-right o.fences o.config.harts (turns o past) held.right;
      places = places-cut o past held;
    };
    counts = record {
      starts = stands.counts.starts ∙ omega (arith, starts-cut o past held);
      entries = stands.counts.entries ∙ omega arith;
    };
    last_reset = stands.last_reset;
  }

  -- and what it holds is the new opening
  pub is-cut : (m : Machine) → IsRam m.memory.ram → StandsFor o past m → opening_in o.config (place_after o past) m ≡ opening_of o past
  is-cut m ram stands =
      let timers : m.interrupts.timers ≡ (opening_of o past).timers =
      (λ i. record { time = stands.interrupts.timers.time i; deadlines = stands.interrupts.timers.deadlines i }) in
      let words = sym (words-again o past held m.memory.ram ram stands.memory.pages) ∙ ap (words_of o.config.pages) stands.memory.ram in
      let fences = ap (λ place. fence_cuts.opening_in place m.fences) (sym (places-cut o past held)) ∙ kept-is o.fences o.config.harts (turns o past) held.right m.fences stands.fences.stands in
      λ i. record {
        config = o.config;
        places = place_after o past;
        harts = stands.harts.each i;
        sstatus_sie = stands.interrupts.csrs.sstatus_sie i;
        ssie = stands.interrupts.csrs.ssie i;
        stie = stands.interrupts.csrs.stie i;
        ssip = stands.interrupts.ipis.ssip i;
        timers = timers i;
        ram = words i;
        satps = stands.memory.satps i;
        caches = stands.memory.caches i;
        fences = fences i;
        entered = stands.counts.entries i;
        last_reset = stands.last_reset i;
      }

-- so a copy of it is the opening that the history leaves
pub copy-cut : (o : Opening) (past : List Event) (m copy : Machine) (place : ℕ) → IsKept o past → IsRam m.memory.ram → StandsFor o past m → place ≡ place_after o past
    → opening_in o.config place copy ≡ opening_in o.config place m → opening_in o.config place copy ≡ opening_of o past
copy-cut o past m copy place kept ram stands here same =
    same ∙ ap (λ p. opening_in o.config p m) here ∙ is-cut o past (held-by o past m kept ram stands) m ram stands
