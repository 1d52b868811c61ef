use Rattle.std.proofs.Common.{ap, sym, subst, ◌∙◌}
use Rattle.sv39.specs.Memory.{pages_of, word_in}
use Rattle.rfence.specs.Cuts as fence_cuts
use Rattle.board_machine.specs.Stands.{FencesStand, HartsStand, InterruptsStand}
use Rattle.board_machine.proofs.machine.Machine.try_copy.Goals as goal

-- a copy stands for what the machine stands for
pub returns-clause-stands : goal.returns-clause-stands
returns-clause-stands c = λ o past stands.
    record {
      harts = subst (HartsStand o past) (sym c.in_ok-hsm.ensures) stands.harts;
      interrupts = subst (InterruptsStand o past) (sym c.in_ok-interrupts.ensures) stands.interrupts;
      memory = record {
        pages = ap pages_of c.in_ok-memory.ensures.ram ∙ stands.memory.pages;
        ram = ap word_in c.in_ok-memory.ensures.ram ∙ stands.memory.ram;
        satps = c.in_ok-memory.ensures.satps ∙ stands.memory.satps;
        caches = c.in_ok-memory.ensures.caches ∙ stands.memory.caches;
      };
      fences = subst (FencesStand o past) (sym c.in_ok-fences.ensures) stands.fences;
      counts = stands.counts;
      last_reset = stands.last_reset;
    }

-- what it holds is what the machine holds
pub returns-clause-same : goal.returns-clause-same
returns-clause-same c = λ numbers places i. record {
  config = numbers;
  places = places;
  harts = c.in_ok-hsm.ensures i;
  sstatus_sie = (c.in_ok-interrupts.ensures i).csrs.sstatus_sie;
  ssie = (c.in_ok-interrupts.ensures i).csrs.ssie;
  stie = (c.in_ok-interrupts.ensures i).csrs.stie;
  ssip = (c.in_ok-interrupts.ensures i).ipis;
  timers = (c.in_ok-interrupts.ensures i).timers;
  ram = c.in_ok-memory.ensures.ram i;
  satps = c.in_ok-memory.ensures.satps i;
  caches = c.in_ok-memory.ensures.caches i;
  fences = fence_cuts.opening_in places (c.in_ok-fences.ensures i);
  entered = c.args.self.now.counts.entries;
  last_reset = c.args.self.now.last_reset;
}
