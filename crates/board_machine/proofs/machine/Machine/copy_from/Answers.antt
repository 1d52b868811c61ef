use Rattle.std.proofs.Common.{ap, sym, subst, ◌∙◌}
use Rattle.sv39.specs.Memory.{pages_of, word_in}
use Rattle.rfence.specs.Cuts as fence_cuts
use Rattle.board_machine.specs.Stands.{FencesStand, HartsStand, InterruptsStand}
use Rattle.board_machine.proofs.machine.Machine.copy_from.Goals as goal

pub returns-clause-stands : goal.returns-clause-stands
returns-clause-stands c = λ o past stands.
    record {
      harts = subst (HartsStand o past) (sym c.copy_from.ensures) stands.harts;
      interrupts = subst (InterruptsStand o past) (sym c.copy_from-2.ensures) stands.interrupts;
      memory = record {
        pages = ap pages_of c.copy_from-3.ensures.ram ∙ stands.memory.pages;
        ram = ap word_in c.copy_from-3.ensures.ram ∙ stands.memory.ram;
        satps = c.copy_from-3.ensures.satps ∙ stands.memory.satps;
        caches = c.copy_from-3.ensures.caches ∙ stands.memory.caches;
      };
      fences = subst (FencesStand o past) (sym c.copy_from-4.ensures) stands.fences;
      counts = stands.counts;
      last_reset = stands.last_reset;
    }

pub returns-clause-same : goal.returns-clause-same
returns-clause-same c = λ numbers places i. record {
  config = numbers;
  places = places;
  harts = c.copy_from.ensures i;
  sstatus_sie = (c.copy_from-2.ensures i).csrs.sstatus_sie;
  ssie = (c.copy_from-2.ensures i).csrs.ssie;
  stie = (c.copy_from-2.ensures i).csrs.stie;
  ssip = (c.copy_from-2.ensures i).ipis;
  timers = (c.copy_from-2.ensures i).timers;
  ram = c.copy_from-3.ensures.ram i;
  satps = c.copy_from-3.ensures.satps i;
  caches = c.copy_from-3.ensures.caches i;
  fences = fence_cuts.opening_in places (c.copy_from-4.ensures i);
  entered = c.args.from.now.counts.entries;
  last_reset = c.args.from.now.last_reset;
}
