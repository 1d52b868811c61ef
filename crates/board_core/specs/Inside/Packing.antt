-- The machine that a packed machine stands for: private.
use Rattle.board_machine.specs.declared.machine.Machine.{Machine}
use Rattle.board_core.specs.declared.packed.PackedMachine.{PackedMachine}

-- the machine of these components
abbrev pub machine_in : PackedMachine → Machine
machine_in m = record {
  hsm = m.hsm;
  interrupts = m.interrupts;
  memory = record { ram = m.ram; satps = m.satps; caches = m.caches };
  fences = m.fences;
  counts = m.counts;
  last_reset = m.last_reset;
}
