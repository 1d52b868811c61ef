-- Why there was no run (profile).
use Rattle.std.specs.Prelude.{ℕ}
use Rattle.guest_programs.specs.declared.ends.RunFault.{RunFault}
use Rattle.guest_programs.specs.declared.ends.RunFault.TheVariants.{BadConfig, NoMemory, NoThread}

-- The number of each fault of a run.
abbrev pub run_fault_number : RunFault → ℕ
run_fault_number BadConfig = 1
run_fault_number NoMemory = 2
run_fault_number NoThread = 3
