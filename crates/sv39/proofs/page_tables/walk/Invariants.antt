use Rattle.sv39.specs.Memory.{word_in}
use Rattle.sv39.specs.Pages.{level_number}
use Rattle.sv39.proofs.MapsLaws.{Reached}
use Rattle.sv39.proofs.page_tables.walk.Given as goal

abbrev pub invariant-levels : goal.invariant-levels
invariant-levels l = Reached (word_in l.ram) l.fn.satp l.va l.kind l.level l.table l.global

abbrev pub decreases-levels : goal.decreases-levels
decreases-levels l = level_number l.level
