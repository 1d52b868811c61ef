-- Laws of texts.
use Rattle.std.specs.Prelude.{◌≡◌, ℕ, List}
use Rattle.asm_program.specs.declared.assemble.ProgramFault.{ProgramFault}
use Rattle.asm_program.specs.Assembles.{Assembles, HasFault, Image}

-- A text says at most one program, and none if it has a fault; and it has at most one first fault.
pub record HasOneAssembly (text : List ℕ) : Type 0 where
  pub program : (one other : Image) → Assembles text one → Assembles text other → one ≡ other
  pub apart : (image : Image) (fault : ProgramFault) → Assembles text image → ¬ HasFault text fault
  pub fault : (one other : ProgramFault) → HasFault text one → HasFault text other → one ≡ other
