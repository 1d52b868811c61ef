-- Programs as guests see them.
use Rattle.std.specs.Prelude.{ℕ, Bool, Option}
use Rattle.sv39.specs.declared.paging.Spaces.{Spaces}
use Rattle.rv64_instructions.specs.declared.instruction.Instruction.{Instruction}

-- A program: the instruction at each address, whether an address is the end of a section, the widths of the board's addresses and
-- address spaces, and whether guests keep their registers at their ends.
pub record Listing : Type 0 where
  pub instruction : ℕ → Option Instruction
  pub is_end : ℕ → Bool
  pub spaces : Spaces
  pub keeps : Bool
