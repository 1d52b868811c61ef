-- The instructions of an assembled program, as its guests find them (profile).
use Rattle.std.specs.Prelude.{ℕ, ◌+◌, ◌-◌, ◌%◌, ◌^◌, Bool, ◌&&◌, ◌==◌, if◌then◌else◌, List, [], ◌∷◌, slice_get, Option, Some, None, is_some, option_map}
use Rattle.std.specs.List.{list_any}
use Rattle.sv39.specs.declared.paging.Spaces.{Spaces}
use Rattle.rv64_instructions.specs.declared.instruction.Instruction.{Instruction}
use Rattle.asm_program.specs.declared.code.CodeLine.{CodeLine}
use Rattle.asm_guests.specs.Listings.{Listing}

-- the first instruction at an address
abbrev pub instruction_in : List CodeLine → (at : ℕ) → Option Instruction
instruction_in [] at = None
instruction_in (line ∷ lines) at = if line.at == at then Some line.instruction else instruction_in lines at

-- the instruction at a place of the list
abbrev pub line_found : List CodeLine → Option ℕ → Option Instruction
line_found lines None = None
line_found lines (Some place) = option_map (λ line. line.instruction) (slice_get lines place)

-- whether an address is an end of a section, with an instruction right before it
abbrev pub is_behind_last : List CodeLine → (ends : List ℕ) → (pc : ℕ) → Bool
is_behind_last lines ends pc =
    list_any (λ end. end == pc) ends && is_some (instruction_in lines ((pc + (2 ^ 64 - 4)) % 2 ^ 64))

-- What a program lists: its instructions by their addresses. A guest that goes on behind a section's last instruction is through.
abbrev pub listing_of : List CodeLine → (ends : List ℕ) → Spaces → (keeps : Bool) → Listing
listing_of lines ends spaces keeps =
    record { instruction = instruction_in lines; is_end = is_behind_last lines ends; spaces = spaces; keeps = keeps }
