-- The block that takes lines, as what it says.
use Rattle.std.specs.Prelude.{ℕ, List, Option}
use Rattle.guest_script.specs.declared.blocks.OpenBlock.{OpenBlock}
use Rattle.guest_script.specs.declared.blocks.OpenBlock.TheVariants as opens
use Rattle.guest_script.specs.Grammar.{guest, Blocks, Guest, Open, OfClock, OfGuest}

abbrev pub open_of : OpenBlock → Open
open_of (opens.Guest block) = OfGuest (guest block)
open_of (opens.Clock ticks) = OfClock ticks.items

-- a program so far
abbrev pub blocks_in : List Guest → Option (List ℕ) → Open → Blocks
blocks_in before clock current = record { before = before; clock = clock; current = current }
