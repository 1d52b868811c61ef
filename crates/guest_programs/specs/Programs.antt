-- Programs of scripts: what a board's guests and its clock do (profile).
use Rattle.std.specs.Prelude.{◌≡◌, ℕ, List, [], length, map, take}
use Rattle.board_terms.specs.declared.op.Op.{Op}
use Rattle.board_terms.specs.declared.op.Op.TheVariants.{Tick}
use Rattle.guest_script.specs.Grammar.{Content, Empty, Program, Schedule, Trace}
use Rattle.guest_programs.specs.Blocks.{in_blocks}
use Rattle.guest_programs.specs.Guests.{Next}

-- A script is a program, or is empty, which counts as a program without blocks.
abbrev pub IsProgram : Content → Type 0
IsProgram Empty = Unit {0}
IsProgram (Program blocks clock) = Unit {0}
IsProgram (Schedule lines) = ⊥
IsProgram (Trace lines) = ⊥

-- the clock's ticks, in order
abbrev pub ticks_of : Content → List ℕ
ticks_of Empty = []
ticks_of (Program blocks clock) = clock
ticks_of (Schedule lines) = []
ticks_of (Trace lines) = []

-- These operations are the first of the ticks, in order.
abbrev pub AreFirst : List ℕ → List Op → Type 0
AreFirst ticks ops = ops ≡ map Tick (take (length ops) ticks)

-- what guests do, by their blocks
abbrev pub blocks_of : Content → Next
blocks_of Empty = in_blocks []
blocks_of (Program blocks clock) = in_blocks blocks
blocks_of (Schedule lines) = in_blocks []
blocks_of (Trace lines) = in_blocks []
