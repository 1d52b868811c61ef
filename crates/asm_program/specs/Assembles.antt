-- What a program's text says.
use Rattle.std.specs.Prelude.{◌≡◌, ◌⊎◌, ℕ, suc, true, false, List, [], ◌∷◌, ◌++◌, length, map, Some, None, Ok, Err}
use Rattle.std.specs.List.{flat_map}
use Rattle.asm_expressions.specs.declared.faults.Fault.{Fault}
use Rattle.asm_expressions.specs.declared.faults.Wrong.TheVariants.{Backwards, Unsettled}
use Rattle.asm_expressions.specs.Symbols.{Named, named_of}
use Rattle.asm_tokens.specs.Places.{place_in}
use Rattle.asm_tokens.specs.Readings.{AreTokens, IsFault, TokenSpot}
use Rattle.asm_program.specs.declared.assemble.AssemblyError.{AssemblyError}
use Rattle.asm_program.specs.declared.assemble.AssemblyError.TheVariants.{Faulty, NoMemory}
use Rattle.asm_program.specs.declared.assemble.Assembly.{Assembly}
use Rattle.asm_program.specs.declared.assemble.ProgramFault.{ProgramFault}
use Rattle.asm_program.specs.declared.assemble.ProgramWrong.{ProgramWrong}
use Rattle.asm_program.specs.declared.assemble.ProgramWrong.TheVariants.{InText, InStatement}
use Rattle.asm_program.specs.declared.code.CodeLine.{CodeLine}
use Rattle.asm_program.specs.declared.data.Datum.{Datum}
use Rattle.asm_program.specs.declared.sections.Counters.{Counters}
use Rattle.asm_program.specs.Layout.{PartsReach, Standing, before_parts, ends_of, standing, reach_more}
use Rattle.asm_program.specs.Parts.{Piece, parts_of}
use Rattle.asm_program.specs.Sections.{are_settled, bases_of, zeros}
use Rattle.asm_program.specs.Written.{AllKnown, PartWriting, written_ticks, data_in, known_of, lines_in, part_written}

-- instructions and data at their addresses, the clock's ticks, the symbols, and where sections end
pub record Image : Type 0 where
  pub code : List CodeLine
  pub numbers : List Datum
  pub ticks : List ℕ
  pub symbols : List Named
  pub ends : List ℕ

-- what the code's value says
abbrev pub image_of : Assembly → Image
image_of program = record {
  code = program.code.items;
  numbers = program.data.items;
  ticks = program.ticks.items;
  symbols = map named_of program.symbols.items;
  ends = program.ends.items;
}

-- ---- parts

-- Parts that reach from one address to another: each stands where the one before it ends, and sees the symbols above it.
abbrev pub LeadTo : (number : ℕ) → PartsReach → List Standing → PartsReach → Type 0
LeadTo number from [] to = from ≡ to
LeadTo number from (one ∷ more) to =
    (one ≡ standing number from one.part) × (next : PartsReach) × (reach_more number from one.part ≡ Ok next)
    × LeadTo (suc number) next more to

-- These parts stand here, and reach so far, where sections begin at these bases.
pub record Stand (bases : Counters) (parts : List Piece) (standings : List Standing) (to : PartsReach) : Type 0 where
  pub all : map (λ one. one.part) standings ≡ parts
  pub lead : LeadTo 0 (before_parts bases) standings to

-- Sections with these parts have these sizes: so far they reach where each before_parts at 0.
pub record HaveSizes (parts : List Piece) (sizes : Counters) : Type 0 where
  pub standings : List Standing
  pub to : PartsReach
  pub stand : Stand zeros parts standings to
  pub same : to.counters ≡ sizes

-- Parts stand where each section before_parts behind the one before it, and has there the same size.
pub record Settle (parts : List Piece) (standings : List Standing) (to : PartsReach) : Type 0 where
  pub sizes : Counters
  pub bases : Counters
  pub have_sizes : HaveSizes parts sizes
  pub follow : bases_of sizes ≡ Some bases
  pub stand : Stand bases parts standings to
  pub same : are_settled bases sizes to.counters ≡ true

-- each part writes this, when so much is known
abbrev pub WriteAll : AllKnown → List Standing → List PartWriting → Type 0
WriteAll known standings writings = map (part_written known) standings ≡ map Ok writings

-- Parts say a program: its symbols are those that they define, its ends are where they end, and its instructions, data and ticks are
-- those that they write.
pub record SayProgram (parts : List Piece) (image : Image) : Type 0 where
  pub standings : List Standing
  pub to : PartsReach
  pub writings : List PartWriting
  pub settle : Settle parts standings to
  pub symbols : image.symbols ≡ to.symbols
  pub ends : image.ends ≡ ends_of to
  pub write : WriteAll (known_of to standings) standings writings
  pub code : image.code ≡ flat_map lines_in writings
  pub numbers : image.numbers ≡ flat_map data_in writings
  pub ticks : image.ticks ≡ flat_map written_ticks writings

-- ---- faults

-- A part that can't stand behind those before it, which do.
pub record CantStand (bases : Counters) (parts : List Piece) (fault : Fault) : Type 0 where
  pub before : List Standing
  pub from : PartsReach
  pub part : Piece
  pub behind : List Piece
  pub all : map (λ one. one.part) before ++ part ∷ behind ≡ parts
  pub lead : LeadTo 0 (before_parts bases) before from
  pub fails : reach_more (length before) from part ≡ Err fault

-- Sections that are too large together.
pub record HaveNoRoom (parts : List Piece) (fault : Fault) : Type 0 where
  pub sizes : Counters
  pub have_sizes : HaveSizes parts sizes
  pub none : bases_of sizes ≡ None
  pub is : fault ≡ record { wrong = Backwards; left = 0 }

-- A part that can't stand where sections stand one behind the other.
pub record CantFollow (parts : List Piece) (fault : Fault) : Type 0 where
  pub sizes : Counters
  pub bases : Counters
  pub have_sizes : HaveSizes parts sizes
  pub follow : bases_of sizes ≡ Some bases
  pub cant : CantStand bases parts fault

-- Sections that have another size where they stand one behind the other.
pub record DontSettle (parts : List Piece) (fault : Fault) : Type 0 where
  pub sizes : Counters
  pub bases : Counters
  pub standings : List Standing
  pub to : PartsReach
  pub have_sizes : HaveSizes parts sizes
  pub follow : bases_of sizes ≡ Some bases
  pub stand : Stand bases parts standings to
  pub differ : are_settled bases sizes to.counters ≡ false
  pub is : fault ≡ record { wrong = Unsettled; left = 0 }

-- Parts that all stand, and the first of them that can't be part_written.
pub record CantWrite (parts : List Piece) (fault : Fault) : Type 0 where
  pub before : List Standing
  pub one : Standing
  pub behind : List Standing
  pub to : PartsReach
  pub writings : List PartWriting
  pub settle : Settle parts (before ++ one ∷ behind) to
  pub write : WriteAll (known_of to (before ++ one ∷ behind)) before writings
  pub fails : part_written (known_of to (before ++ one ∷ behind)) one ≡ Err fault

-- The first fault of parts: of one that can't stand where each section before_parts at 0; or of the sections together; or of one that
-- can't stand behind the other sections; or if all can, of one that can't be part_written.
abbrev pub HaveFault : List Piece → Fault → Type 0
HaveFault parts fault =
    CantStand zeros parts fault ⊎ (HaveNoRoom parts fault ⊎ (CantFollow parts fault ⊎ (DontSettle parts fault ⊎ CantWrite parts fault)))

-- ---- texts

-- A text says this program.
pub record Assembles (text : List ℕ) (image : Image) : Type 0 where
  pub tokens : List TokenSpot
  pub are_tokens : AreTokens text tokens
  pub say : SayProgram (parts_of tokens) image

-- The first fault of a text whose characters are tokens.
pub record HasPartFault (text : List ℕ) (fault : Fault) : Type 0 where
  pub tokens : List TokenSpot
  pub are_tokens : AreTokens text tokens
  pub have : HaveFault (parts_of tokens) fault

-- a fault of a text's characters, or of its parts, at a place
abbrev pub IsFaultAt : (text : List ℕ) → ProgramWrong → (left : ℕ) → Type 0
IsFaultAt text (InText wrong) left = IsFault text (record { wrong = wrong; left = left })
IsFaultAt text (InStatement wrong) left = HasPartFault text (record { wrong = wrong; left = left })

-- The first fault of a text, with its line and column: of its characters; or if they are tokens, of its parts.
abbrev pub HasFault : (text : List ℕ) → ProgramFault → Type 0
HasFault text fault = (left : ℕ) × IsFaultAt text fault.wrong left × (fault.place ≡ place_in text left)

-- Why a text isn't assembled: it has a fault, or memory was refused.
abbrev pub IsUnassembled : (text : List ℕ) → AssemblyError → Type 0
IsUnassembled text (Faulty fault) = HasFault text fault
IsUnassembled text NoMemory = Unit {0}
