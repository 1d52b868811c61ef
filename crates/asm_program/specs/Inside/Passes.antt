-- The assembler's two passes over the parts: where each stands, and then what each writes. No promise rests on these definitions.
use Rattle.std.specs.Prelude.{◌≡◌, ℕ, suc, if◌then◌else◌, List, [], ◌∷◌, ◌++◌, map, Option, Some, None, option_map, Result, Ok, Err}
use Rattle.asm_expressions.specs.declared.faults.Fault.{Fault}
use Rattle.asm_expressions.specs.declared.faults.Wrong.TheVariants.{Backwards, Unsettled}
use Rattle.asm_expressions.specs.declared.symbols.Symbol.{Symbol}
use Rattle.asm_expressions.specs.Symbols.{Named, named_of}
use Rattle.asm_expressions.specs.Values.{wrong_at}
use Rattle.asm_tokens.specs.declared.reader.TokensFault.{TokensFault}
use Rattle.asm_tokens.specs.declared.reader.TokensFault.TheVariants as reads
use Rattle.asm_tokens.specs.Places.{place_in}
use Rattle.asm_program.specs.declared.assemble.AssemblyError.{AssemblyError}
use Rattle.asm_program.specs.declared.assemble.AssemblyError.TheVariants.{Faulty}
use Rattle.asm_program.specs.declared.assemble.AssemblyError.TheVariants as errors
use Rattle.asm_program.specs.declared.assemble.ProgramWrong.TheVariants.{InText, InStatement}
use Rattle.asm_program.specs.declared.code.CodeLine.{CodeLine}
use Rattle.asm_program.specs.declared.data.Datum.{Datum}
use Rattle.asm_program.specs.declared.changes.Change.{Change}
use Rattle.asm_program.specs.declared.changes.Change.TheVariants as changes
use Rattle.asm_program.specs.declared.layout.Layout.{Layout}
use Rattle.asm_program.specs.declared.layout.Statement.{Statement}
use Rattle.asm_program.specs.declared.output.Output.{Output}
use Rattle.asm_program.specs.declared.sections.Counters.{Counters}
use Rattle.asm_program.specs.declared.stop.Stop.{Stop}
use Rattle.asm_program.specs.declared.stop.Stop.TheVariants as stops
use Rattle.asm_program.specs.Assembles.{Image}
use Rattle.asm_program.specs.Layout.{PartChange, PartsReach, Standing, before_parts, ends_of, standing, reach_more}
use Rattle.asm_program.specs.Layout.PartChange.{Stays, Moves, Enters, Goes, Defines, Reserves, Maps}
use Rattle.asm_program.specs.Parts.{Piece, piece_of}
use Rattle.asm_program.specs.Sections.{are_settled, bases_of, zeros}
use Rattle.asm_program.specs.Written.{AllKnown, PartWriting, known_of, part_written}
use Rattle.asm_program.specs.Written.PartWriting.{Blank, Lines, Numbers, Ticks}

-- ---- the code's values

abbrev pub changing_of : Change → PartChange
changing_of changes.Stays = Stays
changing_of (changes.Moves next) = Moves next
changing_of (changes.Enters section) = Enters section
changing_of (changes.Goes to) = Goes to
changing_of (changes.Defines symbol) = Defines (named_of symbol)
changing_of (changes.Reserves symbol next) = Reserves (named_of symbol) next
changing_of (changes.Maps map symbol) = Maps map (option_map named_of symbol)

abbrev pub change_of : Result Change Fault → Result PartChange Fault
change_of (Ok change) = Ok (changing_of change)
change_of (Err fault) = Err fault

abbrev pub named_result : Result Symbol Fault → Result Named Fault
named_result (Ok symbol) = Ok (named_of symbol)
named_result (Err fault) = Err fault

abbrev pub standing_of : Statement → Standing
standing_of statement =
    record { part = piece_of statement.part; number = statement.number; at = statement.at }

-- where a fault stops a pass, it is that of what was computed (a pass also stops where memory is refused)
abbrev pub StopsAt : {A : Type 0} → Result A Fault → Stop → Type 0
StopsAt computed stop = (fault : Fault) → stop ≡ stops.At fault → computed ≡ Err fault

-- ---- the first pass: how far the parts reach, and where each stands

pub record Laid : Type 0 where
  pub reached : PartsReach
  pub standings : List Standing

abbrev pub reached_of : Layout → PartsReach
reached_of layout = record {
  section = layout.section;
  counters = layout.counters;
  symbols = map named_of layout.symbols.items;
  left = layout.left.items;
  entries = layout.entries.items;
}

abbrev pub laid_of : Layout → Laid
laid_of layout = record { reached = reached_of layout; standings = map standing_of layout.statements.items }

abbrev pub nothing_laid : (bases : Counters) → Laid
nothing_laid bases = record { reached = before_parts bases; standings = [] }

abbrev pub with_one : List Standing → Standing → Result PartsReach Fault → Result Laid Fault
with_one before one (Err fault) = Err fault
with_one before one (Ok reached) = Ok (record { reached = reached; standings = before ++ one ∷ [] })

abbrev pub laid_more : (number : ℕ) → Laid → Piece → Result Laid Fault
laid_more number laid part = with_one laid.standings (standing number laid.reached part) (reach_more number laid.reached part)

abbrev pub laid_on : (later : Laid → Result Laid Fault) → Result Laid Fault → Result Laid Fault
laid_on later (Err fault) = Err fault
laid_on later (Ok laid) = later laid

abbrev pub laid_in : (number : ℕ) → Laid → List Piece → Result Laid Fault
laid_in number laid [] = Ok laid
laid_in number laid (part ∷ parts) = laid_on (λ next. laid_in (suc number) next parts) (laid_more number laid part)

-- ---- the second pass: what all parts write

pub record Sum : Type 0 where
  pub code : List CodeLine
  pub numbers : List Datum
  pub ticks : List ℕ

abbrev pub sum_of : Output → Sum
sum_of output = record { code = output.code.items; numbers = output.data.items; ticks = output.ticks.items }

abbrev pub nothing_written : Sum
nothing_written = record { code = []; numbers = []; ticks = [] }

abbrev pub added : Sum → PartWriting → Sum
added before Blank = before
added before (Lines lines) = record before { code = before.code ++ lines }
added before (Numbers numbers) = record before { numbers = before.numbers ++ numbers }
added before (Ticks ticks) = record before { ticks = before.ticks ++ ticks }

abbrev pub added_if : Sum → Result PartWriting Fault → Result Sum Fault
added_if before (Err fault) = Err fault
added_if before (Ok writing) = Ok (added before writing)

abbrev pub sum_on : (later : Sum → Result Sum Fault) → Result Sum Fault → Result Sum Fault
sum_on later (Err fault) = Err fault
sum_on later (Ok sum) = later sum

abbrev pub sum_in : AllKnown → Sum → List Standing → Result Sum Fault
sum_in known before [] = Ok before
sum_in known before (one ∷ more) =
    sum_on (λ next. sum_in known next more) (added_if before (part_written known one))

abbrev pub with_before : {A : Type 0} → List A → Result (List A) Fault → Result (List A) Fault
with_before before (Err fault) = Err fault
with_before before (Ok more) = Ok (before ++ more)

-- ---- both

abbrev pub sum_after : Laid → Result Sum Fault
sum_after laid = sum_in (known_of laid.reached laid.standings) nothing_written laid.standings

abbrev pub imaged : Laid → Result Sum Fault → Result Image Fault
imaged laid (Err fault) = Err fault
imaged laid (Ok sum) =
    Ok (record {
      code = sum.code;
      numbers = sum.numbers;
      ticks = sum.ticks;
      symbols = laid.reached.symbols;
      ends = ends_of laid.reached;
    })

abbrev pub settled_by : (bases : Counters) → (sizes laid : Laid) → Result Image Fault
settled_by bases sizes laid =
    if are_settled bases sizes.reached.counters laid.reached.counters then imaged laid (sum_after laid)
    else wrong_at Unsettled 0

abbrev pub with_laid : (Laid → Result Image Fault) → Result Laid Fault → Result Image Fault
with_laid then_by (Err fault) = Err fault
with_laid then_by (Ok laid) = then_by laid

abbrev pub based_by : List Piece → (sizes : Laid) → Option Counters → Result Image Fault
based_by parts sizes None = wrong_at Backwards 0
based_by parts sizes (Some bases) = with_laid (settled_by bases sizes) (laid_in 0 (nothing_laid bases) parts)

abbrev pub sized_by : List Piece → (sizes : Laid) → Result Image Fault
sized_by parts sizes = based_by parts sizes (bases_of sizes.reached.counters)

-- what the passes make of parts
abbrev pub program_in : List Piece → Result Image Fault
program_in parts = with_laid (sized_by parts) (laid_in 0 (nothing_laid zeros) parts)

-- ---- why a text isn't assembled

abbrev pub unread : (text : List ℕ) → TokensFault → AssemblyError
unread text (reads.Wrong fault) = Faulty (record { wrong = InText fault.wrong; place = place_in text fault.left })
unread text reads.NoMemory = errors.NoMemory

abbrev pub stopped : (text : List ℕ) → Stop → AssemblyError
stopped text (stops.At fault) = Faulty (record { wrong = InStatement fault.wrong; place = place_in text fault.left })
stopped text stops.NoMemory = errors.NoMemory
